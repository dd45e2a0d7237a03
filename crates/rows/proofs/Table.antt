-- What check 1 says of a table's bytes: they are whole rows, at least one, at most 1,024.
use Prim.Native.Nat.{ℕ, zero, suc, ◌*◌, ◌≤◌, ◌<◌}
use mathlib.Core.Path.{◌≡◌}
use mathlib.Core.List.{List, [], ◌∷◌}
use lib.ListN.{length, take}
use native.Mathlib.Omega.{arith}
use Rattle.words.proofs.Words.{words-length}
use Rattle.rules.specs.Rows.{row_count}
use Rattle.rules.specs.Refusals.{Clear, table_checks}
use Rattle.rules.specs.Answers.{rows_of}
use Rattle.rules.proofs.Shaped.{fits_whole, some_rows}
use Rattle.rows.specs.Passed.{Passes, In}

-- where k + 1 of these checks are clear, so are k
clear_fewer : (pss : List (List ℕ)) (k : ℕ) → Clear (take (suc k) pss) → Clear (take k pss)
clear_fewer [] zero ok = tt
clear_fewer [] (suc k) ok = tt
clear_fewer (ps ∷ pss) zero ok = tt
clear_fewer (ps ∷ pss) (suc k) ok = (ok.0, clear_fewer pss k ok.1)

-- a table that passes k + 1 checks passes k
pub passes_fewer : (table : List ℕ) (k : ℕ) → Passes (suc k) table → Passes k table
passes_fewer table k ok = clear_fewer (table_checks table) k ok

module _ (table : List ℕ) (ok : Passes 1 table) where
  -- sixteen bytes are a row
  pub rows_whole : length table ≡ 16 * rows_of table
  unfolding rows_of row_count
  rows_whole = let f = fits_whole table ok.0 in omega (arith, words-length table)

  -- there are rows
  pub rows_some : 0 < rows_of table
  rows_some = some_rows table ok.0

  -- and at most 1,024
  pub rows_few : rows_of table ≤ 1024
  unfolding rows_of row_count
  rows_few = let f = fits_whole table ok.0 in omega arith

  -- every row lies in the bytes
  pub rows_in_lem : (r : ℕ) → r < rows_of table → In table r
  rows_in_lem r h = omega (arith, rows_whole)
