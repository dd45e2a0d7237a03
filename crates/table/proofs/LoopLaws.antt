-- The lowest row that fails a test: what a search for it has found, and what a loop from 0 on keeps true that also notes something of
-- each row.
use Prim.Native.Nat.{ℕ, ◌+◌, ◌≤◌, ◌<◌}
use mathlib.Core.Path.{◌≡◌, refl, sym}
use mathlib.Core.Bool.{Bool, true, false}
use mathlib.Core.List.{List, []}
use native.Mathlib.Numerals.{add-one}
use native.Mathlib.Omega.{arith}
use Rattle.std.specs.Prelude.{Result, Ok, Err}
use Rattle.rules.specs.Places.{failing_below}
use Rattle.rules.specs.Refusals.{Lowest}
use Rattle.rules.specs.Sites.{Site, failing}
use Rattle.rules.specs.Answers.{rows_of, sites_of}
use Rattle.rules.proofs.Basics.{of_true}
use Rattle.rules.proofs.Places.{below_none, first_fails, passes_on}
use Rattle.rows.specs.Passed.{Passes}
use Rattle.rows.specs.ByRow.{site_at}
use Rattle.rows.proofs.ByRows.{by_rows_none, by_rows_lowest}
use Rattle.table.specs.declared.row.Row.{Row}
use Rattle.table.specs.Checks.{Finds, FindsLowest}

-- where each of m rows passes the test that `ok` answers, none fails
all_pass : (answers : Row → Bool → Type 0) (ok : ℕ → Bool) (m : ℕ) → ((r : Row) (b : Bool) → r.0 < m → answers r b → b ≡ ok r.0)
    → ((r : Row) → r.0 < m → answers r true) → failing_below ok m ≡ []
all_pass answers ok m is pass =
    below_none ok m (λ r below. let row : Row = record { 0 = r } in of_true (ok r) (sym (is row true below (pass row below))))

-- a search by the test finds what the check finds
pub finds_lowest :
    {answers : Row → Bool → Type 0} {n : ℕ} {found : Result (Unit {0}) Row} → FindsLowest answers n found → (ok : ℕ → Bool)
    → ((r : Row) (b : Bool) → r.0 < n → answers r b → b ≡ ok r.0) → Finds (failing_below ok n) found
finds_lowest {answers} {n} {found = Ok u} search ok is = all_pass answers ok n is search.none
finds_lowest {answers} {n} {found = Err row} search ok is =
    let (below, (fails, pass)) = search.lowest in
    first_fails ok row.0 n (all_pass answers ok row.0 (λ r b lower. is r b (omega arith)) pass) below (sym (is row false below fails))

-- and where the check is one of the sites, what is found of the rows is what it finds of the sites
pub finds_by_rows : (table : List ℕ) → Passes 3 table → (test : Site → Bool) (found : Result (Unit {0}) Row)
    → Finds (failing_below (λ r. test (site_at table r)) (rows_of table)) found → Finds (failing test (sites_of table)) found
finds_by_rows table ok test (Ok u) = by_rows_none table ok test
finds_by_rows table ok test (Err row) = by_rows_lowest table ok test row.0

-- the first i of n places pass a test
pub record FirstPass (ok : ℕ → Bool) (n i : ℕ) : Type 0 where
  pub within : i ≤ n
  pub none_fails : failing_below ok i ≡ []

-- before any place
pub first_none : (ok : ℕ → Bool) (n : ℕ) → FirstPass ok n 0
unfolding failing_below
first_none ok n = record { within = omega arith; none_fails = refl }

module _ {ok : ℕ → Bool} {n i : ℕ} (first : FirstPass ok n i) where
  -- a place that fails is the lowest that does
  pub first_breaks : i < n → ok i ≡ false → Lowest i (failing_below ok n)
  first_breaks more breaks = first_fails ok i n first.none_fails more breaks

  -- with a place more that passes
  pub first_next : i < n → ok i ≡ true → FirstPass ok n (i + 1)
  first_next more passes = record { within = omega arith; none_fails = rw add-one (passes_on ok i first.none_fails passes) }

  -- with all places
  pub first-all : n ≤ i → failing_below ok n ≡ []
  first-all all =
      let last : i ≡ n = omega (arith, first.within) in
      rw (← last) first.none_fails
