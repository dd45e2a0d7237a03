-- What follows, row by row, when checks 1 to 8 accept a table.
use Prim.Native.Nat.{ℕ, ◌<◌}
use mathlib.Core.Path.{◌≡◌, refl, subst}
use mathlib.Core.Bool.{Bool}
use mathlib.Core.List.{List, []}
use lib.Dec.{T, leb→le}
use Rattle.words.specs.Words.{words}
use Rattle.rules.specs.Places.{accepted}
use Rattle.rules.specs.Rows.{kind_at}
use Rattle.rules.specs.Sites.{Site, site, failing, check4}
use Rattle.rules.specs.Names.{check5}
use Rattle.rules.specs.Types.{check6}
use Rattle.rules.specs.Labels.{check7}
use Rattle.rules.specs.Counts.{check8}
use Rattle.rules.specs.Answers.{rows_of, sites_of, secret_in, checked, failing4, failing5, failing6, failing7, failing8}
use Rattle.rules.proofs.Refusals.{checked_clear}
use Rattle.rows.specs.Passed.{Passes}
use Rattle.rows.specs.ByRow.{node_at, scope_at, depth_at}
use Rattle.rows.specs.Accepted.{Accepted}
use Rattle.rows.proofs.Table.{rows_whole, rows_some, rows_few}
use Rattle.rows.proofs.Formed.{fields, formed, last_is_stmt}
use Rattle.rows.proofs.ByRows.{site_is, none_by_rows}

-- checks 1 to 8 accept exactly the tables that pass them
pub accepted_passes : (table : List ℕ) → checked table ≡ accepted tt → Passes 8 table
accepted_passes table all = (checked_clear table).0 all

pub passes_accepted : (table : List ℕ) → Passes 8 table → checked table ≡ accepted tt
passes_accepted table ok = (checked_clear table).1 ok

module _ (table : List ℕ) (ok : Passes 8 table) where
  passes_three : Passes 3 table
  passes_three = (ok.0, (ok.1.0, (ok.1.1.0, tt)))

  -- a test that no site fails holds at each row, at its depth and in its scope
  at_each : (test : Site → Bool) → failing test (sites_of table) ≡ [] → (r : ℕ) → r < rows_of table
      → T (test (site (depth_at table r) (scope_at table r) (node_at (words table) r)))
  at_each test none r h = subst (λ s. T (test s)) (site_is table passes_three r h) (none_by_rows table passes_three test none r h)

  -- the facts that running code needs
  pub accepted_rows : Accepted table
  unfolding failing4 failing5 failing6 failing7 failing8 check4 check5 check6 check7 check8
  accepted_rows = record {
    whole = rows_whole table (ok.0, tt);
    some_rows = rows_some table (ok.0, tt);
    few_rows = rows_few table (ok.0, tt);
    last = last_is_stmt table (ok.0, (ok.1.0, tt));
    fields = λ r h. fields (formed table (ok.0, (ok.1.0, tt))) r h (kind_at (words table) r) refl;
    shallow = λ r h. leb→le (depth_at table r) 64 (at_each check4 ok.1.1.1.0 r h);
    names = at_each check5 ok.1.1.1.1.0;
    types = at_each (check6 (words table)) ok.1.1.1.1.1.0;
    publics = at_each (check7 (secret_in table)) ok.1.1.1.1.1.1.0;
    indexes = at_each check8 ok.1.1.1.1.1.1.1.0;
  }
