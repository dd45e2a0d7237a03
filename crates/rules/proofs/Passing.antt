-- What follows when a table passes checks 1 to 8: each part of it is fine, and no access passes an end.
use Prim.Native.Nat.{ℕ}
use mathlib.Core.Path.{◌≡◌}
use mathlib.Core.Bool.{Bool}
use mathlib.Core.List.{List, [], ◌∷◌}
use lib.Dec.{T}
use lib.ListN.{take}
use Rattle.words.specs.Words.{words}
use Rattle.rules.specs.Scope.{after}
use Rattle.rules.specs.Sites.{Site}
use Rattle.rules.specs.Names.{check5}
use Rattle.rules.specs.Types.{check6}
use Rattle.rules.specs.Labels.{check7}
use Rattle.rules.specs.Counts.{check8}
use Rattle.rules.specs.Sorts.{Sort}
use Rattle.rules.specs.Run.{start}
use Rattle.rules.specs.Plain.{Given}
use Rattle.rules.specs.Direct.{follow, begin}
use Rattle.rules.specs.Accesses.{AllBelow, read_accesses, run_accesses}
use Rattle.rules.specs.Answers.{program_of, rows_of, sites_of, secret_in, run_of, failing1, failing2, failing5, failing6, failing7, failing8}
use Rattle.rules.proofs.Sites.{Each, each_map, none_failing}
use Rattle.rules.proofs.Labels.{ClosedAt, each_rules}
use Rattle.rules.proofs.InputSorts.{AtInputSort, input_sort, input_sorts}
use Rattle.rules.proofs.Fine.{FineS}
use Rattle.rules.proofs.Checked.{Passes, fine_stmt}
use Rattle.rules.proofs.Shaped.{tree_formed, sites_formed, labels_closed}
use Rattle.rules.proofs.Statements.{Holds, stmt_agrees, start_holds}
use Rattle.rules.proofs.Accesses.{stmt_below}
use Rattle.rules.specs.Refusals.{Clear, table_checks}

-- each site passes every check that each passes
passes_each : (t : List ℕ) (S : ℕ → Bool) (σ : ℕ → ℕ → Sort) (ss : List Site) → Each (λ s. T (check5 s)) ss → Each (λ s. T (check6 t s)) ss → Each (λ s. T (check7 S s)) ss
    → Each (λ s. T (check8 s)) ss → Each (ClosedAt S) ss → Each (λ s. AtInputSort σ s.node) ss → Each (Passes t S σ) ss
passes_each t S σ [] a b c d e f = tt
passes_each t S σ (s ∷ ss) a b c d e f = (
  record { names = a.0; types = b.0; secrets = c.0; counts = d.0; rules = e.0.0; sources = e.0.1; sort = f.0 },
  passes_each t S σ ss a.1 b.1 c.1 d.1 e.1 f.1,
)

-- A table that passes checks 1 to 8, whether or not its run is short enough and its circuit small enough.
module _ (table : List ℕ) (clear : Clear (take 8 (table_checks table))) where
  -- the checks
  no_1 : failing1 table ≡ []
  no_1 = clear.0

  no_2 : failing2 table ≡ []
  no_2 = clear.1.0

  no_5 : failing5 table ≡ []
  no_5 = clear.1.1.1.1.0

  no_6 : failing6 table ≡ []
  no_6 = clear.1.1.1.1.1.0

  no_7 : failing7 table ≡ []
  no_7 = clear.1.1.1.1.1.1.0

  no_8 : failing8 table ≡ []
  no_8 = clear.1.1.1.1.1.1.1.0

  -- the sort of each input
  abbrev pub sorts : ℕ → ℕ → Sort
  sorts = input_sort (sites_of table)

  passes : Each (Passes (words table) (secret_in table) sorts) (sites_of table)
  unfolding failing5 failing6 failing7 failing8
  passes =
      let ss = sites_of table in
      let types = none_failing (check6 (words table)) ss no_6 in
      passes_each (words table) (secret_in table) sorts ss (none_failing check5 ss no_5) types
      (none_failing (check7 (secret_in table)) ss no_7) (none_failing check8 ss no_8)
      (each_rules (secret_in table) ss (labels_closed table no_1 no_2))
      (input_sorts (words table) ss (each_map ss (λ s h. h.input) (sites_formed table no_1 no_2)) types)

  pub fine : FineS (secret_in table) sorts [] (program_of table)
  unfolding sites_of
  fine = fine_stmt (words table) (rows_of table) (secret_in table) sorts (program_of table) 1 [] (tree_formed table no_1 no_2) passes

  -- the whole run and the whole direct reading
  pub in_step : (given : Given) → Holds (secret_in table) given sorts (after (program_of table) []) (run_of table) (follow given (program_of table) begin)
  unfolding run_of
  in_step given = stmt_agrees (secret_in table) given sorts (program_of table) [] fine start begin (start_holds (secret_in table) given sorts)

  -- no array access passes an end, of the direct reading or of the run
  pub accesses_below : (given : Given) → AllBelow (read_accesses given [] (program_of table) begin) × AllBelow (run_accesses (secret_in table) [] (program_of table) start)
  accesses_below given =
      let b = stmt_below (secret_in table) given sorts (program_of table) [] fine start begin (start_holds (secret_in table) given sorts) in
      (b.read, b.run)
