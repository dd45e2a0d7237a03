-- What the walk of check 5 over a whole program leaves: the failing rows of check 5, and for each row that names something the row
-- that binds the name.
use Prim.Native.Nat.{ℕ, ◌-◌, ◌<◌}
use mathlib.Core.Path.{◌≡◌, refl, sym, ap, subst, ◌∙◌}
use mathlib.Core.Logic.{◌≢◌, inl, inr}
use mathlib.Core.Bool.{Bool, true, false, cond}
use mathlib.Core.Option as rules
use mathlib.Core.Option.{none, some}
use mathlib.Core.List.{List, [], ◌∷◌}
use lib.Dec.{eqb}
use lib.ListN.{length, get_or, set, length-set}
use lib.Seq.{get_or-set_same, get_or-set_other}
use borrow.Author.Tests.{eqb-true, eqb-false}
use native.Mathlib.Omega.{arith}
use Rattle.std.specs.Prelude.{Option, Some, None, Result, Ok, Err, All, IfSome, MatchOption}
use Rattle.std.proofs.lemmas.List.Elements.{All-nil, All-tail}
use Rattle.words.specs.Words.{words}
use Rattle.rules.specs.Tree.{program, stmt_at}
use Rattle.rules.specs.Scope.{Known}
use Rattle.rules.specs.Sites.{Site, row_n}
use Rattle.rules.specs.Answers.{program_of, rows_of, sites_of, failing5}
use Rattle.rows.specs.Passed.{Passes, In}
use Rattle.rows.specs.ByRow.{site_of, site_at, scope_at, node_at}
use Rattle.rows.proofs.Table.{passes_fewer, rows_some, rows_few}
use Rattle.rows.proofs.Formed.{last_is_stmt}
use Rattle.rows.proofs.Once.{times, rows_in, stands}
use Rattle.rows.proofs.Bridge.{Has}
use Rattle.rows.proofs.ByRows.{rows_once, site_there, site_is, bindings_fit}
use Rattle.table.specs.declared.row.Row.{Row}
use Rattle.table.specs.Checks.{Finds}
use Rattle.names.specs.declared.scope.Walk.{Walk}
use Rattle.names.specs.Declares.{name_of, found_by, known_by, Declares, Knows}
use Rattle.names.specs.Stack.{scope_of}
use Rattle.names.specs.Sweep.{binder_of, stands_for, noted, InTable, LowestOf, Swept}
use Rattle.names.specs.Walk.{CanWalk, Walked}

-- at a row that stands nowhere, nothing is noted
noted_miss : (ss : List Site) (binders : List (Option Row)) (r : ℕ) → stands r ss ≡ 0 → get_or (noted ss binders) r None ≡ get_or binders r None
unfolding noted times rows_in
noted_miss [] binders r h = refl
noted_miss (s ∷ ss) binders r h = go (eqb (row_n s.node) r) refl (noted_miss ss)
  where
    go : (b : Bool) → eqb (row_n s.node) r ≡ b
        → ((binders : List (Option Row)) (r : ℕ) → stands r ss ≡ 0 → get_or (noted ss binders) r None ≡ get_or binders r None)
        → get_or (noted ss (set binders (row_n s.node) (binder_of (stands_for s)))) r None ≡ get_or binders r None
    go true e rec = let here = rw e at h in absurd (omega arith)
    go false e rec =
        let later = rw e at h in
        let other : r ≢ row_n s.node = λ q. eqb-false (row_n s.node) r e (sym q) in
        rec _ r (omega arith) ∙ get_or-set_other binders (row_n s.node) r _ None other

-- at a row that stands once, it is noted what binds the name of its site
noted_at : (ss : List Site) (binders : List (Option Row)) (r : ℕ) → stands r ss ≡ 1 → r < length binders
    → get_or (noted ss binders) r None ≡ binder_of (stands_for (site_of ss r))
unfolding noted times rows_in site_of
noted_at [] binders r h l = absurd (omega arith)
noted_at (s ∷ ss) binders r h l = go (eqb (row_n s.node) r) refl (noted_at ss)
  where
    after : List (Option Row)
    after = set binders (row_n s.node) (binder_of (stands_for s))

    go : (b : Bool) → eqb (row_n s.node) r ≡ b
        → ((binders : List (Option Row)) (r : ℕ) → stands r ss ≡ 1 → r < length binders → get_or (noted ss binders) r None ≡ binder_of (stands_for (site_of ss r)))
        → get_or (noted ss after) r None ≡ binder_of (stands_for (cond (eqb (row_n s.node) r) s (site_of ss r)))
    go true e rec =
        let here = rw e at h in
        let row : row_n s.node ≡ r = eqb-true (row_n s.node) r e in
        let at_row = get_or-set_same binders (row_n s.node) (binder_of (stands_for s)) None (omega arith) in
        rw e (noted_miss ss after r (omega arith) ∙ subst (λ (q : ℕ). get_or after q None ≡ binder_of (stands_for s)) row at_row)
    go false e rec =
        let later = rw e at h in
        rw e (rec after r (omega arith) (omega (arith, length-set binders (row_n s.node) (binder_of (stands_for s)))))

-- what the name of one of the sites stands for is in the table
in_table_has : (table : List ℕ) (s : Site) (ss : List Site) → Has s ss → All (λ s. InTable table (stands_for s)) ss → InTable table (stands_for s)
in_table_has table s [] h all = absurd h
in_table_has table s (x ∷ xs) (inl e) all = subst (λ (s : Site). InTable table (stands_for s)) e (all 0 x (omega arith))
in_table_has table s (x ∷ xs) (inr h) all = in_table_has table s xs h (All-tail (λ s. InTable table (stands_for s)) x xs all)

-- the row that is noted is a row of the table
noted_inside : (table : List ℕ) (found : rules.Option Known) → InTable table found → IfSome (binder_of found) (λ binder. binder.0 < rows_of table)
noted_inside table none is = tt
noted_inside table (some k) is = is.0

-- and it is the row that binds the name
binder_knows : (table : List ℕ) (found : rules.Option Known) → InTable table found → known_by (words table) (binder_of found) ≡ found
binder_knows table none is = refl
binder_knows table (some k) is = ap some (sym is.1)

-- what check 5 answers, by the lowest row that fails it
pub finds_of_lowest : (ps : List ℕ) (lowest : Option Row) (found : Result (Unit {0}) Row)
    → MatchOption lowest (found ≡ Ok tt) (λ row. found ≡ Err row) → LowestOf ps lowest → Finds ps found
finds_of_lowest ps None found is empty = rw is empty
finds_of_lowest ps (Some row) found is low = rw is low

-- a table that passes check 4
module _ (table : List ℕ) (ok : Passes 4 table) where
  -- it passes the checks before
  passes_3 : Passes 3 table
  passes_3 = passes_fewer table 3 ok

  passes_2 : Passes 2 table
  passes_2 = passes_fewer table 2 passes_3

  pub passes_1 : Passes 1 table
  passes_1 = passes_fewer table 1 passes_2

  -- it has rows
  pub rows_there : 0 < rows_of table
  rows_there = rows_some table passes_1

  -- the program stands at the last row
  program_is : program_of table ≡ stmt_at (words table) (rows_of table - 1)
  unfolding program_of program rows_of
  program_is = refl

  -- a walk over the program begins with an empty stack, with no row that has failed, at the last of n rows
  module _ {walk : Walk} (same : walk.table.now ≡ table) (empty : walk.scope.items ≡ []) (n : ℕ) (count : n ≡ rows_of table) where
    -- the program can be walked
    pub can_walk_all : CanWalk walk (n - 1)
    can_walk_all = rw count (record {
      look = record {
        passes = rw same passes_2;
        stacked = rw empty (All-nil (λ row. In walk.table.now row.0));
        there = rw same (omega (arith, rows_there));
      };
      is_a_stmt = rw same (last_is_stmt table passes_2);
      room = rw (empty, same) (rw (sym program_is) (omega (arith, bindings_fit table passes_3, rows_few table passes_1)));
    })

    -- the program has been walked
    module _ {walk' : Walk} (none_failed : walk.lowest ≡ None) (w : Walked walk walk' (n - 1)) where
      -- so all sites of the table are swept
      swept_all : Swept table (sites_of table) walk.binders.now walk'.binders.now None walk'.lowest
      unfolding sites_of scope_of
      swept_all = rw (program_is, ← count, ← none_failed, ← same) (rw empty at (w.swept 1))

      -- check 5 finds the rows that fail it
      pub finds_all : LowestOf (failing5 table) walk'.lowest
      unfolding failing5
      finds_all = swept_all.finds [] refl

      -- the array is as long as it should be
      module _ (long : length walk.binders.now ≡ 1024) where
        -- at each row, it is noted what binds the name of its site
        noted_each : (q : ℕ) → q < rows_of table → get_or walk'.binders.now q None ≡ binder_of (stands_for (site_at table q))
        unfolding site_at
        noted_each q l =
            rw swept_all.noted_is
            (noted_at (sites_of table) walk.binders.now q (rows_once table passes_3 q l) (omega (arith, rows_few table passes_1)))

        -- which is in the table
        in_table_all : (q : ℕ) → q < rows_of table → InTable table (stands_for (site_at table q))
        in_table_all q l = in_table_has table (site_at table q) (sites_of table) (site_there table passes_3 q l) swept_all.in_table

        -- what the name at a row stands for is what that of its site does
        stands_at : (q : ℕ) → q < rows_of table → stands_for (site_at table q) ≡ found_by (scope_at table q) (name_of (node_at (words table) q))
        stands_at q l = ap stands_for (site_is table passes_3 q l)

        -- for each row the row that binds its name is noted
        pub declares_all : Declares table walk'.binders.now
        declares_all = record {
          stands = λ q l. rw (noted_each q l) (binder_knows table (stands_for (site_at table q)) (in_table_all q l) ∙ stands_at q l);
          inside = λ q l. rw (noted_each q l) (noted_inside table (stands_for (site_at table q)) (in_table_all q l));
        }

-- check 5 leaves no less than the checks after it ask
pub declares_knows : {table : List ℕ} {binders : List (Option Row)} → Declares table binders → Knows table binders
declares_knows declares = record { stands = λ r h k e. declares.stands r h ∙ e; inside = declares.inside }
