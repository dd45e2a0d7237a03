-- What follows when a table passes checks 1 and 2: its length, its tree and its sites, and that its labels are the smallest set.
use Prim.Native.Nat.{ℕ, ◌%◌, ◌≤◌, ◌<◌}
use mathlib.Core.Path.{◌≡◌}
use mathlib.Core.Logic.{◌↔◌}
use mathlib.Core.Bool.{◌&&◌}
use mathlib.Core.List.{List, []}
use lib.Dec.{T, eqb, ltb, leb, eqb→eq, ltb→lt, leb→le}
use lib.ListN.{length}
use native.Mathlib.Omega.{arith}
use Rattle.words.specs.Words.{words}
use Rattle.rules.specs.Rows.{table_fits, row_count, row_shaped}
use Rattle.rules.specs.Scope.{lookup}
use Rattle.rules.specs.Labels.{all_rules, all_inputs, Closed, Secret}
use Rattle.rules.specs.Answers.{program_of, rows_of, sites_of, secret_in, failing1, failing2}
use Rattle.rules.proofs.Places.{fault_none, none_below}
use Rattle.rules.proofs.Sites.{Each, each_map}
use Rattle.rules.proofs.Formed.{FormedS, program_formed}
use Rattle.rules.proofs.Labels.{RowsBelow, closed, exactly}
use Rattle.rules.proofs.Sited.{SiteFormed, stmt_sites}
use Rattle.rules.proofs.Basics.{and_left, and_right}

-- what check 1 asks of a table's bytes
pub record Fits (table : List ℕ) : Type 0 where
  pub whole : length table % 4 ≡ 0
  pub some : 0 < length (words table)
  pub rows : length (words table) % 4 ≡ 0
  pub few : length (words table) ≤ 4096

module _ (table : List ℕ) (no_1 : failing1 table ≡ []) where
  -- a table that passes check 1 has it
  pub fits_whole : Fits table
  unfolding failing1 table_fits
  fits_whole =
      let n = length (words table) in
      let all = eqb (length table % 4) 0 in
      let fits = fault_none (all && (ltb 0 n && (eqb (n % 4) 0 && leb n 4096))) 0 no_1 in
      let words-fit = and_right all (ltb 0 n && (eqb (n % 4) 0 && leb n 4096)) fits in
      let rows-fit = and_right (ltb 0 n) (eqb (n % 4) 0 && leb n 4096) words-fit in
      record {
        whole = eqb→eq (length table % 4) 0 (and_left all (ltb 0 n && (eqb (n % 4) 0 && leb n 4096)) fits);
        some = ltb→lt 0 n (and_left (ltb 0 n) (eqb (n % 4) 0 && leb n 4096) words-fit);
        rows = eqb→eq (n % 4) 0 (and_left (eqb (n % 4) 0) (leb n 4096) rows-fit);
        few = leb→le n 4096 (and_right (eqb (n % 4) 0) (leb n 4096) rows-fit);
      }

  -- there are rows
  pub some_rows : 0 < rows_of table
  unfolding rows_of row_count
  some_rows = let f = fits_whole in omega arith

  module _ (no_2 : failing2 table ≡ []) where
    -- the tree, and its sites
    pub tree_formed : FormedS (words table) (rows_of table) (program_of table)
    unfolding program_of rows_of failing2
    tree_formed = program_formed (words table) some_rows (none_below (row_shaped (words table) (row_count (words table))) (row_count (words table)) no_2)

    pub sites_formed : Each (SiteFormed (words table) (rows_of table)) (sites_of table)
    unfolding sites_of lookup
    sites_formed = stmt_sites (words table) (rows_of table) (program_of table) 1 [] tree_formed (λ x. tt)

    -- the rows of all sites, and of what is in scope there, are rows of the table
    rows_below : Each (RowsBelow (rows_of table)) (sites_of table)
    rows_below = each_map (sites_of table) (λ s h. h.rows) sites_formed

    -- the labels are closed, and the smallest set that is
    pub labels_closed : Closed (all_inputs (sites_of table)) (all_rules (sites_of table)) (secret_in table)
    unfolding secret_in
    labels_closed = closed (rows_of table) (sites_of table) rows_below

    pub labels_least : (r : ℕ) → T (secret_in table r) ↔ Secret (sites_of table) r
    unfolding secret_in
    labels_least = exactly (rows_of table) (sites_of table) rows_below
