-- Checks 6 and 8 go through the rows from the lowest up and note something of each: what holds when the first rows pass.
use Rattle.std.proofs.Common.{ℕ, ◌+◌, ◌≤◌, ◌<◌, ◌≡◌, ◌∙◌, Bool, true, false, List, [], length, set, arith}
use Rattle.std.proofs.Math.Dec.{T}
use Rattle.std.proofs.Math.ListN.{replicate, length-set, length-replicate}
use Rattle.words.specs.Words.{words}
use Rattle.rules.specs.Rows.{kind_at, is_expr}
use Rattle.rules.specs.Tree.{Expr, expr_at}
use Rattle.rules.specs.Scope.{Scope}
use Rattle.rules.specs.Refusals.{Lowest}
use Rattle.rules.specs.Sites.{Site, failing}
use Rattle.rules.specs.Answers.{rows_of, sites_of}
use Rattle.rows.specs.Passed.{Passes}
use Rattle.rows.specs.ByRow.{site_at, scope_at}
use Rattle.rows.proofs.Table.{rows_few}
use Rattle.rows.proofs.ByRows.{by_rows_none, by_rows_lowest}
use Rattle.table.proofs.LoopLaws.{FirstPass, first_none, first_breaks, first_next, first-all}
use Rattle.names.specs.Notes.{NotedTo}
use Rattle.names.proofs.NoteLaws.{passes_one, passes_three, noted_none, noted_next}

-- the first i rows pass a check, and f of their expressions is noted
pub record Noted {A : Type 0} (test : Site → Bool) (f : Scope → Expr → A) (blank : A) (table : List ℕ) (notes : List A) (i : ℕ) : Type 0 where
  pub first : FirstPass (λ r. test (site_at table r)) (rows_of table) i
  pub long : length notes ≡ 1024
  pub noted : NotedTo f blank table notes i

-- before any row
pub noted_start : {A : Type 0} (test : Site → Bool) (f : Scope → Expr → A) (blank : A) (table : List ℕ)
    → Noted test f blank table (replicate 1024 blank) 0
noted_start {A} test f blank table = record {
  first = first_none (λ r. test (site_at table r)) (rows_of table);
  long = length-replicate {A = A} 1024 blank;
  noted = noted_none f blank table (replicate 1024 blank);
}

-- a row of a table has a place among the notes
pub row_few : (table : List ℕ) → Passes 5 table → (i : ℕ) → i < rows_of table → i < 1024
row_few table ok i more = omega (arith, rows_few table (passes_one table ok))

module _ {A : Type 0} {test : Site → Bool} {f : Scope → Expr → A} {blank : A} {table : List ℕ} {notes : List A} {i : ℕ} (ok : Passes 5 table)
    (so_far : Noted test f blank table notes i) where
  -- a row that fails is the lowest that does
  pub noted_breaks : i < rows_of table → test (site_at table i) ≡ false → Lowest i (failing test (sites_of table))
  noted_breaks more breaks = by_rows_lowest table (passes_three table ok) test i (first_breaks so_far.first more breaks)

  -- with a row more that passes
  pub noted_more : i < rows_of table → test (site_at table i) ≡ true → (v : A)
      → (T (is_expr (kind_at (words table) i)) → v ≡ f (scope_at table i) (expr_at (words table) i)) → Noted test f blank table (set notes i v) (i + 1)
  noted_more more passes v is =
      let room : i < length notes = omega (arith, row_few table ok i more, so_far.long) in
      record {
        first = first_next so_far.first more passes;
        long = length-set notes i v ∙ so_far.long;
        noted = noted_next f blank table notes i v so_far.noted room is;
      }

  -- with all rows none fails
  pub noted_all : rows_of table ≤ i → failing test (sites_of table) ≡ []
  noted_all all = by_rows_none table (passes_three table ok) test (first-all so_far.first all)
