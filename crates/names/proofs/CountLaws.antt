-- Check 8 in code: the count of an expression and the rule for an index, kind by kind.
use Rattle.std.proofs.Common.{arith, ℕ, ◌≡◌, sym, ap, ◌∙◌, List, get_or}
use Rattle.std.proofs.lemmas.Grind.{common_steps}
use Rattle.std.specs.Prelude as code
use Rattle.std.proofs.Math.Option.{Option}
use Rattle.std.proofs.Math.Dec.{T}
use Rattle.words.specs.Words.{words}
use Rattle.rules.specs.Rows.{Kind, word, kind_at, is_expr}
use Rattle.rules.specs.Tree.{expr_of, stmt_of, expr_at}
use Rattle.rules.specs.Scope.{Known, Scope}
use Rattle.rules.specs.Sites.{Site}
use Rattle.rules.specs.Counts.{count, counted, check8}
use Rattle.rows.specs.Passed.{Passes}
use Rattle.rows.specs.ByRow.{site_at, scope_at}
use Rattle.rows.proofs.Formed.{formed, expr_law}
use Rattle.table.specs.declared.row.Row.{Row}
use Rattle.table.specs.Shapes.{as_kind}
use Rattle.table.specs.Meaning.{meaning_of, meaning_at}
use Rattle.names.specs.declared.notes.Given.{Given}
use Rattle.names.specs.Declares.{Knows}
use Rattle.names.specs.Notes.{given_at}
use Rattle.names.specs.Counts.{count_by, counted_by, CanCount}
use Rattle.names.proofs.NoteLaws.{said, said_by, passes_two}
use Rattle.names.proofs.ToldLaws.{meant_op_lem, node_with, site_with, NotedWords, KnownIn, known_in, noted_words}

-- a row of a kind, with what the code knows of its name and the counts noted
module _ (t : List ℕ) (sc : Scope) (r a b c : ℕ) (q : Option Known) (counts : List ℕ) where
  -- the count of an expression of a kind
  count_of_kind : (k : Kind) → KnownIn sc k a q → NotedWords count 0 t sc counts k a b c → T (is_expr k)
      → count_by (meaning_of (as_kind k) a b c) (said q).count counts ≡ count sc (expr_of k r a b c (expr_at t))
  unfolding count expr_of stmt_of
  count_of_kind k known noted e = let m = meant_op_lem in let words = noted in grind (arith, common_steps)

  -- check 8 of a row of a kind
  counted_of_kind : (k : Kind) → KnownIn sc k a q → NotedWords count 0 t sc counts k a b c
      → counted_by (meaning_of (as_kind k) a b c) (said q).length counts ≡ counted sc (node_with t r k a b c)
  unfolding counted expr_of stmt_of
  counted_of_kind k known noted = grind (arith, common_steps)

module _ {table counts : List ℕ} {binders : List (code.Option Row)} {r : ℕ} (ok : Passes 5 table) (knows : Knows table binders)
    (can : CanCount table counts r) where
  abbrev t : List ℕ
  t = words table

  abbrev given : Given
  given = given_at t (get_or binders r code.None)

  -- the count of the expression at a row
  pub count_at_row : T (is_expr (kind_at t r)) → count_by (meaning_at t r) given.count counts ≡ count (scope_at table r) (expr_at t r)
  unfolding meaning_at
  count_at_row e =
      let shapes = formed table (passes_two table ok) in
      rw (← said_by t (get_or binders r code.None))
      (count_of_kind t (scope_at table r) r (word t r 1) (word t r 2) (word t r 3) _ counts (kind_at t r) (known_in ok knows can.there)
      (noted_words ok can) e
      ∙ ap (count (scope_at table r)) (sym (expr_law shapes r can.there)))

  -- check 8 of a row
  pub counted_at_row : counted_by (meaning_at t r) given.length counts ≡ check8 (site_at table r)
  unfolding meaning_at check8
  counted_at_row =
      rw (← said_by t (get_or binders r code.None))
      (counted_of_kind t (scope_at table r) r (word t r 1) (word t r 2) (word t r 3) _ counts (kind_at t r) (known_in ok knows can.there)
      (noted_words ok can)
      ∙ sym (ap (λ (s : Site). counted s.scope s.node) (site_with table ok r can.there)))
