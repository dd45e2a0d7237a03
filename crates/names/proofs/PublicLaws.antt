-- Check 7 in code: the rule for an index and for a guard, kind by kind, where the secret rows are marked.
use Rattle.std.proofs.Common.{ℕ, ◌<◌, ◌≡◌, refl, sym, ap, ◌∙◌, Bool, List, arith}
use Rattle.std.proofs.lemmas.Grind.{common_steps}
use Rattle.std.proofs.Math.Dec.{T}
use Rattle.words.specs.Words.{words}
use Rattle.rules.specs.Rows.{Kind, word, kind_at, is_expr, Field, within, expr, stmt, shape_of}
use Rattle.rules.specs.Tree.{row_e, expr_of, stmt_of, expr_at, stmt_at}
use Rattle.rules.specs.Sites.{row_n, Site}
use Rattle.rules.specs.Labels.{public, check7}
use Rattle.rules.specs.Answers.{rows_of, secret_in}
use Rattle.rows.specs.Passed.{Passes}
use Rattle.rows.specs.ByRow.{node_at, site_at}
use Rattle.rows.proofs.Formed.{Formed, Holds, fields, formed, node_row}
use Rattle.rows.proofs.Heads.{node_expr}
use Rattle.table.specs.Shapes.{as_kind}
use Rattle.table.specs.Meaning.{meaning_of, meaning_at}
use Rattle.names.specs.Labels.{marked, public_by, Labelled}
use Rattle.names.proofs.NoteLaws.{passes_two}
use Rattle.names.proofs.ToldLaws.{node_with, site_with}

-- the expression of a row has that row
pub row_of_expr : {t : List ℕ} {n : ℕ} → Formed t n → (w : ℕ) → w < n → T (is_expr (kind_at t w)) → row_e (expr_at t w) ≡ w
unfolding row_n node_at
row_of_expr {t} f w h e = sym (ap row_n (node_expr (kind_at t w) (expr_at t w) (stmt_at t w) e)) ∙ node_row f w h

-- the expression in a word is marked where it is in a set, if the word's field holds one
abbrev MarkedIn : List ℕ → (ℕ → Bool) → List Bool → Field → ℕ → Type 0
MarkedIn t S secret (within low high) w = Unit {0}
MarkedIn t S secret expr w = marked secret w ≡ S (row_e (expr_at t w))
MarkedIn t S secret stmt w = Unit {0}

module _ (t : List ℕ) (r a b c : ℕ) (S : ℕ → Bool) (secret : List Bool) where
  -- check 7 of a row of a kind
  public_of_kind : (k : Kind) → MarkedIn t S secret (shape_of k).a a → MarkedIn t S secret (shape_of k).b b
      → public_by (meaning_of (as_kind k) a b c) secret ≡ public S (node_with t r k a b c)
  unfolding public expr_of stmt_of
  public_of_kind k first second = grind (arith, common_steps)

module _ (table : List ℕ) (secret : List Bool) (ok : Passes 5 table) (labelled : Labelled table secret) (r : ℕ) (h : r < rows_of table) where
  abbrev t : List ℕ
  t = words table

  shapes : Formed t (rows_of table)
  shapes = formed table (passes_two table ok)

  marked_in : (f : Field) (w : ℕ) → Holds t r w f → MarkedIn t (secret_in table) secret f w
  marked_in (within low high) w is = tt
  marked_in expr w is =
      let below : w < rows_of table = omega (arith, is.0) in
      labelled.are w below ∙ ap (secret_in table) (sym (row_of_expr shapes w below is.1))
  marked_in stmt w is = tt

  -- check 7 of a row
  pub public_at_row : public_by (meaning_at t r) secret ≡ check7 (secret_in table) (site_at table r)
  unfolding meaning_at check7
  public_at_row =
      let says = fields shapes r h (kind_at t r) refl in
      public_of_kind t r (word t r 1) (word t r 2) (word t r 3) (secret_in table) secret (kind_at t r)
      (marked_in (shape_of (kind_at t r)).a (word t r 1) says.a_is) (marked_in (shape_of (kind_at t r)).b (word t r 2) says.b_is)
      ∙ sym (ap (λ (s : Site). public (secret_in table) s.node) (site_with table ok r h))
