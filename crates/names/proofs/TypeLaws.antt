-- Check 6 in code: the type of an expression and the rule at a row, kind by kind.
use Rattle.std.proofs.Common.{arith, ℕ, ◌≡◌, sym, ap, ◌∙◌, Bool, List, get_or}
use Rattle.std.proofs.lemmas.Grind.{common_steps}
use Rattle.std.specs.Prelude as code
use Rattle.std.proofs.Math.Option.{Option}
use Rattle.std.proofs.Math.Dec.{T}
use Rattle.words.specs.Words.{words}
use Rattle.rules.specs.Rows as rules
use Rattle.rules.specs.Rows.{uint, bool, Kind, unknown, is_e, is_s, word, kind_at, is_expr}
use Rattle.rules.specs.Rows.{of_declare, of_assign, of_loop, of_write, of_branch, of_out, of_then, of_number, of_truth, of_name, of_two, of_choose, of_element, of_input}
use Rattle.rules.specs.Tree.{expr_of, stmt_of, expr_at}
use Rattle.rules.specs.Scope.{Known, Scope}
use Rattle.rules.specs.Sites.{Site}
use Rattle.rules.specs.Types.{type_e, is_a, clash_to, typed, check6}
use Rattle.rules.specs.Answers.{rows_of}
use Rattle.rows.specs.Passed.{Passes}
use Rattle.rows.specs.ByRow.{site_at, scope_at}
use Rattle.rows.proofs.Formed.{Formed, formed, expr_law}
use Rattle.table.specs.declared.row.Row.{Row}
use Rattle.table.specs.declared.meaning.Ty.{Ty}
use Rattle.table.specs.declared.meaning.Ty.TheVariants.{Uint}
use Rattle.table.specs.Shapes.{as_kind}
use Rattle.table.specs.Meaning.{as_type, meaning_of, meaning_at}
use Rattle.names.specs.declared.notes.Given.{Given}
use Rattle.names.specs.Declares.{Knows}
use Rattle.names.specs.Notes.{given_at}
use Rattle.names.specs.Types.{type_by, typed_by, same_type, CanType}
use Rattle.names.proofs.NoteLaws.{said, said_by, passes_two}
use Rattle.names.proofs.ToldLaws.{meant_op_lem, node_with, site_with, NotedWords, KnownIn, known_in, noted_words}

-- two types are one in code where they are in the rules
as_types : (x y : rules.Ty) → same_type (as_type x) (as_type y) ≡ is_a x y
as_types x y = grind (arith, common_steps)

-- a row of a kind, with what the code knows of its name and the types noted
module _ (t : List ℕ) (sc : Scope) (r a b c : ℕ) (q : Option Known) (types : List Ty) where
  abbrev NotedTypes : Kind → Type 0
  NotedTypes k = NotedWords (λ sc e. as_type (type_e sc e)) Uint t sc types k a b c

  -- the type of an expression of a kind
  type_of_kind : (k : Kind) → KnownIn sc k a q → NotedTypes k → T (is_expr k)
      → type_by (meaning_of (as_kind k) a b c) (said q).ty types ≡ as_type (type_e sc (expr_of k r a b c (expr_at t)))
  unfolding type_e expr_of stmt_of
  type_of_kind k known noted e = let m = meant_op_lem in grind (arith, common_steps)

  -- check 6 of a row of a kind; `other` says whether a lower row reads the row's input at the other type
  module _ (other : Bool) where
    typed_of_kind : (k : Kind) → KnownIn sc k a q → NotedTypes k → (k ≡ is_e of_input → other ≡ clash_to t r r)
        → typed_by (meaning_of (as_kind k) a b c) (said q) types other ≡ typed t sc (node_with t r k a b c)
    unfolding typed expr_of stmt_of
    typed_of_kind k known noted clash = let types_are = as_types in grind (arith, common_steps)

module _ {table : List ℕ} {binders : List (code.Option Row)} {types : List Ty} {r : ℕ} (ok : Passes 5 table) (knows : Knows table binders)
    (can : CanType table types r) where
  abbrev t : List ℕ
  t = words table

  shapes : Formed t (rows_of table)
  shapes = formed table (passes_two table ok)

  abbrev given_here : Given
  given_here = given_at t (get_or binders r code.None)

  -- the type of the expression at a row
  pub type_at_row : T (is_expr (kind_at t r)) → type_by (meaning_at t r) given_here.ty types ≡ as_type (type_e (scope_at table r) (expr_at t r))
  unfolding meaning_at
  type_at_row e =
      rw (← said_by t (get_or binders r code.None))
      (type_of_kind t (scope_at table r) r (word t r 1) (word t r 2) (word t r 3) _ types (kind_at t r) (known_in ok knows can.there)
      (noted_words ok can) e
      ∙ ap (λ e. as_type (type_e (scope_at table r) e)) (sym (expr_law shapes r can.there)))

  -- check 6 of a row
  pub typed_at_row : (other : Bool) → (kind_at t r ≡ is_e of_input → other ≡ clash_to t r r)
      → typed_by (meaning_at t r) given_here types other ≡ check6 t (site_at table r)
  unfolding meaning_at check6
  typed_at_row other clash =
      rw (← said_by t (get_or binders r code.None))
      (typed_of_kind t (scope_at table r) r (word t r 1) (word t r 2) (word t r 3) _ types other (kind_at t r) (known_in ok knows can.there)
      (noted_words ok can) clash
      ∙ sym (ap (λ (s : Site). typed t s.scope s.node) (site_with table ok r can.there)))
