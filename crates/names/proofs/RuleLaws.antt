-- The rules of labels, kind by kind: a set of rows keeps a row's rules and has its input exactly if the rule holds in it that the code
-- follows at the row.
use Rattle.std.proofs.Common.{ℕ, ◌<◌, ◌≡◌, refl, Bool, ◌||◌, List, get_or, arith}
use Rattle.std.proofs.lemmas.Grind.{common_steps}
use Rattle.std.specs.Prelude as code
use Rattle.std.proofs.Math.Option.{Option}
use Rattle.std.proofs.Math.Dec.{T}
use mathlib.Core.Logic.{◌↔◌}
use Rattle.words.specs.Words.{words}
use Rattle.rules.specs.Rows.{Kind, is_e, is_s, word, kind_at, Field, within, expr, stmt, shape_of}
use Rattle.rules.specs.Rows.{of_assign, of_write, of_name, of_two, of_choose, of_element, of_input}
use Rattle.rules.specs.Tree.{row_e, expr_of, stmt_of, expr_at}
use Rattle.rules.specs.Scope.{Known, Scope, lookup}
use Rattle.rules.specs.Names.{is_declared, named}
use Rattle.rules.specs.Labels.{when_read, when_stored, rules_of, inputs_of, Has, Keeps}
use Rattle.rules.specs.Answers.{rows_of}
use Rattle.rules.proofs.Labels.{ClosedAt}
use Rattle.rows.specs.Passed.{Passes}
use Rattle.rows.specs.ByRow.{site_at, scope_at}
use Rattle.rows.proofs.Formed.{Formed, Holds, fields, formed}
use Rattle.table.specs.declared.row.Row.{Row}
use Rattle.table.specs.Shapes.{as_kind}
use Rattle.table.specs.Meaning.{meaning_of, meaning_at}
use Rattle.names.specs.Declares.{Knows}
use Rattle.names.specs.Labels.{asks, has, row_or, asked_row, RuleHolds}
use Rattle.names.proofs.NoteLaws.{declared_row, declared_by, passes_two}
use Rattle.names.proofs.ToldLaws.{node_with, site_with, named_with, KnownIn, known_in}
use Rattle.names.proofs.PublicLaws.{row_of_expr}

-- one of two asks for z exactly if each does
either : (x y z : Bool) → (T (x || y) → T z) ↔ ((T x → T z) × (T y → T z))
either x y z = grind (arith, common_steps)

-- a row that reads a name that stands for q keeps the rule of the read
read_rule : (S : ℕ → Bool) (q : Option Known) (r : ℕ) → (T (has S (declared_row q)) → T (S r)) ↔ Keeps S (when_read q r)
unfolding when_read
read_rule S q r = grind (arith, common_steps)

-- and one that stores to it that of the store, where the name is declared
store_rule : (S : ℕ → Bool) (q : Option Known) (r v : ℕ) → T (is_declared q) → (T (S v) → T (S (row_or r (declared_row q)))) ↔ Keeps S (when_stored v q)
unfolding when_stored
store_rule S q r v is = grind (arith, common_steps)

-- the expression in a word has the word for its row, where the field holds one
abbrev RowIn : List ℕ → Field → ℕ → Type 0
RowIn t (within low high) w = Unit {0}
RowIn t expr w = row_e (expr_at t w) ≡ w
RowIn t stmt w = Unit {0}

module _ (S : ℕ → Bool) (t : List ℕ) (sc : Scope) (r a b c : ℕ) (q : Option Known) where
  -- the rule that the code follows at a row of a kind, where it knows q of the row's name
  abbrev Follows : Kind → Type 0
  Follows k = T (asks S (meaning_of (as_kind k) a b c) (has S (declared_row q))) → T (S (asked_row (meaning_of (as_kind k) a b c) r (declared_row q)))

  -- the rules and the input of the row
  abbrev Kept : Kind → Type 0
  Kept k = Keeps S (rules_of sc (node_with t r k a b c)) × Has S (inputs_of (node_with t r k a b c))

  rule_of_kind : (k : Kind) → T (named sc (node_with t r k a b c)) → KnownIn sc k a q → RowIn t (shape_of k).a a → RowIn t (shape_of k).b b
      → RowIn t (shape_of k).c c → Follows k ↔ Kept k
  unfolding rules_of inputs_of expr_of stmt_of named
  rule_of_kind (is_e of_name) passes known first second third =
      let (there, back) = read_rule S (lookup sc a) r in
      rw known (λ f. (there f, tt), λ k. back k.0)
  rule_of_kind (is_e (of_two o)) passes known first second third =
      let (there, back) = either (S a) (S b) (S r) in
      rw (first, second) (λ f. (((there f).0, ((there f).1, tt)), tt), λ k. back (k.0.0, k.0.1.0))
  rule_of_kind (is_e of_choose) passes known first second third =
      let (there, back) = either (S a) (S b || S c) (S r) in
      let (there', back') = either (S b) (S c) (S r) in
      rw (first, second, third)
      (λ f. (((there f).0, ((there' (there f).1).0, ((there' (there f).1).1, tt))), tt), λ k. back (k.0.0, back' (k.0.1.0, k.0.1.1.0)))
  rule_of_kind (is_e of_element) passes known first second third =
      let (there, back) = read_rule S (lookup sc a) r in
      rw known (λ f. (there f, tt), λ k. back k.0)
  rule_of_kind (is_e of_input) passes known first second third = (λ f. (tt, (f tt, tt)), λ k h. k.1.0)
  rule_of_kind (is_s of_assign) passes known first second third =
      let (there, back) = store_rule S (lookup sc a) r b passes in
      rw (known, second) (λ f. (there f, tt), λ k. back k.0)
  rule_of_kind (is_s of_write) passes known first second third =
      let (there, back) = store_rule S (lookup sc a) r c passes in
      rw (known, third) (λ f. (there f, tt), λ k. back k.0)
  rule_of_kind _ passes known first second third = (λ f. (tt, tt), λ k h. absurd h)

module _ (table : List ℕ) (binders : List (code.Option Row)) (ok : Passes 5 table) (knows : Knows table binders) (S : ℕ → Bool)
    (r : ℕ) (h : r < rows_of table) where
  abbrev t : List ℕ
  t = words table

  shapes : Formed t (rows_of table)
  shapes = formed table (passes_two table ok)

  row_in : (f : Field) (w : ℕ) → Holds t r w f → RowIn t f w
  row_in (within low high) w is = tt
  row_in expr w is = row_of_expr shapes w (omega (arith, is.0)) is.1
  row_in stmt w is = tt

  -- a row's rule holds in a set exactly if the set is closed at the row's site
  pub rule_at_row : RuleHolds table binders S r ↔ ClosedAt S (site_at table r)
  unfolding meaning_at
  rule_at_row =
      let says = fields shapes r h (kind_at t r) refl in
      rw (← declared_by t (get_or binders r code.None), site_with table ok r h)
      (rule_of_kind S t (scope_at table r) r (word t r 1) (word t r 2) (word t r 3) _ (kind_at t r)
      (named_with table ok r h) (known_in ok knows h)
      (row_in (shape_of (kind_at t r)).a (word t r 1) says.a_is) (row_in (shape_of (kind_at t r)).b (word t r 2) says.b_is)
      (row_in (shape_of (kind_at t r)).c (word t r 3) says.c_is))
