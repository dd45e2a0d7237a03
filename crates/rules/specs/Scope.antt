-- Document 01, "Names, labels, indexes": scope follows Figure 8. A scope is a list of names, the innermost first.
use Rattle.std.specs.Prelude.{ℕ, zero, suc, cond, List, [], ◌∷◌, eqb}
use Rattle.std.proofs.Math.Option.{Option, none, some}
use Rattle.rules.specs.Rows.{Row, Name, Ty, uint}
use Rattle.rules.specs.Tree.{Stmt, declare, assign, loop, write, branch, out, then}

-- what a name stands for: declared at a row with a type and a length, or a loop's name with its row and its last value
pub data Known : Type 0 where
  declared : Row → Ty → ℕ → Known
  looped : Row → ℕ → Known

pub record Binding : Type 0 where
  pub called : Name
  pub is : Known

abbrev pub Scope : Type 0
Scope = List Binding

-- a search from the innermost scope finds a name's declaration
unfoldable pub lookup : Scope → Name → Option Known
lookup [] x = none
lookup (e ∷ sc) x = cond (eqb e.called x) (some e.is) (lookup sc x)

-- a loop's name is known in its body only
abbrev pub in_loop : Row → Name → ℕ → Scope → Scope
in_loop r x l sc = record { called = x; is = looped r l } ∷ sc

-- what is known after a statement: a declaration's name; what the first part of a "then" declares is known in the second;
-- what a loop's body or an arm of an if declares is unknown after it
unfoldable pub after : Stmt → Scope → Scope
after (declare r x t n) sc = record { called = x; is = declared r t n } ∷ sc
after (assign r x e) sc = sc
after (loop r x b f l) sc = sc
after (write r x i e) sc = sc
after (branch r g a b) sc = sc
after (out r e) sc = sc
after (then r a b) sc = after b (after a sc)

-- a plain name has one element
abbrev pub elements : ℕ → ℕ
elements zero = 1
elements (suc n) = suc n

-- its type: a loop's name is a uint
abbrev pub type_k : Known → Ty
type_k (declared r t n) = t
type_k (looped r l) = uint

-- its length: 0 for what is no array
abbrev pub length_k : Known → ℕ
length_k (declared r t n) = n
length_k (looped r l) = 0

-- the same of a name that may be unknown; check 5 comes before all that reads these
abbrev pub type_found : Option Known → Ty
type_found none = uint
type_found (some k) = type_k k

abbrev pub length_found : Option Known → ℕ
length_found none = 0
length_found (some k) = length_k k
