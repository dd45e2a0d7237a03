-- Document 01, "Order of refusals", check 6 (types as in Figures 7 and 8): a wrong type; an array used whole; a lower row
-- that reads the same desk and input number at the other type. The row that holds a part fails for the part's type. An
-- expression has a type also where a part of it fails: that part's row is lower.
use Rattle.std.specs.Prelude.{ℕ, zero, suc, Bool, true, false, not, ◌&&◌, ◌||◌, List, eqb}
use Rattle.std.proofs.Math.Option.{Option}
use Rattle.rules.specs.Rows.{Row, Ty, uint, bool, Op, add, gt, word}
use Rattle.rules.specs.Tree.{Expr, number, truth, name, two, choose, element, input}
use Rattle.rules.specs.Tree.{declare, assign, loop, write, branch, out, then}
use Rattle.rules.specs.Scope.{Known, Scope, lookup, type_found, length_found}
use Rattle.rules.specs.Sites.{Node, of_e, of_s, Site}

-- the type of an operator's result
abbrev pub result_type : Op → Ty
result_type add = uint
result_type gt = bool

-- the type of an expression; a cond has its first arm's
unfoldable pub type_e : Scope → Expr → Ty
type_e sc (number r n) = uint
type_e sc (truth r n) = bool
type_e sc (name r x) = type_found (lookup sc x)
type_e sc (two r o a b) = result_type o
type_e sc (choose r g a b) = type_e sc a
type_e sc (element r x i) = type_found (lookup sc x)
type_e sc (input r t d n) = t

-- two types are one; a name is no array
abbrev pub is_a : Ty → Ty → Bool
is_a uint uint = true
is_a uint bool = false
is_a bool uint = false
is_a bool bool = true

abbrev pub is_plain : Option Known → Bool
is_plain k = eqb (length_found k) 0

-- row q reads the input that row r reads, at the other type
unfoldable pub differs : List ℕ → Row → Row → Bool
differs t r q =
    eqb (word t q 0) 8 && (eqb (word t q 2) (word t r 2) && (eqb (word t q 3) (word t r 3) && not (eqb (word t q 1) (word t r 1))))

-- a row below q does
unfoldable pub clash_to : List ℕ → Row → Row → Bool
clash_to t r zero = false
clash_to t r (suc q) = clash_to t r q || differs t r q

-- the rule at each kind of row; an array used whole fails at the row that names it: a name, or an assignment to it
unfoldable pub typed : List ℕ → Scope → Node → Bool
typed t sc (of_e (number r n)) = true
typed t sc (of_e (truth r n)) = true
typed t sc (of_e (name r x)) = is_plain (lookup sc x)
typed t sc (of_e (two r o a b)) = is_a (type_e sc a) uint && is_a (type_e sc b) uint
typed t sc (of_e (choose r g a b)) = is_a (type_e sc g) bool && is_a (type_e sc a) (type_e sc b)
typed t sc (of_e (element r x i)) = not (is_plain (lookup sc x)) && is_a (type_e sc i) uint
typed t sc (of_e (input r y d n)) = not (clash_to t r r)
typed t sc (of_s (declare r x y n)) = true
typed t sc (of_s (assign r x e)) = is_plain (lookup sc x) && is_a (type_e sc e) (type_found (lookup sc x))
typed t sc (of_s (loop r x b f l)) = true
typed t sc (of_s (write r x i e)) =
    not (is_plain (lookup sc x)) && (is_a (type_e sc i) uint && is_a (type_e sc e) (type_found (lookup sc x)))
typed t sc (of_s (branch r g a b)) = is_a (type_e sc g) bool
typed t sc (of_s (out r e)) = true
typed t sc (of_s (then r a b)) = true

unfoldable pub check6 : List ℕ → Site → Bool
check6 t s = typed t s.scope s.node
