-- Document 01, "Names, labels, indexes": the count of an expression. With "Order of refusals", check 8: an index must count
-- below the array's length. This stands in for the open condition e < n of S_AREAD and C_AWRITE.
use Rattle.std.specs.Prelude.{ℕ, ◌+◌, min, max, Bool, true, ltb}
use Rattle.std.proofs.Math.Option.{Option, none, some}
use Rattle.rules.specs.Rows.{Op, add, gt}
use Rattle.rules.specs.Tree.{Expr, number, truth, name, two, choose, element, input}
use Rattle.rules.specs.Tree.{declare, assign, loop, write, branch, out, then}
use Rattle.rules.specs.Scope.{Known, declared, looped, Scope, lookup, length_found}
use Rattle.rules.specs.Sites.{Node, of_e, of_s, Site}

-- what a name counts: a loop's name its last value, every other name 4,294,967,295
abbrev pub count_k : Known → ℕ
count_k (declared r t n) = 4294967295
count_k (looped r l) = l

abbrev pub count_found : Option Known → ℕ
count_found none = 4294967295
count_found (some k) = count_k k

-- + counts the sum, 4,294,967,295 if that reaches 2^32
unfoldable pub count_two : Op → ℕ → ℕ → ℕ
count_two add a b = min (a + b) 4294967295
count_two gt a b = 4294967295

-- a number counts its value, a cond its larger arm, every other expression 4,294,967,295
unfoldable pub count : Scope → Expr → ℕ
count sc (number r n) = n
count sc (truth r n) = 4294967295
count sc (name r x) = count_found (lookup sc x)
count sc (two r o a b) = count_two o (count sc a) (count sc b)
count sc (choose r g a b) = max (count sc a) (count sc b)
count sc (element r x i) = 4294967295
count sc (input r t d n) = 4294967295

-- the rule at each kind of row
unfoldable pub counted : Scope → Node → Bool
counted sc (of_e (number r n)) = true
counted sc (of_e (truth r n)) = true
counted sc (of_e (name r x)) = true
counted sc (of_e (two r o a b)) = true
counted sc (of_e (choose r g a b)) = true
counted sc (of_e (element r x i)) = ltb (count sc i) (length_found (lookup sc x))
counted sc (of_e (input r t d n)) = true
counted sc (of_s (declare r x t n)) = true
counted sc (of_s (assign r x e)) = true
counted sc (of_s (loop r x b f l)) = true
counted sc (of_s (write r x i e)) = ltb (count sc i) (length_found (lookup sc x))
counted sc (of_s (branch r g a b)) = true
counted sc (of_s (out r e)) = true
counted sc (of_s (then r a b)) = true

unfoldable pub check8 : Site → Bool
check8 s = counted s.scope s.node
