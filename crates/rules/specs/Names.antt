-- Document 01, "Order of refusals", check 5: a name used but not in scope; declared or looped while in scope; a loop's name
-- assigned or written as an array. A declaration or a loop that fails still binds its name (Scope, Sites: they bind whatever
-- this check says).
use Rattle.std.specs.Prelude.{Bool, true, false, not}
use Rattle.std.proofs.Math.Option.{Option, none, some}
use Rattle.rules.specs.Tree.{number, truth, name, two, choose, element, input}
use Rattle.rules.specs.Tree.{declare, assign, loop, write, branch, out, then}
use Rattle.rules.specs.Scope.{Known, declared, looped, Scope, lookup}
use Rattle.rules.specs.Sites.{Node, of_e, of_s, Site}

-- a name is in scope; it is in scope by a declaration, not as a loop's name
abbrev pub is_found : Option Known → Bool
is_found none = false
is_found (some b) = true

abbrev pub is_declared : Option Known → Bool
is_declared none = false
is_declared (some (declared r t n)) = true
is_declared (some (looped r l)) = false

-- the rule at each kind of row
unfoldable pub named : Scope → Node → Bool
named sc (of_e (number r n)) = true
named sc (of_e (truth r n)) = true
named sc (of_e (name r x)) = is_found (lookup sc x)
named sc (of_e (two r o a b)) = true
named sc (of_e (choose r g a b)) = true
named sc (of_e (element r x i)) = is_found (lookup sc x)
named sc (of_e (input r t d n)) = true
named sc (of_s (declare r x t n)) = not (is_found (lookup sc x))
named sc (of_s (assign r x e)) = is_declared (lookup sc x)
named sc (of_s (loop r x b f l)) = not (is_found (lookup sc x))
named sc (of_s (write r x i e)) = is_declared (lookup sc x)
named sc (of_s (branch r g a b)) = true
named sc (of_s (out r e)) = true
named sc (of_s (then r a b)) = true

unfoldable pub check5 : Site → Bool
check5 s = named s.scope s.node
