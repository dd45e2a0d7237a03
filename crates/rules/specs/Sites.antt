-- Document 01, "Rows" (depth) and "Names, labels, indexes" (scope): a program as the list of its rows, each with the depth
-- and the scope that it stands at. Checks 4 to 8 are tests of such a site. Check 4.
use Rattle.std.specs.Prelude.{ℕ, suc, Bool, List, [], ◌∷◌, ◌++◌, leb}
use Rattle.rules.specs.Places.{fault}
use Rattle.rules.specs.Rows.{Row}
use Rattle.rules.specs.Tree.{Expr, number, truth, name, two, choose, element, input, row_e}
use Rattle.rules.specs.Tree.{Stmt, declare, assign, loop, write, branch, out, then, row_s}
use Rattle.rules.specs.Scope.{Scope, in_loop, after}

-- what stands at a row
pub data Node : Type 0 where
  of_e : Expr → Node
  of_s : Stmt → Node

unfoldable pub row_n : Node → Row
row_n (of_e e) = row_e e
row_n (of_s p) = row_s p

pub record Site : Type 0 where
  pub depth : ℕ
  pub scope : Scope
  pub node : Node

abbrev pub site : ℕ → Scope → Node → Site
site k sc x = record { depth = k; scope = sc; node = x }

-- an expression at depth k and its parts, each part one deeper
unfoldable pub sites_e : ℕ → Scope → Expr → List Site
sites_e k sc (number r n) = site k sc (of_e (number r n)) ∷ []
sites_e k sc (truth r n) = site k sc (of_e (truth r n)) ∷ []
sites_e k sc (name r x) = site k sc (of_e (name r x)) ∷ []
sites_e k sc (two r o a b) = site k sc (of_e (two r o a b)) ∷ sites_e (suc k) sc a ++ sites_e (suc k) sc b
sites_e k sc (choose r g a b) =
    site k sc (of_e (choose r g a b)) ∷ sites_e (suc k) sc g ++ (sites_e (suc k) sc a ++ sites_e (suc k) sc b)
sites_e k sc (element r x i) = site k sc (of_e (element r x i)) ∷ sites_e (suc k) sc i
sites_e k sc (input r t d n) = site k sc (of_e (input r t d n)) ∷ []

-- a statement at depth k and its parts; reached or not, every part is there
unfoldable pub sites : ℕ → Scope → Stmt → List Site
sites k sc (declare r x t n) = site k sc (of_s (declare r x t n)) ∷ []
sites k sc (assign r x e) = site k sc (of_s (assign r x e)) ∷ sites_e (suc k) sc e
sites k sc (loop r x b f l) = site k sc (of_s (loop r x b f l)) ∷ sites (suc k) (in_loop r x l sc) b
sites k sc (write r x i e) = site k sc (of_s (write r x i e)) ∷ sites_e (suc k) sc i ++ sites_e (suc k) sc e
sites k sc (branch r g a b) = site k sc (of_s (branch r g a b)) ∷ sites_e (suc k) sc g ++ (sites (suc k) sc a ++ sites (suc k) sc b)
sites k sc (out r e) = site k sc (of_s (out r e)) ∷ sites_e (suc k) sc e
sites k sc (then r a b) = site k sc (of_s (then r a b)) ∷ sites (suc k) sc a ++ sites (suc k) (after a sc) b

-- the rows that fail a test
unfoldable pub failing : (Site → Bool) → List Site → List Row
failing ok [] = []
failing ok (s ∷ ss) = fault (ok s) (row_n s.node) ++ failing ok ss

-- check 4: the last row is at 1, a child one more than its parent, and no row is deeper than 64
unfoldable pub check4 : Site → Bool
check4 s = leb s.depth 64
