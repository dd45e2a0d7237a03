-- A row with the expressions in it, and how many names a statement binds: the steps in which code walks over statements. Only
-- functions inside the desk cite it.
use Rattle.std.specs.Prelude.{ℕ, suc, ◌+◌, List, [], ◌∷◌, ◌++◌}
use Rattle.rules.specs.Rows.{Row, word, kind_at, Field, within, expr, stmt, shape_of}
use Rattle.rules.specs.Tree.{expr_at, Stmt, declare, assign, loop, write, branch, out, then}
use Rattle.rules.specs.Scope.{Scope}
use Rattle.rules.specs.Sites.{Site, site, sites_e}
use Rattle.rows.specs.ByRow.{node_at}

-- a row of a table's words at depth d in the scope sc
module _ (t : List ℕ) (d : ℕ) (sc : Scope) where
  -- the expression in a word, where its field is one
  abbrev pub expr_in : Field → ℕ → List Site
  expr_in (within low high) w = []
  expr_in expr w = sites_e (suc d) sc (expr_at t w)
  expr_in stmt w = []

  -- the row and its expressions
  unfoldable pub heads : Row → List Site
  heads r =
      site d sc (node_at t r)
      ∷ expr_in (shape_of (kind_at t r)).a (word t r 1) ++ (expr_in (shape_of (kind_at t r)).b (word t r 2) ++ expr_in (shape_of (kind_at t r)).c (word t r 3))

-- how many names a statement binds
unfoldable pub bindings : Stmt → ℕ
bindings (declare r x y n) = 1
bindings (assign r x e) = 0
bindings (loop r x b f l) = suc (bindings b)
bindings (write r x i e) = 0
bindings (branch r g a b) = bindings a + bindings b
bindings (out r e) = 0
bindings (then r a b) = bindings a + bindings b
