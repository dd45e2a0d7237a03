-- The walk of check 5: what holds before and after a row, an expression and a statement (document 01, "Names, labels, indexes"). Only
-- functions inside the desk cite it.
use Rattle.std.specs.Prelude.{ℕ, ◌+◌, ◌≤◌, ◌<◌, ◌≡◌, List, [], ◌∷◌, ◌++◌, T, length}
use Rattle.words.specs.Words.{words}
use Rattle.rules.specs.Rows.{kind_at, is_expr, is_stmt}
use Rattle.rules.specs.Tree.{stmt_at}
use Rattle.rules.specs.Scope.{Scope, after}
use Rattle.rules.specs.Sites.{Site, site, sites}
use Rattle.rules.specs.Answers.{rows_of}
use Rattle.rows.specs.Passed.{Passes}
use Rattle.rows.specs.ByRow.{node_at}
use Rattle.rows.specs.Heads.{expr_in, heads, bindings}
use Rattle.table.specs.declared.row.Row.{Row}
use Rattle.table.specs.declared.shapes.Field.{Field}
use Rattle.table.specs.declared.shapes.Field.TheVariants.{Child}
use Rattle.table.specs.declared.shapes.Sort.TheVariants.{Expr}
use Rattle.table.specs.Shapes.{meant_field}
use Rattle.names.specs.declared.scope.Walk.{Walk}
use Rattle.names.specs.Stack.{scope_of, Stacked}
use Rattle.names.specs.Sweep.{Swept}

-- the words of a walk's table, and the scope that it stands in
abbrev pub words_of : Walk → List ℕ
words_of walk = words walk.table.now

abbrev pub scope_in : Walk → Scope
scope_in walk = scope_of (words_of walk) walk.scope.items

-- a row can be looked at
pub record CanLook (walk : Walk) (row : ℕ) : Type 0 where
  pub passes : Passes 2 walk.table.now
  pub stacked : Stacked walk.table.now walk.scope.items
  pub there : row < rows_of walk.table.now

-- what a walk keeps: its table, and where it notes
pub record Kept (walk walk' : Walk) : Type 0 where
  pub table : walk'.table ≡ walk.table
  pub same_reference : walk'.binders.ghost_name ≡ walk.binders.ghost_name

-- sites have been looked at in a walk, and the scope is as before
pub record Looked (walk walk' : Walk) (ss : ℕ → List Site) : Type 0 where
  pub swept : (d : ℕ) → Swept walk.table.now (ss d) walk.binders.now walk'.binders.now walk.lowest walk'.lowest
  pub kept : Kept walk walk'
  pub scope : walk'.scope ≡ walk.scope

-- the site of a row, at a depth; those of the row and the expressions in it; and those of the expression in a word, where its field is one
abbrev pub row_sites : Walk → ℕ → ℕ → List Site
row_sites walk row d = site d (scope_in walk) (node_at (words_of walk) row) ∷ []

abbrev pub head_sites : Walk → ℕ → ℕ → List Site
head_sites walk row d = heads (words_of walk) d (scope_in walk) row

abbrev pub part_sites : Walk → Field → ℕ → ℕ → List Site
part_sites walk field w d = expr_in (words_of walk) d (scope_in walk) (meant_field field) w

-- a word can be walked: where its field is an expression, it holds the row of one
abbrev pub CanPart : Walk → ℕ → Field → Type 0
CanPart walk w (Child Expr) = CanLook walk w × T (is_expr (kind_at (words_of walk) w))
CanPart walk w _ = Unit {0}

-- a statement can be walked: the stack has room for the names that it binds
pub record CanWalk (walk : Walk) (row : ℕ) : Type 0 where
  pub look : CanLook walk row
  pub is_a_stmt : T (is_stmt (kind_at (words_of walk) row))
  pub room : length walk.scope.items + bindings (stmt_at (words_of walk) row) ≤ 1024

-- after a statement: all its sites are swept, and the rows that bind the names in scope after it have been put on the stack
pub record Walked (walk walk' : Walk) (row : ℕ) : Type 0 where
  pub swept : (d : ℕ) → Swept walk.table.now (sites d (scope_in walk) (stmt_at (words_of walk) row))
      walk.binders.now walk'.binders.now walk.lowest walk'.lowest
  pub kept : Kept walk walk'
  pub added : List Row
  pub stack_is : walk'.scope.items ≡ walk.scope.items ++ added
  pub stacked : Stacked walk.table.now walk'.scope.items
  pub scope : scope_of (words_of walk) walk'.scope.items ≡ after (stmt_at (words_of walk) row) (scope_in walk)
  pub upto : length added ≤ bindings (stmt_at (words_of walk) row)
