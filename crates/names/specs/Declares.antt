-- What check 5 leaves, and what checks 6 to 8 ask of it: for each row that names something, the row that binds the name (document 01,
-- "Names, labels, indexes"). Only functions inside the desk cite it.
use Rattle.std.specs.Prelude.{ℕ, ◌<◌, ◌≡◌, List, get_or, Option, Some, None, IfSome}
use Rattle.std.proofs.Math.Option.{none, some}
use Rattle.std.proofs.Math.Option as rules
use Rattle.words.specs.Words.{words}
use Rattle.rules.specs.Rows.{Name}
use Rattle.rules.specs.Tree.{number, truth, name, two, choose, element, input}
use Rattle.rules.specs.Tree.{declare, assign, loop, write, branch, out, then}
use Rattle.rules.specs.Scope.{Known, Scope, lookup}
use Rattle.rules.specs.Sites.{Node, of_e, of_s}
use Rattle.rules.specs.Answers.{rows_of}
use Rattle.rows.specs.ByRow.{node_at, scope_at, known_at}
use Rattle.table.specs.declared.row.Row.{Row}

-- the name that a row names
unfoldable pub name_of : Node → rules.Option Name
name_of (of_e (number r n)) = none
name_of (of_e (truth r n)) = none
name_of (of_e (name r x)) = some x
name_of (of_e (two r o a b)) = none
name_of (of_e (choose r g a b)) = none
name_of (of_e (element r x i)) = some x
name_of (of_e (input r t d n)) = none
name_of (of_s (declare r x t n)) = some x
name_of (of_s (assign r x e)) = some x
name_of (of_s (loop r x b f l)) = some x
name_of (of_s (write r x i e)) = some x
name_of (of_s (branch r g a b)) = none
name_of (of_s (out r e)) = none
name_of (of_s (then r a b)) = none

-- what it stands for in a scope
abbrev pub found_by : Scope → rules.Option Name → rules.Option Known
found_by sc none = none
found_by sc (some x) = lookup sc x

-- what a name stands for in a table's words, by the row that binds it
abbrev pub known_by : List ℕ → Option Row → rules.Option Known
known_by t None = none
known_by t (Some binder) = some (known_at t binder.0)

-- binders has for each row of a table the row that binds the name that it names, a row of the table; none where it names nothing or
-- its name stands for nothing
pub record Declares (table : List ℕ) (binders : List (Option Row)) : Type 0 where
  pub stands : (r : ℕ) → r < rows_of table
      → known_by (words table) (get_or binders r None) ≡ found_by (scope_at table r) (name_of (node_at (words table) r))
  pub inside : (r : ℕ) → r < rows_of table → IfSome (get_or binders r None) (λ binder. binder.0 < rows_of table)

-- binders knows the names of a table: where a row's name stands for something, it has the row that binds the name, and at the other
-- rows any row of the table or none (`Declares` says that too, and that it has none there)
pub record Knows (table : List ℕ) (binders : List (Option Row)) : Type 0 where
  pub stands : (r : ℕ) → r < rows_of table → (k : Known) → found_by (scope_at table r) (name_of (node_at (words table) r)) ≡ some k
      → known_by (words table) (get_or binders r None) ≡ some k
  pub inside : (r : ℕ) → r < rows_of table → IfSome (get_or binders r None) (λ binder. binder.0 < rows_of table)
