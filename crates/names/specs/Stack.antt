-- The scope as a stack of the rows that bind its names, the newest last; and a search in it (document 01, "Names, labels, indexes").
-- Only functions inside the desk cite it.
use Rattle.std.specs.Prelude.{ℕ, ◌==◌, List, map, reverse, find, All, Option, option_and_then}
use Rattle.rules.specs.Rows.{Name, word}
use Rattle.rules.specs.Scope.{Scope}
use Rattle.rows.specs.Passed.{In}
use Rattle.rows.specs.ByRow.{binding_at}
use Rattle.table.specs.declared.row.Row.{Row}
use Rattle.names.specs.declared.naming.Naming.{Naming}

-- the scope of a stack of rows
unfoldable pub scope_of : List ℕ → List Row → Scope
scope_of t stack = map (λ row. binding_at t row.0) (reverse stack)

-- the rows of a stack are rows of a table
abbrev pub Stacked : List ℕ → List Row → Type 0
Stacked table stack = All (λ row. In table row.0) stack

-- the newest row of a stack that binds a name
abbrev pub found_in : List ℕ → List Row → Name → Option Row
found_in t stack x = find (λ row. word t row.0 1 == x) (reverse stack)

-- and the row that binds the name in a row, by what the row does with a name
abbrev pub binder_in : List ℕ → List Row → Option Naming → Option Row
binder_in t stack naming = option_and_then (λ naming. found_in t stack naming.name) naming
