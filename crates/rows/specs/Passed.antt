-- A table that passes its first checks (document 01, "Order of refusals"), and what the code of one check finds. Only functions
-- inside the desk cite it.
use Rattle.std.specs.Prelude.{ℕ, ◌+◌, ◌*◌, ◌≤◌, List, length, take}
use Rattle.rules.specs.Rows.{Row}
use Rattle.rules.specs.Refusals.{Clear, table_checks}

-- the first k checks of a table's bytes have no failing place
abbrev pub Passes : ℕ → List ℕ → Type 0
Passes k table = Clear (take k (table_checks table))

-- row r lies in a table's bytes
abbrev pub In : List ℕ → Row → Type 0
In table r = 16 * r + 16 ≤ length table
