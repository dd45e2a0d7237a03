-- What the code of a check finds, and check 2 in code (document 01, "Order of refusals"). Only functions inside the desk cite it.
use Rattle.std.specs.Prelude.{ℕ, ◌<◌, ◌≡◌, Bool, true, false, cond, List, [], ltb, Option, None, Result, Ok, Err, OnOk, IfErr}
use Rattle.rules.specs.Rows.{Row, kind_at}
use Rattle.rules.specs.Refusals.{Lowest}
use Rattle.table.specs.declared.shapes.Sort.{Sort}
use Rattle.table.specs.declared.row.Row as code
use Rattle.table.specs.Shapes.{as_sort}

-- what a check finds of the places that fail it: none, or the lowest
abbrev pub Finds : List ℕ → Result (Unit {0}) code.Row → Type 0
Finds ps (Ok u) = ps ≡ []
Finds ps (Err row) = Lowest row.0 ps

-- what a search for the lowest of the rows below n that fails a test finds, by what each call of the test may answer
pub record FindsLowest (answers : code.Row → Bool → Type 0) (n : ℕ) (found : Result (Unit {0}) code.Row) : Type 0 where
  pub none : OnOk found ((r : code.Row) → r.0 < n → answers r true)
  pub lowest : IfErr found (λ row. (row.0 < n) × (answers row false × ((r : code.Row) → r.0 < row.0 → answers r true)))

-- what row w is, where it is lower than row r
abbrev pub sort_below : List ℕ → Row → ℕ → Option Sort
sort_below t r w = cond (ltb w r) (as_sort (kind_at t w)) None
