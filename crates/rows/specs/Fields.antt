-- What check 2 says of the words of a row (document 01, "Rows"): a child is a lower row of the right sort, and any other word lies in
-- its range. Only functions inside the desk cite it.
use Rattle.std.specs.Prelude.{ℕ, ◌≤◌, ◌<◌, List, T}
use Rattle.rules.specs.Rows.{Row, kind_at, Field, within, expr, stmt, Shape, is_expr, is_stmt}

-- what a field says of a word w of row r
abbrev pub Holds : List ℕ → Row → ℕ → Field → Type 0
Holds t r w (within low high) = (low ≤ w) × (w ≤ high)
Holds t r w expr = (w < r) × T (is_expr (kind_at t w))
Holds t r w stmt = (w < r) × T (is_stmt (kind_at t w))

-- what a shape says of the words a, b, c of row r
pub record Fields (t : List ℕ) (r : Row) (a b c : ℕ) (s : Shape) : Type 0 where
  pub a_is : Holds t r a s.a
  pub b_is : Holds t r b s.b
  pub c_is : Holds t r c s.c
