-- What running code may rely on in a table that checks 1 to 8 accept (document 01, "Order of refusals"). Only functions inside the
-- desk cite it.
use Rattle.std.specs.Prelude.{ℕ, ◌*◌, ◌-◌, ◌≤◌, ◌<◌, ◌≡◌, List, T, length}
use Rattle.words.specs.Words.{words}
use Rattle.rules.specs.Rows.{word, kind_at, shape_of, is_stmt}
use Rattle.rules.specs.Names.{named}
use Rattle.rules.specs.Types.{typed}
use Rattle.rules.specs.Labels.{public}
use Rattle.rules.specs.Counts.{counted}
use Rattle.rules.specs.Answers.{rows_of, secret_in}
use Rattle.rows.specs.ByRow.{node_at, scope_at, depth_at}
use Rattle.rows.specs.Fields.{Fields}

pub record Accepted (table : List ℕ) : Type 0 where
  -- it is rows, at least one and at most 1,024, the last a statement
  pub whole : length table ≡ 16 * rows_of table
  pub some_rows : 0 < rows_of table
  pub few_rows : rows_of table ≤ 1024
  pub last : T (is_stmt (kind_at (words table) (rows_of table - 1)))
  -- of each row: its children are lower and of the right sort, its name is below 64, a length at most 64
  pub fields : (r : ℕ) → r < rows_of table
      → Fields (words table) r (word (words table) r 1) (word (words table) r 2) (word (words table) r 3) (shape_of (kind_at (words table) r))
  -- it is not deeper than 64
  pub shallow : (r : ℕ) → r < rows_of table → depth_at table r ≤ 64
  -- its names stand for something, its types are right, its index or guard is public, and its index counts below the length
  pub names : (r : ℕ) → r < rows_of table → T (named (scope_at table r) (node_at (words table) r))
  pub types : (r : ℕ) → r < rows_of table → T (typed (words table) (scope_at table r) (node_at (words table) r))
  pub publics : (r : ℕ) → r < rows_of table → T (public (secret_in table) (node_at (words table) r))
  pub indexes : (r : ℕ) → r < rows_of table → T (counted (scope_at table r) (node_at (words table) r))
