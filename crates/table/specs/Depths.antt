-- Check 4 in code: the depth of each row, from the last row down (document 01, "Rows"). Only functions inside the desk cite it.
use Rattle.std.specs.Prelude.{ℕ, ◌-◌, ◌≤◌, ◌<◌, ◌≡◌, List, get_or, set, Option, Some, None}
use Rattle.words.specs.Words.{words}
use Rattle.rules.specs.Answers.{rows_of}
use Rattle.rows.specs.Passed.{Passes}
use Rattle.rows.specs.ByRow.{depth_at}
use Rattle.rows.specs.Children.{IsChild}
use Rattle.table.specs.declared.row.Row.{Row}
use Rattle.table.specs.declared.depths.Depths.{Depths}

-- a child is at a depth
abbrev pub sunk : List ℕ → Option Row → ℕ → List ℕ
sunk xs None d = xs
sunk xs (Some child) d = set xs child.0 d

abbrev pub CanSink : Option Row → Type 0
CanSink None = Unit {0}
CanSink (Some child) = child.0 < 1024

-- the depth of the last row and of each child of a row from i on is noted
pub record Sinking (depths : Depths) (i : ℕ) : Type 0 where
  pub passes : Passes 3 depths.table.now
  pub last : get_or depths.depths (rows_of depths.table.now - 1) 0 ≡ 1
  pub children : (r q : ℕ) → i ≤ q → q < rows_of depths.table.now → IsChild (words depths.table.now) r q
      → get_or depths.depths r 0 ≡ depth_at depths.table.now r
