-- Check 3 in code: how often each row is a child, counted row by row (document 01, "Order of refusals"). Only functions inside the
-- desk cite it.
use Rattle.std.specs.Prelude.{ℕ, ◌+◌, ◌<◌, ◌≡◌, List, get_or, set, Option, Some, None}
use Rattle.words.specs.Words.{words}
use Rattle.rules.specs.Rows.{uses}
use Rattle.rows.specs.Passed.{Passes}
use Rattle.table.specs.declared.row.Row.{Row}
use Rattle.table.specs.declared.uses.Tally.{Tally}

-- one place more for a child
abbrev pub counted : List ℕ → Option Row → List ℕ
counted xs None = xs
counted xs (Some child) = set xs child.0 (get_or xs child.0 0 + 1)

abbrev pub CanCount : List ℕ → Option Row → Type 0
CanCount xs None = Unit {0}
CanCount xs (Some child) = (child.0 < 1024) × (get_or xs child.0 0 < 4294967295)

-- the places that each row has in the rows below q are counted
pub record Tallied (tally : Tally) (q : ℕ) : Type 0 where
  pub passes : Passes 2 tally.table.now
  pub are : (r : ℕ) → r < 1024 → get_or tally.uses r 0 ≡ uses (words tally.table.now) r q
