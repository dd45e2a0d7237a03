-- The table of inputs read: its places, the sort that stands at one, and whether another sort than a given one does. Only
-- functions inside the desk cite it.
use Rattle.std.specs.Prelude.{ℕ, ◌+◌, ◌-◌, ◌*◌, ◌<◌, Bool, false, not, List, Option, None, Some, slice_index_or}
use Rattle.rules.specs.Sorts.{same}
use Rattle.circuit.specs.declared.sorts.Sort.{Sort}
use Rattle.circuit.specs.Sorts.{meant_sort}

-- an input that has a place in the table
abbrev pub InTable : ℕ → ℕ → Type 0
InTable desk number = (0 < desk) × ((desk < 3) × (number < 64))

-- its place
abbrev pub slot_of : ℕ → ℕ → ℕ
slot_of desk number = 64 * (desk - 1) + number

-- the sort that stands there
abbrev pub sort_at : List (Option Sort) → ℕ → ℕ → Option Sort
sort_at seen desk number = slice_index_or seen (slot_of desk number) None

-- an input was read at a sort, and at another than m
abbrev pub other_than : Option Sort → Sort → Bool
other_than None m = false
other_than (Some k) m = not (same (meant_sort k) (meant_sort m))
