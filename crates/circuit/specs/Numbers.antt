-- Sorts by their numbers, where any number may stand in place of a sort's (document 01, "Names, labels, indexes").
use Rattle.std.specs.Prelude.{ℕ, Bool, not, ◌&&◌, ◌||◌, ◌==◌, nat_lt}

-- a number of a sort is 1, 2 or 3
abbrev pub is_sort : ℕ → Bool
is_sort n = nat_lt 0 n && nat_lt n 4

-- a convert gate goes from 1 to 2 or from 2 to 1
abbrev pub numbers_convert : ℕ → ℕ → Bool
numbers_convert k m = k == 1 && m == 2 || k == 2 && m == 1

-- an input was read at a number, and at another than m
abbrev pub other_number : ℕ → ℕ → Bool
other_number s m = not (s == 0) && not (s == m)
