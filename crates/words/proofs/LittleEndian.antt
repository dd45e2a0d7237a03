-- The library reads and writes the four bytes of a number as the words have them, the lowest first.
use Rattle.std.proofs.Common.{arith, ◌≡◌, refl, ap, ℕ, zero, suc, ◌+◌, ◌≤◌, List, [], ◌∷◌, ◌++◌, length}
use Rattle.std.specs.Prelude.{set, take, drop}
use Rattle.std.specs.Int.{w32, from_le_bytes}
use Rattle.words.specs.Words.{joined}

-- four bytes read as a number are the word that they join to
pub joined_le : (a b c d : ℕ) → from_le_bytes w32 (a ∷ b ∷ c ∷ d ∷ []) ≡ joined a b c d
joined_le a b c d = omega arith

-- four elements copied over a list from p on are four that are set
pub copy_four : {A : Type 0} (p : ℕ) (xs : List A) (a b c d : A) → p + 4 ≤ length xs
    → take p xs ++ ((a ∷ b ∷ c ∷ d ∷ []) ++ drop 4 (drop p xs)) ≡ set (set (set (set xs p a) (p + 1) b) (p + 2) c) (p + 3) d
copy_four zero [] a b c d h = absurd (omega arith)
copy_four zero (x ∷ []) a b c d h = absurd (omega arith)
copy_four zero (x ∷ y ∷ []) a b c d h = absurd (omega arith)
copy_four zero (x ∷ y ∷ z ∷ []) a b c d h = absurd (omega arith)
copy_four zero (x ∷ y ∷ z ∷ w ∷ rest) a b c d h = refl
copy_four (suc p) [] a b c d h = absurd (omega arith)
copy_four (suc p) (x ∷ xs) a b c d h =
    let one : suc p + 1 ≡ suc (p + 1) = omega arith in
    let two : suc p + 2 ≡ suc (p + 2) = omega arith in
    let three : suc p + 3 ≡ suc (p + 3) = omega arith in
    rw (one, two, three) (ap (λ l. x ∷ l) (copy_four p xs a b c d (omega arith)))
