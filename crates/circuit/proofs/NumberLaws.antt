-- Sorts by their numbers, and what five words are, piece by piece, for proofs that hold numbers.
use Rattle.std.proofs.Common.{◌≡◌, ℕ, true, false, eqb, leb, get_or, refl, subst, arith}
use Rattle.std.proofs.lemmas.Grind.{common_steps}
use mathlib.Core.Option.{Option, none, some}
use Rattle.rules.specs.Sorts.{Sort, arithmetic, boolean, bit, sort_number, sort_numbered, same, fits_sort}
use Rattle.rules.specs.Gates.{Gate, no_gate, gate_kinds, if_zero, with_sort}
use Rattle.circuit.specs.Sorts.{sort_from}
use Rattle.circuit.specs.Numbers.{is_sort}

-- a sort is that of its number
pub sort_of_number : (m : Sort) → sort_from (sort_number m) ≡ m
unfolding sort_from
sort_of_number m = grind (arith, common_steps)

-- a number of a sort is that sort's
pub number_is : (n : ℕ) → is_sort n ≡ true → sort_numbered n ≡ some (sort_from n)
unfolding sort_numbered sort_from
number_is n e = grind (arith, common_steps)

-- any other number is none's
pub number_none : (n : ℕ) → is_sort n ≡ false → sort_numbered n ≡ none
unfolding sort_numbered
number_none n e = grind (arith, common_steps)

-- what holds of sort 1 where a number is 1, of sort 3 where it is 3, and of sort 2 where it is neither, holds of its sort
pub by_number : (P : Sort → Type 0) (n : ℕ) → (n ≡ 1 → P arithmetic) → (n ≡ 3 → P bit) → ((n ≡ 1 → ⊥) → (n ≡ 3 → ⊥) → P boolean) → P (sort_from n)
unfolding sort_from
by_number P n one three other = grind (arith, common_steps)

-- a bool is 0 or 1; on a wire of another sort any word may stand
pub holds_bit : (n v : ℕ) → n ≡ 3 → leb v 1 ≡ fits_sort (sort_from n) v
unfolding sort_from
holds_bit n v e = rw e

pub holds_any : (n v : ℕ) → (n ≡ 3 → ⊥) → true ≡ fits_sort (sort_from n) v
holds_any n v h = by_number (λ m. true ≡ fits_sort m v) n (λ e. refl) (λ e. absurd (h e)) (λ p q. refl)

-- a number of a sort is that sort's number
pub number_of_sort : (n : ℕ) {m : Sort} → sort_numbered n ≡ some m → n ≡ sort_number m
unfolding sort_numbered
number_of_sort n e = grind (arith, common_steps)

-- two sorts are one where their numbers are
pub number_same : (k m : Sort) → eqb (sort_number k) (sort_number m) ≡ same k m
number_same k m = grind (arith, common_steps)

-- an unlisted word that is 0 leaves the gate as it is, and any other leaves none
pub unlisted_zero : (n : ℕ) (g : Option Gate) → n ≡ 0 → if_zero n g ≡ g
unlisted_zero n g e = rw e

pub unlisted_else : (n : ℕ) (g : Option Gate) → (n ≡ 0 → ⊥) → if_zero n g ≡ none
unlisted_else n g h = grind (arith, common_steps)

-- a number of a sort makes the gate with that sort, and any other none
pub with_sort_lem : (n : ℕ) (g : Sort → Gate) → is_sort n ≡ true → with_sort (sort_numbered n) g ≡ some (g (sort_from n))
with_sort_lem n g e = rw (number_is n e)

pub without_sort : (n : ℕ) (g : Sort → Gate) → is_sort n ≡ false → with_sort (sort_numbered n) g ≡ none
without_sort n g e = rw (number_none n e)

-- no number but 1 to 7 is a kind
pub no_kind : (k : ℕ) → (k ≡ 1 → ⊥) → (k ≡ 2 → ⊥) → (k ≡ 3 → ⊥) → (k ≡ 4 → ⊥) → (k ≡ 5 → ⊥) → (k ≡ 6 → ⊥) → (k ≡ 7 → ⊥)
    → get_or gate_kinds k no_gate ≡ no_gate
unfolding gate_kinds
no_kind k h1 h2 h3 h4 h5 h6 h7 = grind (arith, common_steps)

-- What holds of a gate holds of what five words are read as: with no sort in them,
pub read_as_lem : (P : Gate → Type 0) {x g : Gate} → some x ≡ some g → P x → P g
read_as_lem P e p = subst P (cc) p

-- or with one
pub read_sorted : (P : Gate → Type 0) (n : ℕ) (k : Sort → Gate) {g : Gate} → with_sort (sort_numbered n) k ≡ some g
    → ((m : Sort) → n ≡ sort_number m → P (k m)) → P g
unfolding sort_numbered
read_sorted P n k e p = grind (arith, common_steps)
