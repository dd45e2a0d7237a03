-- The inputs that a gate reads, and the lowest gate that fails a check of them.
use Prim.Native.Nat.{ℕ, ◌/◌, ◌≤◌, ◌<◌}
use mathlib.Core.Path.{◌≡◌, refl, sym}
use mathlib.Core.Bool.{Bool, true, false, cond}
use mathlib.Core.List.{List}
use lib.Dec.{eqb}
use lib.ListN.{length, get_or}
use native.Mathlib.Omega.{arith}
use Rattle.std.specs.Prelude.{Option, None, Some, MatchOption, slice_get, T}
use Rattle.std.proofs.lemmas.Option.{slice_get-get_or, slice_get_past}
use Rattle.words.specs.Words.{words}
use Rattle.words.proofs.Words.{words-length}
use Rattle.rules.specs.Sorts.{Sort}
use Rattle.rules.specs.Gates.{gate_at, gate_count, entry_test, circuit_fits}
use Rattle.rules.specs.Plain.{of_desk}
use Rattle.rules.proofs.Basics.{of_true}
use Rattle.rules.proofs.Places.{first_fails, below_none, in_failing_below}
use Rattle.circuit.proofs.GateLaws.{gates_at_most}
use Rattle.evaluate.specs.InputChecks.{Found}

-- the words of a desk's inputs, by their bytes
words_of_desk : (one two : List ℕ) (d : ℕ) → of_desk (words one) (words two) d ≡ words (of_desk one two d)
words_of_desk one two d = elim (eqb d 1) as (λ t. cond t (words one) (words two) ≡ words (cond t one two)) [ true ↦ refl | false ↦ refl ]

-- input n of a desk is a word of its bytes, or past them
pub word_there : (one two : List ℕ) {bytes : List ℕ} (d n : ℕ) → bytes ≡ of_desk one two d → n < length bytes / 4
    → {w : ℕ} → w ≡ get_or (words bytes) n 0 → Some w ≡ slice_get (of_desk (words one) (words two) d) n
word_there one two {bytes} d n desk below word =
    rw (words_of_desk one two d, ← desk, word) (sym (slice_get-get_or (words bytes) n 0 (omega (arith, words-length bytes))))

pub none_past : (one two : List ℕ) {bytes : List ℕ} (d n : ℕ) → bytes ≡ of_desk one two d → length bytes / 4 ≤ n
    → None ≡ slice_get (of_desk (words one) (words two) d) n
none_past one two {bytes} d n desk past = rw (words_of_desk one two d, ← desk) (sym (slice_get_past (words bytes) n (omega (arith, words-length bytes))))

-- gate i passes a test of inputs
abbrev pub passes_at : (ℕ → ℕ → Sort → Bool) → List ℕ → ℕ → Bool
passes_at ok circuit i = entry_test ok (gate_at (words circuit) i)

-- the first gate that fails a test is the lowest of those that do; where none is found, there is none
pub found_first : (ok : ℕ → ℕ → Sort → Bool) (circuit : List ℕ) (found : Option ℕ) {n : ℕ} → n ≡ gate_count (words circuit)
    → MatchOption found ((k : ℕ) → 0 ≤ k → k < n → passes_at ok circuit k ≡ true)
    (λ i. (0 ≤ i) × (i < n) × (passes_at ok circuit i ≡ false) × ((k : ℕ) → 0 ≤ k → k < i → passes_at ok circuit k ≡ true))
    → Found ok (words circuit) found
found_first ok circuit None is all = rw (← is) (below_none (passes_at ok circuit) _ (λ k below. of_true _ (all k (omega arith) below)))
found_first ok circuit (Some i) is (low, below, fails, before) =
    rw (← is) (first_fails (passes_at ok circuit) i _ (below_none (passes_at ok circuit) i (λ k l. of_true _ (before k (omega arith) l))) below fails)

-- and its number is below 3,000, in a circuit that passes check 20
pub found_below : (ok : ℕ → ℕ → Sort → Bool) (circuit : List ℕ) {i : ℕ} → T (circuit_fits circuit) → Found ok (words circuit) (Some i) → i < 3000
found_below ok circuit {i} fits found =
    omega (arith, ((in_failing_below (passes_at ok circuit) (gate_count (words circuit)) i).0 found.one_of).0, gates_at_most circuit fits)
