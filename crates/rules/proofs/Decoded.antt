-- A circuit's words that pass checks 21 and 23: its gates keep the rules and have these words, and its inputs are fit.
use mathlib.Core.Path.{◌≡◌, refl, sym, subst}
use Prim.Native.Nat.{ℕ, zero, suc, ◌+◌, ◌*◌, ◌<◌}
use native.Mathlib.Omega.{arith}
use mathlib.Core.Bool.{Bool, true, false, cond}
use mathlib.Core.Option.{Option, none, some}
use mathlib.Core.List.{List, [], ◌∷◌}
use lib.Dec.{T, eqb}
use lib.ListN.{get_or}
use Rattle.words.specs.Words.{AllWords}
use Rattle.rules.specs.Places.{failing_below}
use Rattle.rules.specs.Rows.{add, gt}
use Rattle.rules.specs.Sorts.{Sort, arithmetic, boolean, bit, sort_number, sort_numbered, fits_sort}
use Rattle.rules.specs.Gates.{Gate, both, constant, convert, entry, output, gate_words, circuit_words}
use Rattle.rules.specs.Gates.{no_gate, gate_kinds, if_zero, with_sort, gate_of, gate_word, gate_at, gate_count, added, gates_to}
use Rattle.rules.specs.Gates.{gate_keeps, check21, AllKeep, entry_test}
use Rattle.rules.specs.Plain.{Given, inputs}
use Rattle.rules.specs.Shares.{FitBools, Fit}
use Rattle.rules.specs.Answers.{failing23}
use Rattle.words.proofs.Words.{words_both}
use Rattle.rules.proofs.Places.{failing_last}

-- where no place below n + 1 fails, none below n does, and place n passes
none_before : (ok : ℕ → Bool) (n : ℕ) → failing_below ok (suc n) ≡ [] → failing_below ok n ≡ []
none_before ok n e = ((failing_last ok n).0 e).1

passes_last : (ok : ℕ → Bool) (n : ℕ) → failing_below ok (suc n) ≡ [] → T (ok n)
passes_last ok n e = ((failing_last ok n).0 e).0

-- one gate more keeps the rules
keep_step : (g : Option Gate) (gs : List Gate) → T (gate_keeps gs g) → AllKeep gs → AllKeep (added g gs)
keep_step none gs ok keep = absurd ok
keep_step (some g) gs ok keep = (ok, keep)

-- where no gate fails check 21, all keep the rules
pub keeps_of : (c : List ℕ) (n : ℕ) → failing_below (check21 c) n ≡ [] → AllKeep (gates_to c n)
unfolding gates_to check21
keeps_of c zero e = tt
keeps_of c (suc n) e =
    keep_step (gate_at c n) (gates_to c n) (passes_last (check21 c) n e) (keeps_of c n (none_before (check21 c) n e))

-- Five words and the gate that they are.

-- these are the words of the gate, if it is one
abbrev Written : Option Gate → List ℕ → Type 0
Written none ws = Unit {0}
Written (some g) ws = gate_words g ≡ ws

-- an unlisted word is 0
written-unlisted : (d : ℕ) (g : Option Gate) (ws : ℕ → List ℕ) → Written g (ws 0) → Written (if_zero d g) (ws d)
written-unlisted zero g ws is = is
written-unlisted (suc d) g ws is = tt

-- a sort's word is its number
written_sort : (n : ℕ) (g : Sort → Gate) (ws : ℕ → List ℕ) → ((m : Sort) → gate_words (g m) ≡ ws (sort_number m))
    → Written (with_sort (sort_numbered n) g) (ws n)
unfolding sort_numbered
written_sort zero g ws is = tt
written_sort (suc zero) g ws is = is arithmetic
written_sort (suc (suc zero)) g ws is = is boolean
written_sort (suc (suc (suc zero))) g ws is = is bit
written_sort (suc (suc (suc (suc n)))) g ws is = tt

-- the gate of five words has these words
written : (k a b c d : ℕ) → Written (gate_of (get_or gate_kinds k no_gate) a b c d) (k ∷ a ∷ b ∷ c ∷ d ∷ [])
unfolding gate_kinds gate_of
written zero a b c d = tt
written (suc zero) a b c d = written-unlisted d (some (both add a b c)) (λ x. 1 ∷ a ∷ b ∷ c ∷ x ∷ []) refl
written (suc (suc zero)) a b c d = refl
written (suc (suc (suc zero))) a b c d = written-unlisted d (some (both gt a b c)) (λ x. 3 ∷ a ∷ b ∷ c ∷ x ∷ []) refl
written (suc (suc (suc (suc zero)))) a b c d =
    written-unlisted d (with_sort (sort_numbered b) (λ m. constant a m c)) (λ x. 4 ∷ a ∷ b ∷ c ∷ x ∷ [])
    (written_sort b (λ m. constant a m c) (λ x. 4 ∷ a ∷ x ∷ c ∷ 0 ∷ []) (λ m. refl))
written (suc (suc (suc (suc (suc zero))))) a b c d =
    written-unlisted d (with_sort (sort_numbered b) (λ m. convert a m c)) (λ x. 5 ∷ a ∷ b ∷ c ∷ x ∷ [])
    (written_sort b (λ m. convert a m c) (λ x. 5 ∷ a ∷ x ∷ c ∷ 0 ∷ []) (λ m. refl))
written (suc (suc (suc (suc (suc (suc zero)))))) a b c d = written_sort c (λ m. entry a b m d) (λ x. 6 ∷ a ∷ b ∷ x ∷ d ∷ []) (λ m. refl)
written (suc (suc (suc (suc (suc (suc (suc zero))))))) a b c d =
    written-unlisted b (if_zero c (if_zero d (some (output a)))) (λ x. 7 ∷ a ∷ x ∷ c ∷ d ∷ [])
    (written-unlisted c (if_zero d (some (output a))) (λ x. 7 ∷ a ∷ 0 ∷ x ∷ d ∷ [])
    (written-unlisted d (some (output a)) (λ x. 7 ∷ a ∷ 0 ∷ 0 ∷ x ∷ []) refl))
written (suc (suc (suc (suc (suc (suc (suc (suc k)))))))) a b c d = tt

-- the words of gate i of a circuit's words
abbrev pub five_words : List ℕ → ℕ → List ℕ
five_words c i = gate_word c i 0 ∷ gate_word c i 1 ∷ gate_word c i 2 ∷ gate_word c i 3 ∷ gate_word c i 4 ∷ []

-- they are the words of the gate at i, if it is one
written_at : (c : List ℕ) (i : ℕ) → Written (gate_at c i) (five_words c i)
unfolding gate_at
written_at c i = written (gate_word c i 0) (gate_word c i 1) (gate_word c i 2) (gate_word c i 3) (gate_word c i 4)

-- word k of words is a word, and past the end 0
pub word_at : (ws : List ℕ) → AllWords ws → (k : ℕ) → get_or ws k 0 < 4294967296
word_at [] words k = omega arith
word_at (w ∷ ws) words zero = words.0
word_at (w ∷ ws) words (suc k) = word_at ws words.1 k

-- five words of words are words
five-words : (c : List ℕ) (i : ℕ) → AllWords c → AllWords (five_words c i)
unfolding gate_word
five-words c i words = (at 0, (at 1, (at 2, (at 3, (at 4, tt)))))
  where
    at : (k : ℕ) → get_or c (5 * i + k) 0 < 4294967296
    at k = word_at c words (5 * i + k)

-- one gate more has words
words_step : (g : Option Gate) (gs : List Gate) (ws : List ℕ) → Written g ws → AllWords ws → AllWords (circuit_words gs)
    → AllWords (circuit_words (added g gs))
unfolding circuit_words
words_step none gs ws is words before = before
words_step (some g) gs ws is words before = words_both (circuit_words gs) (gate_words g) before (subst AllWords (sym is) words)

-- the gates of words have words
pub words_of : (c : List ℕ) (n : ℕ) → AllWords c → AllWords (circuit_words (gates_to c n))
unfolding gates_to circuit_words
words_of c zero words = tt
words_of c (suc n) words =
    words_step (gate_at c n) (gates_to c n) (five_words c n) (written_at c n) (five-words c n words) (words_of c n words)

-- one gate more reads fit bools
bools_step : (given : Given) (g : Option Gate) (gs : List Gate) → T (entry_test (λ d n m. fits_sort m (given d n)) g) → FitBools given gs
    → FitBools given (added g gs)
bools_step given none gs ok before = before
bools_step given (some g) gs ok before = (ok, before)

-- where no gate fails check 23, every bool read is 0 or 1
bools_of : (c : List ℕ) (given : Given) (n : ℕ) → failing_below (λ i. entry_test (λ d k m. fits_sort m (given d k)) (gate_at c i)) n ≡ []
    → FitBools given (gates_to c n)
unfolding gates_to
bools_of c given zero e = tt
bools_of c given (suc n) e =
    let ok : ℕ → Bool = λ i. entry_test (λ d k m. fits_sort m (given d k)) (gate_at c i) in
    bools_step given (gate_at c n) (gates_to c n) (passes_last ok n e) (bools_of c given n (none_before ok n e))

-- the desks' inputs are words
inputs-word : (one two : List ℕ) → AllWords one → AllWords two → (d n : ℕ) → inputs one two d n < 4294967296
unfolding inputs
inputs-word one two ones twos d n = go (eqb d 1)
  where
    go : (t : Bool) → get_or (cond t one two) n 0 < 4294967296
    go true = word_at one ones n
    go false = word_at two twos n

-- inputs that pass check 23 fit the circuit
pub fit_of : (c one two : List ℕ) → failing23 c one two ≡ [] → AllWords one → AllWords two
    → Fit (gates_to c (gate_count c)) (inputs one two)
unfolding failing23
fit_of c one two e ones twos =
    record { words = inputs-word one two ones twos; bools = bools_of c (inputs one two) (gate_count c) e }
