-- A circuit's words and bytes are read back as its gates, and a circuit that keeps the rules is never refused with 20 or 21.
use mathlib.Core.Path.{◌≡◌, refl, ap, ap₂, ◌∙◌}
use Prim.Native.Nat.{ℕ, zero, suc, ◌+◌, ◌*◌, ◌%◌, ◌≤◌}
use native.Mathlib.Omega.{arith}
use mathlib.Core.Bool.{Bool}
use mathlib.Core.Option.{Option, none, some}
use mathlib.Core.List.{List, [], ◌∷◌, ◌++◌, append-nil}
use lib.ListN.{length, take, length-append, get_or-append}
use lib.Seq.{get_or-append-add}
use borrow.Author.Tests.{eq-eqb, le-leb}
use Rattle.words.specs.Words.{words, bytes_of, over, AllWords}
use Rattle.words.proofs.Words.{bytes_length, words_read_back, over_front}
use Rattle.rules.specs.Places.{fault, failing_below}
use Rattle.rules.specs.Rows.{add, gt}
use Rattle.rules.specs.Sorts.{Sort, arithmetic, boolean, bit, sort_numbered}
use Rattle.rules.specs.Gates.{Gate, Wires, sort_made, both, mux, constant, convert, entry, output, gate_words, circuit_words, gate_kinds, gate_of, gate_word, gate_at, gate_count, gates_to, added, makes, wires, wired, gate_keeps, keeps_rules, check21, circuit_fits, AllKeep}
use Rattle.rules.specs.Plain.{Given, Reading, plain, noted}
use Rattle.rules.specs.Shares.{Desks, shared, dealt}
use Rattle.rules.specs.Answers.{gates_of, out_made, out_count, failing20, failing21}
use Rattle.rules.proofs.Places.{failing-same, failing_last}

-- gate i after 5 * i words is the first gate of what follows them
gate_past : (xs ys : List ℕ) (i : ℕ) → length xs ≡ 5 * i → gate_at (xs ++ ys) i ≡ gate_at ys 0
unfolding gate_at gate_word
gate_past xs ys i h = simp (← h, get_or-append-add)

-- the first gate of words that begin with a gate's five is that gate
gate_first : (g : Gate) (ys : List ℕ) → gate_at (gate_words g ++ ys) 0 ≡ some g
unfolding gate_at gate_word gate_kinds gate_of sort_numbered
gate_first (both add a b new) ys = refl
gate_first (both gt a b new) ys = refl
gate_first (mux g a b new) ys = refl
gate_first (constant v arithmetic new) ys = refl
gate_first (constant v boolean new) ys = refl
gate_first (constant v bit new) ys = refl
gate_first (convert w arithmetic new) ys = refl
gate_first (convert w boolean new) ys = refl
gate_first (convert w bit new) ys = refl
gate_first (entry d n arithmetic new) ys = refl
gate_first (entry d n boolean new) ys = refl
gate_first (entry d n bit new) ys = refl
gate_first (output w) ys = refl

-- the five words of a gate, at any place of a circuit, decode to it
pub gate_read_back : (g : Gate) (xs ys : List ℕ) (i : ℕ) → length xs ≡ 5 * i → gate_at (xs ++ (gate_words g ++ ys)) i ≡ some g
gate_read_back g xs ys i h = gate_past xs (gate_words g ++ ys) i h ∙ gate_first g ys

-- a gate is five words
pub gate_length : (g : Gate) → length (gate_words g) ≡ 5
gate_length (both o a b new) = refl
gate_length (mux g a b new) = refl
gate_length (constant v m new) = refl
gate_length (convert w m new) = refl
gate_length (entry d n m new) = refl
gate_length (output w) = refl

-- a circuit is five words a gate
pub circuit_length : (gs : List Gate) → length (circuit_words gs) ≡ 5 * length gs
unfolding circuit_words
circuit_length [] = refl
circuit_length (g ∷ gs) = omega (arith, length-append (circuit_words gs) (gate_words g), circuit_length gs, gate_length g)

-- so the gates counted in a circuit's words are its gates
pub circuit_gates : (gs : List Gate) → gate_count (circuit_words gs) ≡ length gs
unfolding gate_count
circuit_gates gs = omega (arith, circuit_length gs)

-- a gate is read off its own words: words that follow change nothing
pub gate_front : (c d : List ℕ) (i : ℕ) → 5 * suc i ≤ length c → gate_at (c ++ d) i ≡ gate_at c i
unfolding gate_at gate_word
gate_front c d i h =
    simp (
      get_or-append c d 0 (5 * i + 0) (omega arith),
      get_or-append c d 0 (5 * i + 1) (omega arith),
      get_or-append c d 0 (5 * i + 2) (omega arith),
      get_or-append c d 0 (5 * i + 3) (omega arith),
      get_or-append c d 0 (5 * i + 4) (omega arith),
    )

-- so are the first n gates
pub gates_front : (c d : List ℕ) (n : ℕ) → 5 * n ≤ length c → gates_to (c ++ d) n ≡ gates_to c n
unfolding gates_to
gates_front c d zero h = refl
gates_front c d (suc n) h = ap₂ added (gate_front c d n h) (gates_front c d n (omega arith))

-- so is check 21 of gate i
pub check21_front : (c d : List ℕ) (i : ℕ) → 5 * suc i ≤ length c → check21 (c ++ d) i ≡ check21 c i
unfolding check21
check21_front c d i h = ap₂ gate_keeps (gates_front c d i (omega arith)) (gate_front c d i h)

-- the newest gate of a circuit is its last
last_gate : (g : Gate) (gs : List Gate) → gate_at (circuit_words (g ∷ gs)) (length gs) ≡ some g
unfolding circuit_words
last_gate g gs = rw (append-nil (gate_words g)) at (gate_read_back g (circuit_words gs) [] (length gs) (circuit_length gs))

-- the gates below it are those of the circuit before it
earlier_gates : (g : Gate) (gs : List Gate) → gates_to (circuit_words (g ∷ gs)) (length gs) ≡ gates_to (circuit_words gs) (length gs)
unfolding circuit_words
earlier_gates g gs = gates_front (circuit_words gs) (gate_words g) (length gs) (omega (arith, circuit_length gs))

-- the words of a circuit are read back as its gates
pub gates_read_back : (gs : List Gate) → gates_to (circuit_words gs) (length gs) ≡ gs
unfolding gates_to
gates_read_back [] = refl
gates_read_back (g ∷ gs) = ap₂ added (last_gate g gs) (earlier_gates g gs ∙ gates_read_back gs)

-- a test of gate i that reads only the words up to it
abbrev ReadsFront : (List ℕ → ℕ → Bool) → Type 0
ReadsFront ok = (c d : List ℕ) (i : ℕ) → 5 * suc i ≤ length c → ok (c ++ d) i ≡ ok c i

-- such a test fails at the same earlier gates with a new gate as without it
earlier_failing : (ok : List ℕ → ℕ → Bool) → ReadsFront ok → (g : Gate) (gs : List Gate)
    → failing_below (ok (circuit_words (g ∷ gs))) (length gs) ≡ failing_below (ok (circuit_words gs)) (length gs)
unfolding circuit_words
earlier_failing ok front g gs =
    failing-same (ok (circuit_words gs ++ gate_words g)) (ok (circuit_words gs)) (length gs)
    (λ i l. front (circuit_words gs) (gate_words g) i (omega (arith, circuit_length gs)))

-- the newest gate of a circuit is checked after the others
last_check : (g : Gate) (gs : List Gate) → check21 (circuit_words (g ∷ gs)) (length gs) ≡ keeps_rules gs g
unfolding check21
last_check g gs = ap₂ gate_keeps (earlier_gates g gs ∙ gates_read_back gs) (last_gate g gs)

-- a circuit that keeps the rules is not refused with 21
pub never_21 : (gs : List Gate) → AllKeep gs → failing_below (check21 (circuit_words gs)) (length gs) ≡ []
unfolding failing_below
never_21 [] h = refl
never_21 (g ∷ gs) h =
    (failing_last (check21 (circuit_words (g ∷ gs))) (length gs)).1
    (rw (last_check g gs) h.0, earlier_failing check21 check21_front g gs ∙ never_21 gs h.1)

-- the memory lent for a circuit begins with the circuit's bytes
pub circuit_front : (gs : List Gate) (b : List ℕ) → take (20 * length gs) (over (circuit_words gs) b) ≡ bytes_of (circuit_words gs)
circuit_front gs b =
    let e : 20 * length gs ≡ 4 * length (circuit_words gs) = omega (arith, circuit_length gs) in
    rw e (over_front (circuit_words gs) b)

-- the bytes of a circuit are read back as its gates
pub gates_of_bytes : (gs : List Gate) → AllWords (circuit_words gs) → gates_of (bytes_of (circuit_words gs)) ≡ gs
unfolding gates_of
gates_of_bytes gs h = rw (words_read_back (circuit_words gs) h, circuit_gates gs) (gates_read_back gs)

-- a circuit of at most 3,000 gates is not refused with 20
never_20 : (gs : List Gate) → AllWords (circuit_words gs) → length gs ≤ 3000 → failing20 (bytes_of (circuit_words gs)) ≡ []
unfolding failing20 circuit_fits fault
never_20 gs h n =
    rw (
      words_read_back (circuit_words gs) h,
      eq-eqb (length (bytes_of (circuit_words gs)) % 4) 0 (omega (arith, bytes_length (circuit_words gs))),
      eq-eqb (length (circuit_words gs) % 5) 0 (omega (arith, circuit_length gs)),
      le-leb (length (circuit_words gs)) 15000 (omega (arith, circuit_length gs)),
    )

-- one that keeps the rules too is refused neither with 20 nor with 21
pub never_20_21 : (gs : List Gate) → AllKeep gs → AllWords (circuit_words gs) → length gs ≤ 3000
    → (failing20 (bytes_of (circuit_words gs)) ≡ []) × (failing21 (words (bytes_of (circuit_words gs))) ≡ [])
unfolding failing21
never_20_21 gs k h n = (never_20 gs h n, rw (words_read_back (circuit_words gs) h, circuit_gates gs) (never_21 gs k))

-- the circuit at the front of the memory lent for it is read back too
pub gates_of_lent : (gs : List Gate) (b : List ℕ) → AllWords (circuit_words gs)
    → gates_of (take (20 * length gs) (over (circuit_words gs) b)) ≡ gs
gates_of_lent gs b h = rw (circuit_front gs b) (gates_of_bytes gs h)

-- and is refused neither with 20 nor with 21
pub never_20_21_lent : (gs : List Gate) (b : List ℕ) → AllKeep gs → AllWords (circuit_words gs) → length gs ≤ 3000
    → (failing20 (take (20 * length gs) (over (circuit_words gs) b)) ≡ []) × (failing21 (words (take (20 * length gs) (over (circuit_words gs) b))) ≡ [])
never_20_21_lent gs b k h n = rw (circuit_front gs b) (never_20_21 gs k h n)

-- a gate that makes no wire adds one output to the plain reading, any other none
outs_noted : (o : Option ℕ) (v : ℕ) (r : Reading) → length (noted o v r).outs ≡ out_made o + length r.outs
unfolding noted
outs_noted none v r = omega arith
outs_noted (some new) v r = omega arith

-- so it is with the outputs from shares
outs_dealt : (o : Option ℕ) (m : Sort) (v : ℕ) (tape : List ℕ) (d : Desks) → length (dealt o m v tape d).outs ≡ out_made o + length d.outs
unfolding dealt
outs_dealt none m v tape d = omega arith
outs_dealt (some new) m v tape d = omega arith

-- the plain reading has as many outputs as the circuit has outs
pub out_count_lem : (given : Given) (gs : List Gate) → length (plain given gs).outs ≡ out_count gs
unfolding plain out_count
out_count_lem given [] = refl
out_count_lem given (g ∷ gs) = outs_noted (makes g) _ (plain given gs) ∙ ap (λ (n : ℕ). out_made (makes g) + n) (out_count_lem given gs)

-- so has the reading from shares
pub outs_of_shares : (given : Given) (tape : List ℕ) (gs : List Gate) → length (shared given tape gs).outs ≡ out_count gs
unfolding shared out_count
outs_of_shares given tape [] = refl
outs_of_shares given tape (g ∷ gs) = outs_dealt (makes g) _ _ tape (shared given tape gs) ∙ ap (λ (n : ℕ). out_made (makes g) + n) (outs_of_shares given tape gs)

-- a gate makes a wire or is an out
wire_or_out : (o : Option ℕ) (m : Sort) (w : Wires) → (wired o m w).count + out_made o ≡ suc w.count
unfolding wired
wire_or_out none m w = omega arith
wire_or_out (some new) m w = omega arith

-- so a circuit's gates are its wires and its outs
pub wires_and_outs : (gs : List Gate) → length gs ≡ (wires gs).count + out_count gs
unfolding wires out_count
wires_and_outs [] = refl
wires_and_outs (g ∷ gs) = omega (arith, wires_and_outs gs, wire_or_out (makes g) (sort_made (wires gs).sort g) (wires gs))
