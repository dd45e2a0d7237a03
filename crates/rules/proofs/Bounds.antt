-- The words of a sound circuit of at most 3,000 gates are words: its wires, desks, numbers and sorts are small.
use Prim.Native.Nat.{ℕ, ◌≤◌, ◌<◌}
use mathlib.Core.Path.{◌≡◌}
use mathlib.Core.Bool.{Bool, true, false, not, ◌&&◌, ◌||◌}
use mathlib.Core.List.{List, [], ◌∷◌}
use lib.Dec.{T, eqb, ltb, ltb→lt, eqb→eq}
use lib.ListN.{length}
use native.Mathlib.Omega.{arith}
use Rattle.words.specs.Words.{AllWords}
use Rattle.words.proofs.Words.{words_both}
use Rattle.rules.specs.Rows.{Op, add, gt}
use Rattle.rules.specs.Sorts.{Sort, arithmetic, boolean, bit, sort_number, same, fits_sort, side_at}
use Rattle.rules.specs.Gates.{Gate, both, mux, constant, convert, entry, output, gate_number, gate_words, circuit_words, wires, is_wire, is_next, clashes, keeps_rules}
use Rattle.rules.proofs.Making.{Extra, AllSound}
use Rattle.rules.proofs.Circuits.{wires_and_outs}
use Rattle.rules.proofs.Basics.{and_left, and_right}

sort_small : (m : Sort) → sort_number m < 4294967296
sort_small arithmetic = omega arith
sort_small boolean = omega arith
sort_small bit = omega arith

number_small : (o : Op) → gate_number o < 4294967296
number_small add = omega arith
number_small gt = omega arith

desk_small : (d : ℕ) → T (eqb d 1 || eqb d 2) → d < 4294967296
desk_small d = go (eqb d 1) (eqb d 2) (eqb→eq d 1) (eqb→eq d 2)
  where
    go : (a b : Bool) → (T a → d ≡ 1) → (T b → d ≡ 2) → T (a || b) → d < 4294967296
    go true b p q t = let e = p tt in omega arith
    go false b p q t = let e = q t in omega arith

module _ (gs : List Gate) (few : length gs ≤ 3000) where
  -- a wire that was made, and the next one
  wire_small : (w : ℕ) (m : Sort) → T (is_wire gs w m) → w < 4294967296
  unfolding is_wire
  wire_small w m t = omega (arith, ltb→lt w (wires gs).count (and_left (ltb w (wires gs).count) (same ((wires gs).sort w) m) t), wires_and_outs gs)

  next_small : (new : ℕ) → T (is_next gs new) → new < 4294967296
  unfolding is_next
  next_small new t = omega (arith, eqb→eq new (wires gs).count t, wires_and_outs gs)

  either_small : (w : ℕ) (a b : Bool) (m k : Sort) → T (is_wire gs w m && a || is_wire gs w k && b) → w < 4294967296
  either_small w a b m k t = go (is_wire gs w m) (is_wire gs w k) (wire_small w m) (wire_small w k) t
    where
      go : (x y : Bool) → (T x → w < 4294967296) → (T y → w < 4294967296) → T (x && a || y && b) → w < 4294967296
      go true y p q t = p tt
      go false y p q t = q (and_left y b t)

  other_small : (v w : ℕ) (m k : Sort) → T (is_wire gs v m && is_wire gs w m || is_wire gs v k && is_wire gs w k) → w < 4294967296
  other_small v w m k t = go (is_wire gs v m) (is_wire gs v k) (is_wire gs w m) (is_wire gs w k) (wire_small w m) (wire_small w k) t
    where
      go : (a b x y : Bool) → (T x → w < 4294967296) → (T y → w < 4294967296) → T (a && x || b && y) → w < 4294967296
      go a b true y p q t = p tt
      go a b false true p q t = q tt
      go true true false false p q t = absurd t
      go true false false false p q t = absurd t
      go false true false false p q t = absurd t
      go false false false false p q t = absurd t

  gate_small : (σ : ℕ → ℕ → Sort) (g : Gate) → T (keeps_rules gs g) → Extra σ g → AllWords (gate_words g)
  unfolding keeps_rules
  gate_small σ (both o a b new) t x =
      let A = is_wire gs a (side_at o) in
      let B = is_wire gs b (side_at o) in
      let rest = and_right A (B && is_next gs new) t in (
        number_small o,
        (wire_small a (side_at o) (and_left A (B && is_next gs new) t), (wire_small b (side_at o) (and_left B (is_next gs new) rest), (next_small new (and_right B (is_next gs new) rest), (omega arith, tt)))),
      )
  gate_small σ (mux g a b new) t x =
      let G = is_wire gs g bit in
      let arms = is_wire gs a boolean && is_wire gs b boolean || is_wire gs a bit && is_wire gs b bit in
      let rest = and_right G (arms && is_next gs new) t in
      let both-arms = and_left arms (is_next gs new) rest in (
        omega arith,
        (
          wire_small g bit (and_left G (arms && is_next gs new) t),
          (
            either_small a (is_wire gs b boolean) (is_wire gs b bit) boolean bit both-arms,
            (other_small a b boolean bit both-arms, (next_small new (and_right arms (is_next gs new) rest), tt)),
          ),
        ),
      )
  gate_small σ (constant v m new) t x = (omega arith, (omega (arith, x), (sort_small m, (next_small new (and_right (fits_sort m v) (is_next gs new) t), (omega arith, tt)))))
  gate_small σ (convert w m new) t x =
      let ways = is_wire gs w arithmetic && same m boolean || is_wire gs w boolean && same m arithmetic in (
        omega arith,
        (
          either_small w (same m boolean) (same m arithmetic) arithmetic boolean (and_left ways (is_next gs new) t),
          (sort_small m, (next_small new (and_right ways (is_next gs new) t), (omega arith, tt))),
        ),
      )
  gate_small σ (entry d n m new) t x =
      let D = eqb d 1 || eqb d 2 in
      let M = same m arithmetic || same m bit in
      let C = not (clashes gs d n m) in
      let after-desk = and_right D (ltb n 64 && (M && (C && is_next gs new))) t in
      let after-number = and_right (ltb n 64) (M && (C && is_next gs new)) after-desk in
      let after-sort = and_right M (C && is_next gs new) after-number in (
        omega arith,
        (
          desk_small d (and_left D (ltb n 64 && (M && (C && is_next gs new))) t),
          (
            omega (arith, ltb→lt n 64 (and_left (ltb n 64) (M && (C && is_next gs new)) after-desk)),
            (sort_small m, (next_small new (and_right C (is_next gs new) after-sort), tt)),
          ),
        ),
      )
  gate_small σ (output w) t x =
      (omega arith, (omega (arith, ltb→lt w (wires gs).count t, wires_and_outs gs), (omega arith, (omega arith, (omega arith, tt)))))

-- every word of a sound circuit of at most 3,000 gates
pub sound_words : (σ : ℕ → ℕ → Sort) (gs : List Gate) → AllSound σ gs → length gs ≤ 3000 → AllWords (circuit_words gs)
unfolding circuit_words
sound_words σ [] h l = tt
sound_words σ (g ∷ gs) h l =
    words_both (circuit_words gs) (gate_words g) (sound_words σ gs h.2 (omega arith)) (gate_small gs (omega arith) σ g h.0 h.1)
