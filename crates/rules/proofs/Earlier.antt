-- The first gates of a circuit that passes check 21, beside all of them: their wires and outs, and the wire that the next makes.
use Prim.Native.Nat.{ℕ, zero, suc, ◌+◌, ◌≤◌, ◌<◌}
use mathlib.Core.Path.{◌≡◌, refl, ap, ◌∙◌}
use mathlib.Core.Bool.{Bool, cond}
use mathlib.Core.Option.{Option, none, some}
use mathlib.Core.List.{List, [], ◌∷◌}
use lib.Dec.{T}
use lib.ListN.{length}
use native.Mathlib.Decide.{le_ind}
use native.Mathlib.Omega.{arith}
use Rattle.rules.specs.Places.{failing_below}
use Rattle.rules.specs.Sorts.{Sort}
use Rattle.rules.specs.Gates.{Gate, gate_at, added, gates_to, makes, Wires, sort_made, wired, wires, keeps_rules, gate_keeps, check21}
use Rattle.rules.specs.Answers.{out_made, out_count}
use Rattle.rules.proofs.Basics.{none≢some}
use Rattle.rules.proofs.Places.{none_below, below_none}
use Rattle.rules.proofs.Kept.{kept_of, Next, kept_next, new_or_before}
use Rattle.rules.proofs.Circuits.{wires_and_outs}

-- where no place below n fails, none below an earlier one does
pub none_earlier : (ok : ℕ → Bool) (i n : ℕ) → i ≤ n → failing_below ok n ≡ [] → failing_below ok i ≡ []
none_earlier ok i n h e = below_none ok i λ r l. none_below ok n e r (omega arith)

-- The wires and outs of one gate more.

-- a gate that makes a wire adds one to the count,
pub count-made : (g : Gate) (gs : List Gate) {new : ℕ} → makes g ≡ some new → (wires (g ∷ gs)).count ≡ suc (wires gs).count
unfolding wires wired
count-made g gs e = ap (λ o. (wired o (sort_made (wires gs).sort g) (wires gs)).count) e

-- and an out adds none
pub count_out : (g : Gate) (gs : List Gate) → makes g ≡ none → (wires (g ∷ gs)).count ≡ (wires gs).count
unfolding wires wired
count_out g gs e = ap (λ o. (wired o (sort_made (wires gs).sort g) (wires gs)).count) e

-- a gate that makes a wire adds no out,
pub outs_made : (g : Gate) (gs : List Gate) {new : ℕ} → makes g ≡ some new → out_count (g ∷ gs) ≡ out_count gs
unfolding out_count
outs_made g gs e = ap (λ o. out_made o + out_count gs) e ∙ omega arith

-- and an out adds one
pub outs_out : (g : Gate) (gs : List Gate) → makes g ≡ none → out_count (g ∷ gs) ≡ suc (out_count gs)
unfolding out_count
outs_out g gs e = ap (λ o. out_made o + out_count gs) e ∙ omega arith

-- a new wire with the next number leaves the sorts of those before it
wired_before : (o : Option ℕ) (m : Sort) (w : Wires) → Next o w.count → (k : ℕ) → k < w.count → (wired o m w).sort k ≡ w.sort k
unfolding wired
wired_before none m w next k below = refl
wired_before (some new) m w next k below =
    new_or_before (λ t. cond t m (w.sort k) ≡ w.sort k) k new w.count next (omega arith) (λ e. absurd (omega arith)) (λ l. refl)

-- and has the sort that it is made with
wired_new : (o : Option ℕ) (m : Sort) (w : Wires) → Next o w.count → {new : ℕ} → o ≡ some new → (wired o m w).sort w.count ≡ m
unfolding wired
wired_new none m w next {new} e = absurd (none≢some new e)
wired_new (some a) m w next e =
    new_or_before (λ t. cond t m (w.sort w.count) ≡ m) w.count a w.count next (omega arith) (λ f. refl) (λ l. absurd (omega arith))

-- a gate that keeps the rules leaves the sorts of the wires before it,
pub sort_before : (g : Gate) (gs : List Gate) → T (keeps_rules gs g) → (k : ℕ) → k < (wires gs).count → (wires (g ∷ gs)).sort k ≡ (wires gs).sort k
unfolding wires
sort_before g gs ok = wired_before (makes g) (sort_made (wires gs).sort g) (wires gs) (kept_next (wires gs) g (kept_of gs g ok))

-- and its new wire has the sort that it makes
pub sort_new : (g : Gate) (gs : List Gate) {new : ℕ} → T (keeps_rules gs g) → makes g ≡ some new
    → (wires (g ∷ gs)).sort (wires gs).count ≡ sort_made (wires gs).sort g
unfolding wires
sort_new g gs ok e = wired_new (makes g) (sort_made (wires gs).sort g) (wires gs) (kept_next (wires gs) g (kept_of gs g ok)) e

-- The first gates.

-- what keeps the rules is a gate
pub kept_gate : (o : Option Gate) (gs : List Gate) → T (gate_keeps gs o) → (g : Gate) × ((o ≡ some g) × T (keeps_rules gs g))
kept_gate none gs ok = absurd ok
kept_gate (some g) gs ok = (g, (refl, ok))

-- where none of n gates fails check 21, each is a gate that keeps the rules after those before it
pub gate_kept : (c : List ℕ) (n i : ℕ) → failing_below (check21 c) n ≡ [] → i < n
    → (g : Gate) × ((gate_at c i ≡ some g) × T (keeps_rules (gates_to c i) g))
unfolding check21
gate_kept c n i e l = kept_gate (gate_at c i) (gates_to c i) (none_below (check21 c) n e i l)

-- the gates with one more, the newest first
pub gates_step : (c : List ℕ) (i : ℕ) {g : Gate} → gate_at c i ≡ some g → gates_to c (suc i) ≡ g ∷ gates_to c i
unfolding gates_to
gates_step c i e = ap (λ o. added o (gates_to c i)) e

-- a number read off the gates that no gate more makes less is not less of more gates
grows : (f : List Gate → ℕ) → ((o : Option Gate) (gs : List Gate) → f gs ≤ f (added o gs)) → (c : List ℕ) (i n : ℕ) → i ≤ n
    → f (gates_to c i) ≤ f (gates_to c n)
unfolding gates_to
grows f more c i n h = le_ind (λ m. f (gates_to c i) ≤ f (gates_to c m)) (omega arith) (λ m l e. omega (arith, e, more (gate_at c m) (gates_to c m))) n h

-- one gate more does not make the count of wires less
wired_more : (o : Option ℕ) (m : Sort) (w : Wires) → w.count ≤ (wired o m w).count
unfolding wired
wired_more none m w = omega arith
wired_more (some new) m w = omega arith

count_more : (o : Option Gate) (gs : List Gate) → (wires gs).count ≤ (wires (added o gs)).count
unfolding wires
count_more none gs = omega arith
count_more (some g) gs = wired_more (makes g) (sort_made (wires gs).sort g) (wires gs)

-- so the first gates have no more wires than all
pub count_earlier : (c : List ℕ) (i n : ℕ) → i ≤ n → (wires (gates_to c i)).count ≤ (wires (gates_to c n)).count
count_earlier = grows (λ gs. (wires gs).count) count_more

-- nor that of outs
outs_more : (o : Option Gate) (gs : List Gate) → out_count gs ≤ out_count (added o gs)
unfolding out_count
outs_more none gs = omega arith
outs_more (some g) gs = omega arith

-- nor more outs
pub outs_earlier : (c : List ℕ) (i n : ℕ) → i ≤ n → out_count (gates_to c i) ≤ out_count (gates_to c n)
outs_earlier = grows out_count outs_more

-- gate i that is checked is added to those before it
checked_step : (c : List ℕ) (i : ℕ) → failing_below (check21 c) (suc i) ≡ []
    → (g : Gate) × ((gates_to c (suc i) ≡ g ∷ gates_to c i) × T (keeps_rules (gates_to c i) g))
checked_step c i e = let (g, (there, ok)) = gate_kept c (suc i) i e (omega arith) in (g, (gates_step c i there, ok))

-- one gate more that is checked leaves the sorts of the wires before it
sort_step : (c : List ℕ) (i : ℕ) → failing_below (check21 c) (suc i) ≡ [] → (k : ℕ) → k < (wires (gates_to c i)).count
    → (wires (gates_to c (suc i))).sort k ≡ (wires (gates_to c i)).sort k
sort_step c i e k below = let (g, (step, ok)) = checked_step c i e in rw step (sort_before g (gates_to c i) ok k below)

-- the sort of a wire of the first gates is its sort in all of them
pub sort_earlier : (c : List ℕ) (i n : ℕ) → i ≤ n → failing_below (check21 c) n ≡ [] → (k : ℕ) → k < (wires (gates_to c i)).count
    → (wires (gates_to c n)).sort k ≡ (wires (gates_to c i)).sort k
sort_earlier c i n h e k below = le_ind (λ m. failing_below (check21 c) m ≡ [] → (wires (gates_to c m)).sort k ≡ (wires (gates_to c i)).sort k)
    (λ f. refl)
    (λ m l before f. sort_step c m f k (omega (arith, count_earlier c i m l)) ∙ before (none_earlier (check21 c) m (suc m) (omega arith) f))
    n h e

-- n places have at most n gates,
pub gates_below : (c : List ℕ) (n : ℕ) → length (gates_to c n) ≤ n
unfolding gates_to
gates_below c zero = omega arith
gates_below c (suc n) = omega (arith, at_most (gate_at c n), gates_below c n)
  where
    at_most : (o : Option Gate) → length (added o (gates_to c n)) ≤ suc (length (gates_to c n))
    at_most none = omega arith
    at_most (some g) = omega arith

-- and at most n wires
pub wires-below : (c : List ℕ) (n : ℕ) → (wires (gates_to c n)).count ≤ n
wires-below c n = omega (arith, gates_below c n, wires_and_outs (gates_to c n))

-- where none fails check 21 they have n gates
pub gates_all : (c : List ℕ) (n : ℕ) → failing_below (check21 c) n ≡ [] → length (gates_to c n) ≡ n
gates_all c zero e = omega (arith, gates_below c 0)
gates_all c (suc n) e =
    let step = (checked_step c n e).1.0 in
    ap length step ∙ ap suc (gates_all c n (none_earlier (check21 c) n (suc n) (omega arith) e))
