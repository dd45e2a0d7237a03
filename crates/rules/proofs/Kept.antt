-- What a gate that keeps the rules of its table reads and makes: wires below the count, and the next one.
use mathlib.Core.Path.{◌≡◌, refl, sym, ◌∙◌, subst}
use mathlib.Core.Logic.{◌⊎◌, inl, inr, ⊎_elim}
use Prim.Native.Nat.{ℕ, suc, ◌<◌}
use native.Mathlib.Omega.{arith}
use mathlib.Core.Bool.{Bool, true, false, ◌&&◌, ◌||◌}
use mathlib.Core.Option.{Option, none, some}
use mathlib.Core.List.{List}
use lib.Dec.{T, eqb, ltb→lt, eqb→eq}
use borrow.Author.Tests.{eqb-true, eqb-false}
use Rattle.rules.specs.Sorts.{Sort, arithmetic, boolean, bit, same, fits_sort, side_at}
use Rattle.rules.specs.Gates.{Gate, both, mux, constant, convert, entry, output}
use Rattle.rules.specs.Gates.{makes, Wires, wires, is_wire, is_next, keeps_rules}
use Rattle.rules.proofs.Basics.{and_left, and_right, same_true}

-- where one of two tests passes, the first does or the second
or_cases : (x y : Bool) → T (x || y) → T x ⊎ T y
or_cases true y t = inl tt
or_cases false y t = inr t

-- a test out of a row of tests that all pass
ruleset parts = (and_left, and_right)

-- a wire of a sort has a number below the count
pub wire_below : (gs : List Gate) (w : ℕ) (m : Sort) → T (is_wire gs w m) → w < (wires gs).count
unfolding is_wire
wire_below gs w m t = ltb→lt w (wires gs).count (search parts)

-- and it has that sort
pub wire_sort : (gs : List Gate) (w : ℕ) (m : Sort) → T (is_wire gs w m) → (wires gs).sort w ≡ m
unfolding is_wire
wire_sort gs w m t = same_true ((wires gs).sort w) m (search parts)

-- a new wire has the next number, which is the count
pub next_is : (gs : List Gate) (new : ℕ) → T (is_next gs new) → new ≡ (wires gs).count
unfolding is_next
next_is gs new t = eqb→eq new (wires gs).count t

-- two wires of one sort
abbrev pub Alike : Wires → ℕ → ℕ → Type 0
Alike w a b = (a < w.count) × (b < w.count) × (w.sort b ≡ w.sort a)

-- a wire, and a sort of uints: any number may stand on it
abbrev pub Converts : Wires → ℕ → Sort → Type 0
Converts w x m = (x < w.count) × ((v : ℕ) → T (fits_sort m v))

-- what the theorems below use of the rules: wires read are below the count, and a new one has the next number
abbrev pub Kept : Wires → Gate → Type 0
Kept w (both o a b new) = (a < w.count) × (b < w.count) × (new ≡ w.count)
Kept w (mux g a b new) = (g < w.count) × Alike w a b × (new ≡ w.count)
Kept w (constant v m new) = T (fits_sort m v) × (new ≡ w.count)
Kept w (convert x m new) = Converts w x m × (new ≡ w.count)
Kept w (entry d n m new) = new ≡ w.count
Kept w (output x) = x < w.count

-- two wires that pass for wires of one sort
alike : (gs : List Gate) (a b : ℕ) (m : Sort) → T (is_wire gs a m && is_wire gs b m) → Alike (wires gs) a b
alike gs a b m t =
    let ta : T (is_wire gs a m) = search parts in
    let tb : T (is_wire gs b m) = search parts in
    (wire_below gs a m ta, wire_below gs b m tb, wire_sort gs b m tb ∙ sym (wire_sort gs a m ta))

-- the arms of a mux are two wires of one sort
mux_arms : (gs : List Gate) (a b : ℕ)
    → T (is_wire gs a boolean && is_wire gs b boolean || is_wire gs a bit && is_wire gs b bit) → Alike (wires gs) a b
mux_arms gs a b t =
    ⊎_elim (alike gs a b boolean) (alike gs a b bit)
    (or_cases (is_wire gs a boolean && is_wire gs b boolean) (is_wire gs a bit && is_wire gs b bit) t)

-- a wire, and a sort that passes for one of uints
converts : (gs : List Gate) (w : ℕ) (from to m : Sort) → ((v : ℕ) → T (fits_sort to v)) → T (is_wire gs w from && same m to)
    → Converts (wires gs) w m
converts gs w from to m any t = (
  wire_below gs w from (search parts),
  λ v. subst (λ (k : Sort). T (fits_sort k v)) (sym (same_true m to (search parts))) (any v),
)

-- a convert reads a wire and makes a uint
convert_parts : (gs : List Gate) (w : ℕ) (m : Sort)
    → T (is_wire gs w arithmetic && same m boolean || is_wire gs w boolean && same m arithmetic) → Converts (wires gs) w m
convert_parts gs w m t =
    ⊎_elim (converts gs w arithmetic boolean m (λ v. tt)) (converts gs w boolean arithmetic m (λ v. tt))
    (or_cases (is_wire gs w arithmetic && same m boolean) (is_wire gs w boolean && same m arithmetic) t)

-- each gate that keeps the rules does what is used of them
pub kept_of : (gs : List Gate) (g : Gate) → T (keeps_rules gs g) → Kept (wires gs) g
unfolding keeps_rules
kept_of gs (both o a b new) t =
    (wire_below gs a (side_at o) (search parts), wire_below gs b (side_at o) (search parts), next_is gs new (search parts))
kept_of gs (mux g a b new) t = (wire_below gs g bit (search parts), mux_arms gs a b (search parts), next_is gs new (search parts))
kept_of gs (constant v m new) t = (search parts, next_is gs new (search parts))
kept_of gs (convert w m new) t = (convert_parts gs w m (search parts), next_is gs new (search parts))
kept_of gs (entry d n m new) t = next_is gs new (search parts depth 6)
kept_of gs (output w) t = ltb→lt w (wires gs).count t

-- a new wire has the next number; an out makes none
abbrev pub Next : Option ℕ → ℕ → Type 0
Next none n = Unit {0}
Next (some new) n = new ≡ n

-- a gate that is kept makes the next wire
pub kept_next : (w : Wires) (g : Gate) → Kept w g → Next (makes g) w.count
kept_next w (both o a b new) kept = kept.2
kept_next w (mux g a b new) kept = kept.2
kept_next w (constant v m new) kept = kept.1
kept_next w (convert x m new) kept = kept.1
kept_next w (entry d n m new) kept = kept
kept_next w (output x) kept = tt

-- wire k is the new one, or stood before it
pub new_or_before : (P : Bool → Type 0) (k new n : ℕ) → new ≡ n → k < suc n → (k ≡ new → P true) → (k < n → P false) → P (eqb k new)
new_or_before P k new n next below here before = go (eqb k new) refl
  where
    go : (t : Bool) → eqb k new ≡ t → P t
    go true e = here (eqb-true k new e)
    go false e = before (omega (arith, eqb-false k new e))
