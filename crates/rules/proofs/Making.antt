-- Gates are made: what a value is worth, what stays as gates are added, and what each kind of gate gives. A gate keeps the
-- rules of check 21 if those before it do.
use Prim.Native.Nat.{ℕ, suc, ◌≤◌, ◌<◌}
use mathlib.Core.Path.{◌≡◌, refl, sym, subst, ap, ◌∙◌}
use mathlib.Core.Logic.{◌⊎◌, inl, inr}
use mathlib.Core.Bool.{Bool, true, false, not, cond, ◌&&◌, ◌||◌}
use mathlib.Core.Option.{some}
use mathlib.Core.List.{List, [], ◌∷◌}
use lib.Dec.{T, eqb, ltb, eqb_refl, lt→ltb, le→leb}
use borrow.Author.Tests.{ne_eqb, eq-eqb, eqb-true}
use native.Mathlib.Omega.{arith}
use Rattle.rules.specs.Rows.{Ty, uint, bool, Op, add, gt}
use Rattle.rules.specs.Types.{result_type}
use Rattle.rules.specs.Sorts.{Sort, arithmetic, boolean, bit, same, type_at, fits_sort, kept_at, muxed_at, side_at, result_at, applied, arm}
use Rattle.rules.specs.Gates.{Gate, both, mux, constant, convert, entry, output, makes, Wires, wires, wired, sort_made, is_wire, is_next, other_sort, clashes, keeps_rules, AllKeep}
use Rattle.rules.specs.Run.{Val, known, held, State, Made, wire_in, number_in, type_v, make, converted, bring_val, bring}
use Rattle.rules.specs.Plain.{Given, value_of, Reading, noted, plain}
use Rattle.rules.proofs.Basics.{and_both, or_left, or_right, same_refl, same_true}

-- the largest value of a type
abbrev pub top_of : Ty → ℕ
top_of uint = 4294967295
top_of bool = 1

abbrev pub is_held : Val → Bool
is_held (known t n) = false
is_held (held w m) = true

-- What check 21 cannot see of a gate: a constant is a word, and an input is read at the sort that σ gives it.
abbrev pub Extra : (ℕ → ℕ → Sort) → Gate → Type 0
Extra σ (both o a b new) = Unit {0}
Extra σ (mux g a b new) = Unit {0}
Extra σ (constant v m new) = v ≤ 4294967295
Extra σ (convert w m new) = Unit {0}
Extra σ (entry d n m new) = m ≡ σ d n
Extra σ (output w) = Unit {0}

abbrev pub AllSound : (ℕ → ℕ → Sort) → List Gate → Type 0
AllSound σ [] = Unit {0}
AllSound σ (g ∷ gs) = T (keeps_rules gs g) × Extra σ g × AllSound σ gs

pub sound_keeps : (σ : ℕ → ℕ → Sort) (gs : List Gate) → AllSound σ gs → AllKeep gs
sound_keeps σ [] h = tt
sound_keeps σ (g ∷ gs) h = (h.0, sound_keeps σ gs h.2)

-- one gate of another sort, where both sorts are σ's
other_none : (σ : ℕ → ℕ → Sort) (d n : ℕ) (m : Sort) (g : Gate) → Extra σ g → m ≡ σ d n → T (not (other_sort d n m g))
other_none σ d n m (both o a b new) x e = tt
other_none σ d n m (mux g a b new) x e = tt
other_none σ d n m (constant v k new) x e = tt
other_none σ d n m (convert w k new) x e = tt
other_none σ d n m (entry d' n' k new) x e = go (eqb d' d) refl (eqb n' n) refl
  where
    go : (p : Bool) → eqb d' d ≡ p → (q : Bool) → eqb n' n ≡ q → T (not (p && (q && not (same k m))))
    go false _ q _ = tt
    go true _ false _ = tt
    go true hp true hq =
        let h : k ≡ m = x ∙ (ap (λ i. σ i n') (eqb-true d' d hp) ∙ ap (σ d) (eqb-true n' n hq)) ∙ sym e in
        rw h (double (same m m) (same_refl m))
      where
        double : (b : Bool) → T b → T (not (not b))
        double true t = tt
        double false t = absurd t
other_none σ d n m (output w) x e = tt

-- gates that read every input at σ's sort clash with none that does
pub no_clash : (σ : ℕ → ℕ → Sort) (gs : List Gate) → AllSound σ gs → (d n : ℕ) (m : Sort) → m ≡ σ d n → T (not (clashes gs d n m))
unfolding clashes
no_clash σ [] h d n m e = tt
no_clash σ (g ∷ gs) h d n m e = neither (other_sort d n m g) (clashes gs d n m) (other_none σ d n m g h.1 e) (no_clash σ gs h.2 d n m e)
  where
    neither : (a b : Bool) → T (not a) → T (not b) → T (not (a || b))
    neither true b p q = p
    neither false b p q = q

-- constructors differ
true≢false : true ≡ false → ⊥
true≢false e = let z : ◌≡◌ {A = ℕ} 0 1 = cc in omega arith

pub uint≢bool : uint ≡ bool → ⊥
uint≢bool e = let z : ◌≡◌ {A = ℕ} 0 1 = cc in omega arith

-- What a value is worth, once its wires are read; and the type that it has.
abbrev pub Worth : Given → State → Ty → Val → ℕ → Type 0
Worth given s t (known y n) v = (n ≡ v) × (y ≡ t) × (n ≤ top_of t)
Worth given s t (held w m) v = (w < s.wires) × ((plain given s.gates).value w ≡ v) × ((wires s.gates).sort w ≡ m) × (type_at m ≡ t)

-- the gates so far keep the rules, and the state counts their wires
pub record Good (σ : ℕ → ℕ → Sort) (s : State) : Type 0 where
  pub gates : AllSound σ s.gates
  pub counted : (wires s.gates).count ≡ s.wires

-- more gates: they keep the old wires' values and sorts, the outputs and the cells
pub record More (given : Given) (σ : ℕ → ℕ → Sort) (s u : State) : Type 0 where
  pub wider : s.wires ≤ u.wires
  pub old : (k : ℕ) → k < s.wires → (plain given u.gates).value k ≡ (plain given s.gates).value k
  pub sorts : (k : ℕ) → k < s.wires → (wires u.gates).sort k ≡ (wires s.gates).sort k
  pub good : Good σ s → Good σ u
  pub outs : (plain given u.gates).outs ≡ (plain given s.gates).outs
  pub cells : u.cells ≡ s.cells

-- an expression's value v of type t, held only where h says secret
pub record Gives (given : Given) (σ : ℕ → ℕ → Sort) (h : Bool) (s : State) (t : Ty) (m : Made) (v : ℕ) : Type 0 where
  pub more : More given σ s m.st
  pub worth : Worth given m.st t m.val v
  pub label : T (is_held m.val) → T h

-- the same of a value that is held at sort o
pub record Wired (given : Given) (σ : ℕ → ℕ → Sort) (s : State) (o : Sort) (m : Made) (v : ℕ) : Type 0 where
  pub more : More given σ s m.st
  pub on : wire_in m.val < m.st.wires
  pub worth : (plain given m.st.gates).value (wire_in m.val) ≡ v
  pub sorted : (wires m.st.gates).sort (wire_in m.val) ≡ o
  pub wire : m.val ≡ held (wire_in m.val) o

module _ (given : Given) (σ : ℕ → ℕ → Sort) where
  pub more_refl : (s : State) → More given σ s s
  more_refl s = record { wider = omega arith; old = λ k h. refl; sorts = λ k h. refl; good = λ g. g; outs = refl; cells = refl }

  pub more_trans : (s u v : State) → More given σ s u → More given σ u v → More given σ s v
  more_trans s u v a b = record {
    wider = omega arith;
    old = λ k h. b.old k (omega arith) ∙ a.old k h;
    sorts = λ k h. b.sorts k (omega arith) ∙ a.sorts k h;
    good = λ g. b.good (a.good g);
    outs = b.outs ∙ a.outs;
    cells = b.cells ∙ a.cells;
  }

  pub worth_more : (s u : State) → More given σ s u → (t : Ty) (x : Val) (v : ℕ) → Worth given s t x v → Worth given u t x v
  worth_more s u m t (known y n) v w = w
  worth_more s u m t (held k o) v w = (omega arith, m.old k w.0 ∙ w.1, m.sorts k w.0 ∙ w.2, w.3)

  pub after-wired : (s u : State) (o : Sort) (m : Made) (v : ℕ) → More given σ s u → Wired given σ u o m v → Wired given σ s o m v
  after-wired s u o m v a w =
      record { more = more_trans s u m.st a w.more; on = w.on; worth = w.worth; sorted = w.sorted; wire = w.wire }

  pub after-gives : (h : Bool) (s u : State) (t : Ty) (m : Made) (v : ℕ) → More given σ s u → Gives given σ h u t m v → Gives given σ h s t m v
  after-gives h s u t m v a w = record { more = more_trans s u m.st a w.more; worth = w.worth; label = w.label }

  -- a gate whose new wire is the next one, is worth v and has sort o
  module _ (s : State) (g : ℕ → Gate) (o : Sort) (v : ℕ)
      (new : makes (g s.wires) ≡ some s.wires)
      (gives : value_of given (plain given s.gates).value (g s.wires) ≡ v)
      (sorted : sort_made (wires s.gates).sort (g s.wires) ≡ o)
      (fine : Good σ s → T (keeps_rules s.gates (g s.wires)) × Extra σ (g s.wires)) where
    plain-made : plain given (g s.wires ∷ s.gates) ≡ noted (some s.wires) v (plain given s.gates)
    unfolding plain
    plain-made = rw (new, gives)

    wires-made : wires (g s.wires ∷ s.gates) ≡ wired (some s.wires) o (wires s.gates)
    unfolding wires
    wires-made = rw (new, sorted)

    make_more : More given σ s (make g o s).st
    unfolding make noted wired
    make_more = record {
      wider = omega arith;
      old = λ k h. ap (λ (r : Reading). r.value k) plain-made ∙ rw (ne_eqb k s.wires (λ q. omega arith));
      sorts = λ k h. ap (λ (r : Wires). r.sort k) wires-made ∙ rw (ne_eqb k s.wires (λ q. omega arith));
      good = λ a. record {
        gates = ((fine a).0, (fine a).1, a.gates);
        counted = ap (λ (r : Wires). r.count) wires-made ∙ ap suc a.counted;
      };
      outs = ap (λ (r : Reading). r.outs) plain-made;
      cells = refl;
    }

    pub made-wired : Wired given σ s o (make g o s) v
    unfolding make noted wired
    made-wired = record {
      more = make_more;
      on = omega arith;
      worth = ap (λ (r : Reading). r.value s.wires) plain-made ∙ rw (eq-eqb s.wires s.wires refl);
      sorted = ap (λ (r : Wires). r.sort s.wires) wires-made ∙ rw (eq-eqb s.wires s.wires refl);
      wire = refl;
    }

  -- a held value gives what it is worth, whatever is secret
  pub wired-gives : (s : State) (o : Sort) (m : Made) (v : ℕ) → Wired given σ s o m v → Gives given σ true s (type_at o) m v
  wired-gives s o m v w = record {
    more = w.more;
    worth = subst (λ (x : Val). Worth given m.st (type_at o) x v) (sym w.wire) (w.on, w.worth, w.sorted, refl);
    label = λ t. tt;
  }

  next : (s : State) → Good σ s → T (is_next s.gates s.wires)
  unfolding is_next
  next s g = rw g.counted (eqb_refl s.wires)

  a_wire : (s : State) (w : ℕ) (m : Sort) → Good σ s → w < s.wires → (wires s.gates).sort w ≡ m → T (is_wire s.gates w m)
  unfolding is_wire
  a_wire s w m g h e = and_both (ltb w (wires s.gates).count) (same ((wires s.gates).sort w) m)
      (rw g.counted (lt→ltb w s.wires h)) (rw e (same_refl m))

  holds_top : (o : Sort) (n : ℕ) → n ≤ top_of (type_at o) → T (fits_sort o n)
  holds_top arithmetic n h = tt
  holds_top boolean n h = tt
  holds_top bit n h = le→leb n 1 h

  word_top : (t : Ty) (n : ℕ) → n ≤ top_of t → n ≤ 4294967295
  word_top uint n h = h
  word_top bool n h = omega arith

  pub constant_wired : (s : State) (o : Sort) (n : ℕ) → n ≤ top_of (type_at o) → Wired given σ s o (make (constant n o) o s) n
  unfolding value_of sort_made keeps_rules
  constant_wired s o n h = made-wired s (constant n o) o n refl refl refl
      (λ g. (and_both (fits_sort o n) (is_next s.gates s.wires) (holds_top o n h) (next s g), word_top (type_at o) n h))

  pub entry_wired : (s : State) (d n : ℕ) (t : Ty) → T (eqb d 1 || eqb d 2) → n < 64 → kept_at t ≡ σ d n
      → Wired given σ s (kept_at t) (make (entry d n (kept_at t)) (kept_at t) s) (given d n)
  unfolding value_of sort_made keeps_rules
  entry_wired s d n t hd hn e = made-wired s (entry d n (kept_at t)) (kept_at t) (given d n) refl refl refl (λ g. (
    and_both (eqb d 1 || eqb d 2) _ hd
        (and_both (ltb n 64) _ (lt→ltb n 64 hn)
        (and_both (same (kept_at t) arithmetic || same (kept_at t) bit) _ (kept_sort t)
        (and_both (not (clashes s.gates d n (kept_at t))) (is_next s.gates s.wires) (no_clash σ s.gates g.gates d n (kept_at t) e) (next s g)))),
    e,
  ))
    where
      kept_sort : (t : Ty) → T (same (kept_at t) arithmetic || same (kept_at t) bit)
      kept_sort uint = tt
      kept_sort bool = tt

  -- a wire of another sort, of one type: the two conversions
  converts : (k o : Sort) → same k o ≡ false → type_at k ≡ type_at o
      → ((k ≡ arithmetic) × (o ≡ boolean)) ⊎ ((k ≡ boolean) × (o ≡ arithmetic))
  converts arithmetic arithmetic e t = absurd (true≢false e)
  converts arithmetic boolean e t = inl (refl, refl)
  converts arithmetic bit e t = absurd (uint≢bool t)
  converts boolean arithmetic e t = inr (refl, refl)
  converts boolean boolean e t = absurd (true≢false e)
  converts boolean bit e t = absurd (uint≢bool t)
  converts bit arithmetic e t = absurd (uint≢bool (sym t))
  converts bit boolean e t = absurd (uint≢bool (sym t))
  converts bit bit e t = absurd (true≢false e)

  convert_wired : (s : State) (w : ℕ) (k o : Sort) (v : ℕ) → same k o ≡ false → type_at k ≡ type_at o
      → w < s.wires → (plain given s.gates).value w ≡ v → (wires s.gates).sort w ≡ k → Wired given σ s o (make (convert w o) o s) v
  unfolding value_of sort_made keeps_rules
  convert_wired s w k o v d t h e f = made-wired s (convert w o) o v refl e refl
      (λ g. (and_both (there || back) (is_next s.gates s.wires) (either_way g (converts k o d t)) (next s g), tt))
    where
      there : Bool
      there = is_wire s.gates w arithmetic && same o boolean

      back : Bool
      back = is_wire s.gates w boolean && same o arithmetic

      either_way : Good σ s → ((k ≡ arithmetic) × (o ≡ boolean)) ⊎ ((k ≡ boolean) × (o ≡ arithmetic)) → T (there || back)
      either_way g (inl p) =
          or_left there back (and_both (is_wire s.gates w arithmetic) (same o boolean) (a_wire s w arithmetic g h (f ∙ p.0)) (rw p.1 tt))
      either_way g (inr p) =
          or_right there back (and_both (is_wire s.gates w boolean) (same o arithmetic) (a_wire s w boolean g h (f ∙ p.0)) (rw p.1 tt))

  -- bringing to a sort of the value's own type
  converted-wired : (b : Bool) (w : ℕ) (k o : Sort) (s : State) (v : ℕ) → same k o ≡ b → Worth given s (type_at o) (held w k) v
      → Wired given σ s o (converted b w k o s) v
  unfolding converted
  converted-wired true w k o s v e x =
      let q : k ≡ o = same_true k o (rw e tt) in
      record { more = more_refl s; on = x.0; worth = x.1; sorted = x.2 ∙ q; wire = ap (held w) q }
  converted-wired false w k o s v e x = convert_wired s w k o v e x.3 x.0 x.1 x.2

  pub bring_val-wired : (o : Sort) (x : Val) (s : State) (v : ℕ) → Worth given s (type_at o) x v → Wired given σ s o (bring_val o x s) v
  unfolding bring_val
  bring_val-wired o (known t n) s v w = subst (Wired given σ s o (make (constant n o) o s)) w.0 (constant_wired s o n w.2)
  bring_val-wired o (held k p) s v w = converted-wired (same p o) k p o s v refl w

  pub bring-wired : (h : Bool) (o : Sort) (s : State) (m : Made) (v : ℕ) → Gives given σ h s (type_at o) m v → Wired given σ s o (bring o m) v
  unfolding bring
  bring-wired h o s m v g = after-wired s m.st o (bring_val o m.val m.st) v g.more (bring_val-wired o m.val m.st v g.worth)

  -- a value that is not held is its number
  pub number_worth : (s : State) (t : Ty) (x : Val) (v : ℕ) → (T (is_held x) → ⊥) → Worth given s t x v → number_in x ≡ v
  number_worth s t (known y n) v h w = w.0
  number_worth s t (held k o) v h w = absurd (h tt)

  pub type_worth : (s : State) (t : Ty) (x : Val) (v : ℕ) → Worth given s t x v → type_v x ≡ t
  type_worth s t (known y n) v w = w.1
  type_worth s t (held k o) v w = w.3

  pub type_side : (o : Op) → type_at (side_at o) ≡ uint
  type_side add = refl
  type_side gt = refl

  pub type_result : (o : Op) → type_at (result_at o) ≡ result_type o
  type_result add = refl
  type_result gt = refl

  pub type_kept : (t : Ty) → type_at (kept_at t) ≡ t
  type_kept uint = refl
  type_kept bool = refl

  pub type_muxed : (t : Ty) → type_at (muxed_at t) ≡ t
  type_muxed uint = refl
  type_muxed bool = refl

  bool_top : (b : Bool) → cond {A = ℕ} b 1 0 ≤ 1
  bool_top true = omega arith
  bool_top false = omega arith

  pub applied_top : (o : Op) (v w : ℕ) → applied o v w ≤ top_of (result_type o)
  unfolding applied
  applied_top add v w = omega arith
  applied_top gt v w = bool_top (ltb w v)

  -- the gate of an operator, and of a mux
  pub both_wired : (o : Op) (s : State) (i j v w : ℕ) → i < s.wires → (plain given s.gates).value i ≡ v → (wires s.gates).sort i ≡ side_at o
      → j < s.wires → (plain given s.gates).value j ≡ w → (wires s.gates).sort j ≡ side_at o
      → Wired given σ s (result_at o) (make (both o i j) (result_at o) s) (applied o v w)
  unfolding value_of sort_made keeps_rules
  both_wired o s i j v w hi ei si hj ej sj = made-wired s (both o i j) (result_at o) (applied o v w) refl (rw (ei, ej)) refl (λ g. (
    and_both (is_wire s.gates i (side_at o)) (is_wire s.gates j (side_at o) && is_next s.gates s.wires) (a_wire s i (side_at o) g hi si)
        (and_both (is_wire s.gates j (side_at o)) (is_next s.gates s.wires) (a_wire s j (side_at o) g hj sj) (next s g)),
    tt,
  ))

  pub mux_wired : (t : Ty) (s : State) (k i j c v w : ℕ) → k < s.wires → (plain given s.gates).value k ≡ c → (wires s.gates).sort k ≡ bit
      → i < s.wires → (plain given s.gates).value i ≡ v → (wires s.gates).sort i ≡ muxed_at t
      → j < s.wires → (plain given s.gates).value j ≡ w → (wires s.gates).sort j ≡ muxed_at t
      → Wired given σ s (muxed_at t) (make (mux k i j) (muxed_at t) s) (arm c v w)
  unfolding value_of sort_made keeps_rules
  mux_wired t s k i j c v w hk ek sk hi ei si hj ej sj = made-wired s (mux k i j) (muxed_at t) (arm c v w) refl (rw (ek, ei, ej)) si (λ g. (
    and_both (is_wire s.gates k bit) (arms && is_next s.gates s.wires) (a_wire s k bit g hk sk)
        (and_both arms (is_next s.gates s.wires) (two_arms t g si sj) (next s g)),
    tt,
  ))
    where
      arms : Bool
      arms = is_wire s.gates i boolean && is_wire s.gates j boolean || is_wire s.gates i bit && is_wire s.gates j bit

      two_arms : (t : Ty) → Good σ s → (wires s.gates).sort i ≡ muxed_at t → (wires s.gates).sort j ≡ muxed_at t → T arms
      two_arms uint g si sj =
          or_left (is_wire s.gates i boolean && is_wire s.gates j boolean) (is_wire s.gates i bit && is_wire s.gates j bit)
          (and_both (is_wire s.gates i boolean) (is_wire s.gates j boolean) (a_wire s i boolean g hi si) (a_wire s j boolean g hj sj))
      two_arms bool g si sj =
          or_right (is_wire s.gates i boolean && is_wire s.gates j boolean) (is_wire s.gates i bit && is_wire s.gates j bit)
          (and_both (is_wire s.gates i bit) (is_wire s.gates j bit) (a_wire s i bit g hi si) (a_wire s j bit g hj sj))
