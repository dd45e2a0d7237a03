-- Operators and conds: what they give, where their parts give what they should.
use Prim.Native.Nat.{ℕ, zero, suc}
use mathlib.Core.Path.{◌≡◌, refl, sym, subst, ◌∙◌}
use mathlib.Core.Bool.{Bool, true, false}
use lib.Dec.{T}
use native.Mathlib.Omega.{arith}
use Rattle.rules.specs.Rows.{Ty, uint, bool, Op}
use Rattle.rules.specs.Types.{result_type}
use Rattle.rules.specs.Sorts.{Sort, arithmetic, boolean, bit, type_at, kept_at, muxed_at, side_at, result_at, applied, arm}
use Rattle.rules.specs.Run.{Val, known, held, State, Made, Act, wire_in, bring, sided, kept, muxed_to, muxed, guarded}
use Rattle.rules.specs.Plain.{Given}
use Rattle.rules.proofs.Making.{uint≢bool, is_held, Worth, More, Gives, Wired, more_trans, after-gives, wired-gives, bring-wired, number_worth, type_worth, type_side, type_result, type_muxed, type_kept, applied_top, both_wired, mux_wired}

-- What is true of a state and stays true as gates are added; and acts that give v in such states.
module _ (given : Given) (σ : ℕ → ℕ → Sort) (R : State → Type 0) (stays : (s u : State) → More given σ s u → R s → R u) where
  abbrev Worthy : Bool → Ty → Act → ℕ → Type 0
  Worthy h t f v = (s : State) → R s → Gives given σ h s t (f s) v

  -- an act of type t, brought to a sort of that type
  brought : (h : Bool) (t : Ty) (o : Sort) (f : Act) (v : ℕ) → type_at o ≡ t → Worthy h t f v → (s : State) → R s → Wired given σ s o (bring o (f s)) v
  brought h t o f v e ok s r = bring-wired given σ h o s (f s) v (subst (λ (y : Ty). Gives given σ h s y (f s) v) (sym e) (ok s r))

  -- a wired value gives, at its type
  wired_as : (s : State) (o : Sort) (t : Ty) (m : Made) (v : ℕ) → type_at o ≡ t → Wired given σ s o m v → Gives given σ true s t m v
  wired_as s o t m v e w = subst (λ (y : Ty). Gives given σ true s y m v) e (wired-gives given σ s o m v w)

  pub sided_worthy : (o : Op) (h a b : Bool) (f g : Act) (v w : ℕ) → (T a → T h) → (T b → T h) → Worthy a uint f v → Worthy b uint g w
      → Worthy h (result_type o) (sided h o f g) (applied o v w)
  unfolding sided
  sided_worthy o false a b f g v w ha hb ok_f ok-g s r =
      let p = ok_f s r in
      let q = ok-g (f s).st (stays s (f s).st p.more r) in
      let ev = number_worth given σ (f s).st uint (f s).val v (λ t. ha (p.label t)) p.worth in
      let ew = number_worth given σ (g (f s).st).st uint (g (f s).st).val w (λ t. hb (q.label t)) q.worth in
      record {
        more = more_trans given σ s (f s).st (g (f s).st).st p.more q.more;
        worth = rw (ev, ew) (refl, refl, applied_top given σ o v w);
        label = λ t. t;
      }
  sided_worthy o true a b f g v w ha hb ok_f ok-g s r =
      let m = side_at o in
      let p = bring m (f s) in
      let pw = brought a uint m f v (type_side given σ o) ok_f s r in
      let q = bring m (g p.st) in
      let qw = brought b uint m g w (type_side given σ o) ok-g p.st (stays s p.st pw.more r) in
      after-gives given σ true s q.st (result_type o) (sided true o f g s) (applied o v w) (more_trans given σ s p.st q.st pw.more qw.more)
      (wired_as q.st (result_at o) (result_type o) (sided true o f g s) (applied o v w) (type_result given σ o)
      (both_wired given σ o q.st (wire_in p.val) (wire_in q.val) v w
      (omega (arith, pw.on, qw.more.wider)) (qw.more.old (wire_in p.val) pw.on ∙ pw.worth) (qw.more.sorts (wire_in p.val) pw.on ∙ pw.sorted)
      qw.on qw.worth qw.sorted))

  -- the arm that a known guard picks
  arm_worthy : (n : ℕ) (h a b : Bool) (t : Ty) (f g : Act) (v w : ℕ) → (T a → T h) → (T b → T h) → Worthy a t f v → Worthy b t g w
      → Worthy h t (arm n f g) (arm n v w)
  unfolding arm
  arm_worthy zero h a b t f g v w ha hb ok_f ok-g s r = let q = ok-g s r in record { more = q.more; worth = q.worth; label = λ x. hb (q.label x) }
  arm_worthy (suc n) h a b t f g v w ha hb ok_f ok-g s r = let p = ok_f s r in record { more = p.more; worth = p.worth; label = λ x. ha (p.label x) }

  -- both arms under a guard that is held
  muxed_to-gives : (t : Ty) (k c : ℕ) (a b : Bool) (f g : Act) (v w : ℕ) → Worthy a t f v → Worthy b t g w
      → (s : State) → R s → Worth given s bool (held k bit) c → Gives given σ true s t (muxed_to (muxed_at t) k (f s) g) (arm c v w)
  unfolding muxed_to
  muxed_to-gives t k c a b f g v w ok_f ok-g s r kw =
      let m = muxed_at t in
      let p = bring m (f s) in
      let pw = brought a t m f v (type_muxed given σ t) ok_f s r in
      let q = bring m (g p.st) in
      let qw = brought b t m g w (type_muxed given σ t) ok-g p.st (stays s p.st pw.more r) in
      let all = more_trans given σ s p.st q.st pw.more qw.more in
      after-gives given σ true s q.st t (muxed_to m k (f s) g) (arm c v w) all
      (wired_as q.st m t (muxed_to m k (f s) g) (arm c v w) (type_muxed given σ t)
      (mux_wired given σ t q.st k (wire_in p.val) (wire_in q.val) c v w
      (omega (arith, kw.0, all.wider)) (all.old k kw.0 ∙ kw.1) (all.sorts k kw.0 ∙ kw.2)
      (omega (arith, pw.on, qw.more.wider)) (qw.more.old (wire_in p.val) pw.on ∙ pw.worth) (qw.more.sorts (wire_in p.val) pw.on ∙ pw.sorted)
      qw.on qw.worth qw.sorted))

  muxed-gives : (t : Ty) (k c : ℕ) (a b : Bool) (f g : Act) (v w : ℕ) → Worthy a t f v → Worthy b t g w
      → (s : State) → R s → Worth given s bool (held k bit) c → Gives given σ true s t (muxed k f g s) (arm c v w)
  unfolding muxed
  muxed-gives t k c a b f g v w ok_f ok-g s r kw =
      rw (type_worth given σ (f s).st t (f s).val v (ok_f s r).worth) (muxed_to-gives t k c a b f g v w ok_f ok-g s r kw)

  -- the chosen arm, at sort 1 or 3 where the whole is secret
  kept_gives : (h : Bool) (s : State) (t : Ty) (m : Made) (v : ℕ) → Gives given σ h s t m v → Gives given σ h s t (kept h m) v
  unfolding kept
  kept_gives false s t m v g = g
  kept_gives true s t m v g =
      rw (type_worth given σ m.st t m.val v g.worth)
      (wired_as s (kept_at t) t (bring (kept_at t) m) v (type_kept given σ t)
      (bring-wired given σ true (kept_at t) s m v (subst (λ (y : Ty). Gives given σ true s y m v) (sym (type_kept given σ t)) g)))

  bool_bit : (m : Sort) → type_at m ≡ bool → m ≡ bit
  bool_bit arithmetic e = absurd (uint≢bool e)
  bool_bit boolean e = absurd (uint≢bool e)
  bool_bit bit e = refl

  -- a cond: by a guard that is known, or held
  pub guarded_worthy : (h c a b : Bool) (t : Ty) (x : Val) (n : ℕ) (f g : Act) (v w : ℕ) → (T c → T h) → (T a → T h) → (T b → T h) → (T (is_held x) → T c)
      → Worthy a t f v → Worthy b t g w → (s : State) → R s → Worth given s bool x n → Gives given σ h s t (guarded h x f g s) (arm n v w)
  unfolding guarded
  guarded_worthy h c a b t (known y k) n f g v w hc ha hb hx ok_f ok-g s r xw =
      rw (← xw.0) (kept_gives h s t (arm k f g s) (arm k v w) (arm_worthy k h a b t f g v w ha hb ok_f ok-g s r))
  guarded_worthy true c a b t (held k o) n f g v w hc ha hb hx ok_f ok-g s r xw =
      muxed-gives t k n a b f g v w ok_f ok-g s r (xw.0, xw.1, xw.2 ∙ bool_bit o xw.3, refl)
  guarded_worthy false c a b t (held k o) n f g v w hc ha hb hx ok_f ok-g s r xw = absurd (hc (hx tt))
