-- The laws of the order of refusals: which places fail, the lowest of them, and one check before what comes next.
use Prim.Native.Nat.{ℕ, zero, suc, min, ◌≤◌, ◌<◌}
use mathlib.Core.Path.{◌≡◌, refl, subst, ap, ◌∙◌}
use mathlib.Core.Logic.{◌⊎◌, inl, inr, ⊎_elim, ◌↔◌}
use mathlib.Core.Bool.{Bool, true, false, not}
use mathlib.Core.List.{List, [], ◌∷◌, ◌++◌, cons≢nil}
use lib.Dec.{T, T_not}
use native.Mathlib.Decide.{dec_le}
use native.Mathlib.Omega.{arith}
use Rattle.rules.specs.Places.{Verdict, refused, accepted, fault, failing_below, lowest, unless, and_then}
use Rattle.rules.specs.Refusals.{In, Lowest}

-- the smaller of two places is one of them
min_one_of : (p q : ℕ) → (min p q ≡ p) ⊎ (min p q ≡ q)
min_one_of p q = elim (dec_le p q) [ yes h ↦ inl (omega arith) | no h ↦ inr (omega arith) ]

-- what is lowest with the smaller of two places is lowest with both
lowest_of_both : (m p q : ℕ) (qs : List ℕ) → Lowest m (min p q ∷ qs) → Lowest m (p ∷ q ∷ qs)
lowest_of_both m p q qs low = record { one_of = one_of low.one_of; below_all = below_all }
  where
    one_of : In m (min p q ∷ qs) → In m (p ∷ q ∷ qs)
    one_of (inl e) = ⊎_elim (λ f. inl (e ∙ f)) (λ f. inr (inl (e ∙ f))) (min_one_of p q)
    one_of (inr i) = inr (inr i)

    below-min : m ≤ min p q
    below-min = low.below_all (min p q) (inl refl)

    below_all : (r : ℕ) → In r (p ∷ q ∷ qs) → m ≤ r
    below_all r (inl e) = omega (arith, below-min)
    below_all r (inr (inl e)) = omega (arith, below-min)
    below_all r (inr (inr i)) = low.below_all r (inr i)

-- `lowest` is one of the places, and no other is lower
pub lowest_is : (p : ℕ) (ps : List ℕ) → Lowest (lowest p ps) (p ∷ ps)
unfolding lowest
lowest_is p [] = record { one_of = inl refl; below_all = λ q. elim [ inl e ↦ omega arith | inr i ↦ absurd i ] }
lowest_is p (q ∷ qs) = lowest_of_both (lowest (min p q) qs) p q qs (lowest_is (min p q) qs)

-- a list has one lowest place
pub lowest_one : {p q : ℕ} {ps : List ℕ} → Lowest p ps → Lowest q ps → p ≡ q
lowest_one {p} {q} a b =
    let l : p ≤ q = a.below_all q b.one_of in
    let m : q ≤ p = b.below_all p a.one_of in
    omega arith

-- no place is the lowest of none
pub lowest_of_none : {p : ℕ} → Lowest p [] → ⊥
lowest_of_none l = l.one_of

-- a member of two lists after one another is a member of one of them
pub in_either : (p : ℕ) (xs ys : List ℕ) → In p (xs ++ ys) → In p xs ⊎ In p ys
in_either p [] ys i = inr i
in_either p (x ∷ xs) ys (inl e) = inl (inl e)
in_either p (x ∷ xs) ys (inr i) = ⊎_elim (λ j. inl (inr j)) inr (in_either p xs ys i)

-- a member of the first is a member of both
pub in_left : (p : ℕ) (xs ys : List ℕ) → In p xs → In p (xs ++ ys)
in_left p [] ys i = absurd i
in_left p (x ∷ xs) ys (inl e) = inl e
in_left p (x ∷ xs) ys (inr i) = inr (in_left p xs ys i)

-- a member of the second is a member of both
pub in_right : (p : ℕ) (xs ys : List ℕ) → In p ys → In p (xs ++ ys)
in_right p [] ys i = i
in_right p (x ∷ xs) ys i = inr (in_right p xs ys i)

-- a list without members is empty
pub nothing_in : (xs : List ℕ) → ((p : ℕ) → In p xs → ⊥) → xs ≡ []
nothing_in [] h = refl
nothing_in (x ∷ xs) h = absurd (h x (inl refl))

-- an empty list has no member
pub in_none : (p : ℕ) (xs : List ℕ) → xs ≡ [] → In p xs → ⊥
in_none p xs e i = rw e at i

-- where two lists after one another are empty, so is the first,
pub nil_left : (xs ys : List ℕ) → xs ++ ys ≡ [] → xs ≡ []
nil_left [] ys e = refl
nil_left (x ∷ xs) ys e = absurd (cons≢nil e)

-- and the second
pub nil_right : (xs ys : List ℕ) → xs ++ ys ≡ [] → ys ≡ []
nil_right [] ys e = e
nil_right (x ∷ xs) ys e = absurd (cons≢nil e)

-- a failing test has the one place it stands at
pub in_fault : (b : Bool) (p q : ℕ) → In p (fault b q) ↔ ((p ≡ q) × T (not b))
unfolding fault
in_fault true p q = (λ i. absurd i, λ h. absurd h.1)
in_fault false p q = (λ i. elim i [ inl e ↦ (e, tt) | inr j ↦ absurd j ], λ h. inl h.0)

-- a test with no failing place holds
pub fault_none : (b : Bool) (p : ℕ) → fault b p ≡ [] → T b
unfolding fault
fault_none true p e = tt
fault_none false p e = absurd (cons≢nil e)

-- a test that holds has no failing place
pub none_fault : (b : Bool) (p : ℕ) → T b → fault b p ≡ []
unfolding fault
none_fault true p t = refl
none_fault false p t = absurd t

-- a failing test at 0 has 0 as its lowest place
pub lowest_fault : (b : Bool) → b ≡ false → Lowest 0 (fault b 0)
unfolding fault
lowest_fault b e = rw e (record { one_of = inl refl; below_all = λ q i. omega arith })

-- the same of a test at its own place
in_fault_at : (ok : ℕ → Bool) (n p : ℕ) → In p (fault (ok n) n) ↔ ((p ≡ n) × T (not (ok p)))
in_fault_at ok n p = (there, back)
  where
    there : In p (fault (ok n) n) → (p ≡ n) × T (not (ok p))
    there i = let (e, f) = (in_fault (ok n) p n).0 i in (e, rw e f)

    back : (p ≡ n) × T (not (ok p)) → In p (fault (ok n) n)
    back h = (in_fault (ok n) p n).1 (h.0, subst (λ (k : ℕ). T (not (ok k))) h.0 h.1)

-- the failing places below n are the places below n that fail
pub in_failing_below : (ok : ℕ → Bool) (n p : ℕ) → In p (failing_below ok n) ↔ ((p < n) × T (not (ok p)))
unfolding failing_below
in_failing_below ok zero p = (λ i. absurd i, λ h. absurd (omega arith))
in_failing_below ok (suc n) p = (there (in_failing_below ok n p).0, back (in_failing_below ok n p).1)
  where
    lower : List ℕ
    lower = failing_below ok n

    there : (In p lower → (p < n) × T (not (ok p))) → In p (lower ++ fault (ok n) n) → (p < suc n) × T (not (ok p))
    there rec i = elim (in_either p lower (fault (ok n) n) i) [
      | inl j ↦ let (l, f) = rec j in (omega arith, f)
      | inr j ↦ let (e, f) = (in_fault_at ok n p).0 j in (omega arith, f)
    ]

    back : ((p < n) × T (not (ok p)) → In p lower) → (p < suc n) × T (not (ok p)) → In p (lower ++ fault (ok n) n)
    back rec h = elim (dec_le (suc p) n) [
      | yes l ↦ in_left p lower (fault (ok n) n) (rec (l, h.1))
      | no l ↦ in_right p lower (fault (ok n) n) ((in_fault_at ok n p).1 (omega arith, h.1))
    ]

-- what does not fail a test passes it
passed : (b : Bool) → (T (not b) → ⊥) → T b
passed true h = tt
passed false h = h tt

-- where no place below n fails, every place below n passes
pub none_below : (ok : ℕ → Bool) (n : ℕ) → failing_below ok n ≡ [] → (r : ℕ) → r < n → T (ok r)
none_below ok n e r l = passed (ok r) λ f. in_none r (failing_below ok n) e ((in_failing_below ok n r).1 (l, f))

-- where every place below n passes, none fails
pub below_none : (ok : ℕ → Bool) (n : ℕ) → ((r : ℕ) → r < n → T (ok r)) → failing_below ok n ≡ []
below_none ok n h = nothing_in (failing_below ok n) λ p i. let (l, f) = (in_failing_below ok n p).0 i in T_not (ok p) f (h p l)

-- tests that agree below n fail at the same places below n
pub failing-same : (f g : ℕ → Bool) (n : ℕ) → ((i : ℕ) → i < n → f i ≡ g i) → failing_below f n ≡ failing_below g n
unfolding failing_below
failing-same f g zero h = refl
failing-same f g (suc n) h = rw (failing-same f g n (λ i l. h i (omega arith)), h n (omega arith))

-- of one place more none fails exactly where it passes and none of those before it fails
pub failing_last : (ok : ℕ → Bool) (n : ℕ) → (failing_below ok (suc n) ≡ []) ↔ (T (ok n) × (failing_below ok n ≡ []))
unfolding failing_below
failing_last ok n = (
  λ e. (fault_none (ok n) n (nil_right (failing_below ok n) (fault (ok n) n) e), nil_left (failing_below ok n) (fault (ok n) n) e),
  λ h. rw h.1 (none_fault (ok n) n h.0),
)

-- the first place that fails is the lowest that does
pub first_fails : (ok : ℕ → Bool) (i n : ℕ) → failing_below ok i ≡ [] → i < n → ok i ≡ false → Lowest i (failing_below ok n)
first_fails ok i n e l f = record {
  one_of = (in_failing_below ok n i).1 (l, rw f tt);
  below_all = λ q j. elim (dec_le i q) [
    | yes h ↦ h
    | no h ↦ absurd (T_not (ok q) ((in_failing_below ok n q).0 j).1 (none_below ok i e q (omega arith)))
  ];
}

-- where none before a place fails, and it passes, none up to it fails
pub passes_on : (ok : ℕ → Bool) (i : ℕ) → failing_below ok i ≡ [] → ok i ≡ true → failing_below ok (suc i) ≡ []
passes_on ok i e f = (failing_last ok i).1 (rw f tt, e)

-- a check with a lowest failing place refuses there
pub unless_refused : {A : Type 0} (k : ℕ) (ps : List ℕ) (next : Unit {0} → Verdict A) {p : ℕ} → Lowest p ps → unless k ps next ≡ refused k p
unfolding unless
unless_refused k [] next l = absurd (lowest_of_none l)
unless_refused k (q ∷ qs) next l = ap (refused k) (lowest_one (lowest_is q qs) l)

-- a check with no failing place is passed
pub unless_passed : {A : Type 0} (k : ℕ) (ps : List ℕ) (next : Unit {0} → Verdict A) → ps ≡ [] → unless k ps next ≡ next tt
unfolding unless
unless_passed k [] next e = refl
unless_passed k (q ∷ qs) next e = absurd (cons≢nil e)

-- a refusal is no acceptance
pub refused≢accepted : {A : Type 0} {k p : ℕ} {a : A} → refused k p ≡ accepted a → ⊥
refused≢accepted {A} e = subst IsRefused e tt
  where
    IsRefused : Verdict A → Type 0
    IsRefused (refused k p) = Unit {0}
    IsRefused (accepted a) = ⊥

-- what is accepted past a check has passed it
pub unless_accepted : {A : Type 0} (k : ℕ) (ps : List ℕ) (next : Unit {0} → Verdict A) {a : A} → unless k ps next ≡ accepted a
    → (ps ≡ []) × (next tt ≡ accepted a)
unfolding unless
unless_accepted k [] next e = (refl, e)
unless_accepted k (q ∷ qs) next e = absurd (refused≢accepted e)

-- what refuses first refuses the whole
pub then_refused : {A B : Type 0} {v : Verdict A} (next : A → Verdict B) {k p : ℕ} → v ≡ refused k p → and_then v next ≡ refused k p
unfolding and_then
then_refused next e = ap (λ v. and_then v next) e

-- what accepts first leaves the answer to the second
pub then_accepted : {A B : Type 0} {v : Verdict A} (next : A → Verdict B) {a : A} → v ≡ accepted a → and_then v next ≡ next a
unfolding and_then
then_accepted next e = ap (λ v. and_then v next) e
