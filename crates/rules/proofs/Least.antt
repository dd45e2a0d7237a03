-- As many passes as there are rows give the smallest closed set.
use Prim.Native.Nat.{ℕ, zero, suc, ◌+◌, ◌≤◌, ◌<◌}
use mathlib.Core.Path.{◌≡◌, refl, subst}
use mathlib.Core.Logic.{◌⊎◌, inl, inr, ⊎_elim, ◌↔◌}
use mathlib.Core.Bool.{Bool, true, false}
use mathlib.Core.List.{List, [], ◌∷◌, ◌++◌}
use lib.Dec.{T, eqb, eqb→eq, eqb_refl, ltb, ltb→lt}
use mir.Facts.{or_yes}
use native.Mathlib.Decide.{dec_le}
use native.Mathlib.Omega.{arith}
use Rattle.rules.specs.Labels.{Rule, Has, Keeps, Closed, has, fired, passes}
use Rattle.rules.proofs.Basics.{or_left, or_right}

-- one set in another
abbrev pub Within : (ℕ → Bool) → (ℕ → Bool) → Type 0
Within S R = (r : ℕ) → T (S r) → T (R r)

-- A set has a list exactly if the list's members are in it: from the list to its members,
pub has_members : (S : ℕ → Bool) (xs : List ℕ) → Has S xs → Within (has xs) S
unfolding has
has_members S [] h r t = absurd t
has_members S (x ∷ xs) h r t =
    ⊎_elim (λ u. subst (λ (k : ℕ). T (S k)) (eqb→eq x r u) h.0) (has_members S xs h.1 r) (or_yes (eqb x r) (has xs r) t)

-- and back
pub members_has : (S : ℕ → Bool) (xs : List ℕ) → Within (has xs) S → Has S xs
unfolding has
members_has S [] h = tt
members_has S (x ∷ xs) h =
    (h x (or_left (eqb x x) (has xs x) (eqb_refl x)), members_has S xs λ r t. h r (or_right (eqb x r) (has xs r) t))

-- a list has itself
has_itself : (xs : List ℕ) → Has (has xs) xs
has_itself xs = members_has (has xs) xs λ r t. t

-- a larger set has what a smaller one has
pub has_more : (S R : ℕ → Bool) → Within S R → (xs : List ℕ) → Has S xs → Has R xs
has_more S R w [] h = tt
has_more S R w (x ∷ xs) h = (w x h.0, has_more S R w xs h.1)

-- Of two lists after one another a set has the first,
pub has_left : (S : ℕ → Bool) (xs ys : List ℕ) → Has S (xs ++ ys) → Has S xs
has_left S [] ys h = tt
has_left S (x ∷ xs) ys h = (h.0, has_left S xs ys h.1)

-- and the second;
pub has_right : (S : ℕ → Bool) (xs ys : List ℕ) → Has S (xs ++ ys) → Has S ys
has_right S [] ys h = h
has_right S (x ∷ xs) ys h = has_right S xs ys h.1

-- and if it has both, it has the two.
pub has_both : (S : ℕ → Bool) (xs ys : List ℕ) → Has S xs → Has S ys → Has S (xs ++ ys)
has_both S [] ys h k = k
has_both S (x ∷ xs) ys h k = (h.0, has_both S xs ys h.1 k)

-- The rules lead from one set into another.
abbrev Leads : (ℕ → Bool) → (ℕ → Bool) → List Rule → Type 0
Leads S R [] = Unit {0}
Leads S R (p ∷ ps) = (T (S p.from) → T (R p.to)) × Leads S R ps

-- a set that keeps the rules: they lead from it into itself
keeps_leads : (S : ℕ → Bool) (rs : List Rule) → Keeps S rs → Leads S S rs
keeps_leads S [] k = tt
keeps_leads S (p ∷ ps) k = (k.0, keeps_leads S ps k.1)

-- rules that lead from a set into one no larger keep it
leads_keeps : (S R : ℕ → Bool) → Within R S → (rs : List Rule) → Leads S R rs → Keeps S rs
leads_keeps S R w [] l = tt
leads_keeps S R w (p ∷ ps) l = (λ t. w p.to (l.0 t), leads_keeps S R w ps l.1)

-- the rules lead from a list into every set that has what they add to the list
fired_leads : (R : ℕ → Bool) (X : List ℕ) (rs : List Rule) → Has R (fired rs X) → Leads (has X) R rs
unfolding fired
fired_leads R X [] h = tt
fired_leads R X (p ∷ ps) h = go (has X p.from) h (fired_leads R X ps)
  where
    go : (b : Bool) → Has R (elim b [ true ↦ p.to ∷ fired ps X | false ↦ fired ps X ]) → (Has R (fired ps X) → Leads (has X) R ps)
        → (T b → T (R p.to)) × Leads (has X) R ps
    go true h rec = (λ t. h.0, rec h.1)
    go false h rec = (λ t. absurd t, rec h)

-- a set that the rules lead to, from one with a list in it, has what they add to the list
leads_fired : (S R : ℕ → Bool) (X : List ℕ) → Within (has X) S → (rs : List Rule) → Leads S R rs → Has R (fired rs X)
unfolding fired
leads_fired S R X w [] l = tt
leads_fired S R X w (p ∷ ps) l = go (has X p.from) (w p.from) (leads_fired S R X w ps l.1)
  where
    go : (b : Bool) → (T b → T (S p.from)) → Has R (fired ps X) → Has R (elim b [ true ↦ p.to ∷ fired ps X | false ↦ fired ps X ])
    go true f rec = (l.0 (f tt), rec)
    go false f rec = rec

-- The sets of n passes, and what the rules add to them.
module _ (ins : List ℕ) (rs : List Rule) where
  abbrev after : ℕ → ℕ → Bool
  after n = has (passes n ins rs)

  abbrev added : ℕ → List ℕ
  added n = fired rs (passes n ins rs)

  -- every closed set has them
  pub passes-within : (S : ℕ → Bool) → Closed ins rs S → (n : ℕ) → Has S (passes n ins rs)
  unfolding passes
  passes-within S c zero = tt
  passes-within S c (suc n) =
      has_both S ins (added n) c.sources
      (leads_fired S S (passes n ins rs) (has_members S (passes n ins rs) (passes-within S c n)) rs (keeps_leads S rs c.keeps))

  -- one more pass has the inputs,
  sources_after : (n : ℕ) → Has (after (suc n)) ins
  unfolding passes
  sources_after n = has_left (after (suc n)) ins (added n) (has_itself (passes (suc n) ins rs))

  -- and the rules lead there
  leads_after : (n : ℕ) → Leads (after n) (after (suc n)) rs
  unfolding passes
  leads_after n =
      fired_leads (after (suc n)) (passes n ins rs) rs
      (has_right (after (suc n)) ins (added n) (has_itself (passes (suc n) ins rs)))

  -- one more pass over more gives more
  after_more : (n m : ℕ) → Within (after n) (after m) → Within (after (suc n)) (after (suc m))
  unfolding passes
  after_more n m w =
      has_members (after (suc m)) (passes (suc n) ins rs)
      (has_both (after (suc m)) ins (added n) (sources_after m) (leads_fired (after m) (after (suc m)) (passes n ins rs) w rs (leads_after m)))

  -- each pass keeps what is there
  after_grows : (n : ℕ) → Within (after n) (after (suc n))
  unfolding passes has
  after_grows zero = λ r t. absurd t
  after_grows (suc n) = after_more n (suc n) (after_grows n)

  -- a set that one more pass adds nothing to is closed
  stable_closed : (n : ℕ) → Within (after (suc n)) (after n) → Closed ins rs (after n)
  stable_closed n w = record {
    sources = has_more (after (suc n)) (after n) w ins (sources_after n);
    keeps = leads_keeps (after n) (after (suc n)) w rs (leads_after n);
  }

-- a test counts 1 where it passes
one : Bool → ℕ
one true = 1
one false = 0

-- how many of the first m rows a set has
count : (ℕ → Bool) → ℕ → ℕ
count S zero = 0
count S (suc m) = one (S m) + count S m

-- no more than there are
count_le : (S : ℕ → Bool) (m : ℕ) → count S m ≤ m
unfolding count
count_le S zero = omega arith
count_le S (suc m) = omega (arith, one_le (S m), count_le S m)
  where
    one_le : (b : Bool) → one b ≤ 1
    one_le true = unfold one in omega arith
    one_le false = unfold one in omega arith

-- of the first m rows, the second set has none that the first lacks
abbrev Back : (ℕ → Bool) → (ℕ → Bool) → ℕ → Type 0
Back S R m = (r : ℕ) → r < m → T (R r) → T (S r)

-- and not of one row more either
back_more : (S R : ℕ → Bool) (m : ℕ) → Back S R m → (T (R m) → T (S m)) → Back S R (suc m)
back_more S R m below here r l = go (dec_le (suc r) m)
  where
    go : Dec (r < m) → T (R r) → T (S r)
    go (yes h) = below r h
    go (no h) = let e : r ≡ m = omega arith in rw e here

-- a larger test passes where the smaller one does and counts the same, or it counts more
one_or_more : (a b : Bool) → (T a → T b) → ((T b → T a) × (one a ≡ one b)) ⊎ (one a < one b)
unfolding one
one_or_more true true w = inl (λ t. t, refl)
one_or_more true false w = absurd (w tt)
one_or_more false true w = inr (omega arith)
one_or_more false false w = inl (λ t. t, refl)

-- a larger set has the same of the first m rows and counts the same, or it counts more
same_or_more : (S R : ℕ → Bool) → Within S R → (m : ℕ) → (Back S R m × (count S m ≡ count R m)) ⊎ (count S m < count R m)
unfolding count
same_or_more S R w zero = inl (λ r l. absurd (omega arith), refl)
same_or_more S R w (suc m) = go (one_or_more (S m) (R m) (w m)) (same_or_more S R w m)
  where
    go : ((T (R m) → T (S m)) × (one (S m) ≡ one (R m))) ⊎ (one (S m) < one (R m))
        → (Back S R m × (count S m ≡ count R m)) ⊎ (count S m < count R m)
        → (Back S R (suc m) × (count S (suc m) ≡ count R (suc m))) ⊎ (count S (suc m) < count R (suc m))
    go (inl (here, e)) (inl (below, f)) = inl (back_more S R m below here, omega arith)
    go (inl (here, e)) (inr g) = inr (omega arith)
    go (inr g) (inl (below, f)) = inr (omega arith)
    go (inr g) (inr h) = inr (omega arith)

-- Inputs and rules among the first `rows` rows.
module _ (ins : List ℕ) (rs : List Rule) (rows : ℕ) (sources : Has (λ r. ltb r rows) ins) (keeps : Keeps (λ r. ltb r rows) rs) where
  -- every pass stays there
  after-below : (n r : ℕ) → T (after ins rs n r) → r < rows
  after-below n r t =
      let low = passes-within ins rs (λ k. ltb k rows) (record { sources = sources; keeps = keeps }) n in
      ltb→lt r rows (has_members (λ k. ltb k rows) (passes n ins rs) low r t)

  -- one more pass adds nothing, or it counts more
  stable_or_counts : (n : ℕ) → Within (after ins rs (suc n)) (after ins rs n) ⊎ (count (after ins rs n) rows < count (after ins rs (suc n)) rows)
  stable_or_counts n = elim (same_or_more (after ins rs n) (after ins rs (suc n)) (after_grows ins rs n) rows) [
    | inl same ↦ inl (λ r t. same.0 r (after-below (suc n) r t) t)
    | inr more ↦ inr more
  ]

  -- after n passes one more adds nothing, or each has added a row
  stable_or_more : (n : ℕ) → Within (after ins rs (suc n)) (after ins rs n) ⊎ (n < count (after ins rs (suc n)) rows)
  stable_or_more zero = ⊎_elim inl (λ more. inr (omega arith)) (stable_or_counts 0)
  stable_or_more (suc n) = elim (stable_or_more n) [
    | inl stable ↦ inl (after_more ins rs (suc n) n stable)
    | inr many ↦ ⊎_elim inl (λ more. inr (omega arith)) (stable_or_counts (suc n))
  ]

  -- as many passes as there are rows give a closed set
  pub passes_closed : Closed ins rs (has (passes rows ins rs))
  passes_closed = elim (stable_or_more rows) [
    | inl stable ↦ stable_closed ins rs rows stable
    | inr many ↦ absurd (omega (arith, count_le (after ins rs (suc rows)) rows))
  ]

  -- and it has the rows that are in every closed set, and no other
  pub passes_least : (r : ℕ) → T (has (passes rows ins rs) r) ↔ ((S : ℕ → Bool) → Closed ins rs S → T (S r))
  passes_least r = (λ t S c. has_members S (passes rows ins rs) (passes-within ins rs S c rows) r t, λ h. h (has (passes rows ins rs)) passes_closed)
