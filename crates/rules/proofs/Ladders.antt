-- Ladders of checks, one after another: which rung refuses, and what holds in every case.
use Prim.Native.Nat.{ℕ, zero, suc}
use mathlib.Core.Path.{◌≡◌, refl, ap, ◌∙◌}
use mathlib.Core.List.{List, [], ◌∷◌, ◌++◌}
use Rattle.rules.specs.Places.{Verdict, refused, lowest, unless, and_then}
use Rattle.rules.specs.Refusals.{Lowest, Clear}
use Rattle.rules.proofs.Places.{lowest_is, lowest_of_none, unless_refused, unless_passed}

-- A ladder of checks: each rung has a number and the places that fail it, and above the last stands a verdict.
pub record Rung : Type 0 where
  pub number : ℕ
  pub places : List ℕ

abbrev pub rung : ℕ → List ℕ → Rung
rung k ps = record { number = k; places = ps }

abbrev pub ladder : {A : Type 0} → List Rung → Verdict A → Verdict A
ladder [] v = v
ladder (r ∷ rs) v = unless r.number r.places λ u. ladder rs v

-- the failing places of all rungs
abbrev pub all_places : List Rung → List (List ℕ)
all_places [] = []
all_places (r ∷ rs) = r.places ∷ all_places rs

-- rung n, the lowest being 0, and the failing places of those below it
abbrev pub rung_at : ℕ → List Rung → Rung
rung_at n [] = rung 0 []
rung_at zero (r ∷ rs) = r
rung_at (suc n) (r ∷ rs) = rung_at n rs

abbrev pub places_below : ℕ → List Rung → List (List ℕ)
places_below zero rs = []
places_below (suc n) [] = []
places_below (suc n) (r ∷ rs) = r.places ∷ places_below n rs

-- the first rung with a failing place refuses, at its lowest
pub refuses_at : {A : Type 0} (n : ℕ) (rs : List Rung) (v : Verdict A) {p : ℕ} → Clear (places_below n rs) → Lowest p (rung_at n rs).places
    → ladder rs v ≡ refused (rung_at n rs).number p
refuses_at n [] v c l = absurd (lowest_of_none l)
refuses_at zero (r ∷ rs) v c l = unless_refused r.number r.places (λ u. ladder rs v) l
refuses_at (suc n) (r ∷ rs) v c l = unless_passed r.number r.places (λ u. ladder rs v) c.0 ∙ refuses_at n rs v c.1 l

-- a ladder with no failing place leads to its verdict
pub leads_up : {A : Type 0} (rs : List Rung) (v : Verdict A) → Clear (all_places rs) → ladder rs v ≡ v
leads_up [] v c = refl
leads_up (r ∷ rs) v c = unless_passed r.number r.places (λ u. ladder rs v) c.0 ∙ leads_up rs v c.1

-- one check before two operations
unless_then : {A B : Type 0} (k : ℕ) (ps : List ℕ) (before : Unit {0} → Verdict A) (next : A → Verdict B)
    → and_then (unless k ps before) next ≡ unless k ps (λ u. and_then (before u) next)
unfolding unless and_then
unless_then k [] before next = refl
unless_then k (p ∷ ps) before next = refl

-- what comes after a ladder stands above its last rung
pub ladder_then : {A B : Type 0} (rs : List Rung) (v : Verdict A) (next : A → Verdict B) → and_then (ladder rs v) next ≡ ladder rs (and_then v next)
ladder_then [] v next = refl
ladder_then (r ∷ rs) v next =
    unless_then r.number r.places (λ u. ladder rs v) next ∙ ap (λ w. unless r.number r.places λ u. w) (ladder_then rs v next)

-- Q, given P in each case of a ladder: of the refusal at each rung where those below are passed, and of the verdict above.
abbrev pub Cases : {A : Type 0} → (Verdict A → Type 0) → List (List ℕ) → List Rung → Verdict A → Type 0 → Type 0
Cases P pss [] v Q = (Clear pss → P v) → Q
Cases P pss (r ∷ rs) v Q = ((p : ℕ) → Clear pss → Lowest p r.places → P (refused r.number p)) → Cases P (pss ++ r.places ∷ []) rs v Q

-- one more check is passed
clear_more : (pss : List (List ℕ)) (ps : List ℕ) → Clear pss → ps ≡ [] → Clear (pss ++ ps ∷ [])
clear_more [] ps c e = (e, tt)
clear_more (qs ∷ qss) ps c e = (c.0, clear_more qss ps c.1 e)

-- a check has a lowest failing place, or it is passed
by_check : {A : Type 0} (P : Verdict A → Type 0) (k : ℕ) (ps : List ℕ) (next : Unit {0} → Verdict A)
    → ((p : ℕ) → Lowest p ps → P (refused k p)) → (ps ≡ [] → P (next tt)) → P (unless k ps next)
unfolding unless
by_check P k [] next f g = g refl
by_check P k (q ∷ qs) next f g = f (lowest q qs) (lowest_is q qs)

-- what holds in each case of a ladder holds of its verdict, once these checks are passed
cases_from : {A : Type 0} (P : Verdict A → Type 0) (pss : List (List ℕ)) (rs : List Rung) (v : Verdict A) (Q : Type 0)
    → ((Clear pss → P (ladder rs v)) → Q) → Cases P pss rs v Q
cases_from P pss [] v Q done = done
cases_from P pss (r ∷ rs) v Q done =
    λ here. cases_from P (pss ++ r.places ∷ []) rs v Q λ above. done λ c.
    by_check P r.number r.places (λ u. ladder rs v) (λ p l. here p c l) (λ e. above (clear_more pss r.places c e))

-- what holds in each case of a ladder holds of its verdict
pub by_cases : {A : Type 0} (P : Verdict A → Type 0) (rs : List Rung) (v : Verdict A) → Cases P [] rs v (P (ladder rs v))
by_cases P rs v = cases_from P [] rs v (P (ladder rs v)) λ all. all tt
