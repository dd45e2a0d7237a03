-- Document 01, "Order of refusals": a check runs over the whole before the next, and the place is the lowest that fails.
use Rattle.std.specs.Prelude.{ℕ, zero, suc, min, Bool, true, false, List, [], ◌∷◌, ◌++◌}

-- refused with a number at a place, or accepted with what the operation then has
pub data Verdict (A : Type 0) : Type 0 where
  refused : ℕ → ℕ → Verdict A
  accepted : A → Verdict A

-- place p fails where its test is false
unfoldable pub fault : Bool → ℕ → List ℕ
fault true p = []
fault false p = p ∷ []

-- the places below n that fail a test, from the lowest on
unfoldable pub failing_below : (ℕ → Bool) → ℕ → List ℕ
failing_below ok zero = []
failing_below ok (suc n) = failing_below ok n ++ fault (ok n) n

-- the lowest of a place and more places
unfoldable pub lowest : ℕ → List ℕ → ℕ
lowest p [] = p
lowest p (q ∷ qs) = lowest (min p q) qs

-- a check with its number and the places that fail it; where there is none, what comes next
unfoldable pub unless : {A : Type 0} → ℕ → List ℕ → (Unit {0} → Verdict A) → Verdict A
unless k [] next = next tt
unless k (p ∷ ps) next = refused k (lowest p ps)

-- one operation after another: the second where the first accepts
unfoldable pub and_then : {A B : Type 0} → Verdict A → (A → Verdict B) → Verdict B
and_then (refused k p) next = refused k p
and_then (accepted a) next = next a
