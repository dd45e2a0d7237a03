-- The laws of checks over sites: what holds of each site of a list.
use mathlib.Core.Path.{◌≡◌, refl}
use mathlib.Core.Bool.{Bool}
use mathlib.Core.List.{List, [], ◌∷◌, ◌++◌}
use lib.Dec.{T}
use Rattle.rules.specs.Places.{fault}
use Rattle.rules.specs.Sites.{Site, row_n, failing}
use Rattle.rules.proofs.Places.{nil_left, nil_right, fault_none, none_fault}

-- Something holds of each site of a list.
abbrev pub Each : (Site → Type 0) → List Site → Type 0
Each P [] = Unit {0}
Each P (s ∷ ss) = P s × Each P ss

-- so does what it implies
pub each_map : {P Q : Site → Type 0} (ss : List Site) → ((s : Site) → P s → Q s) → Each P ss → Each Q ss
each_map [] f h = tt
each_map (s ∷ ss) f h = (f s h.0, each_map ss f h.1)

-- of two lists after one another, it holds of each site of the first,
pub each_left : (P : Site → Type 0) (ss rs : List Site) → Each P (ss ++ rs) → Each P ss
each_left P [] rs h = tt
each_left P (s ∷ ss) rs h = (h.0, each_left P ss rs h.1)

-- and of the second;
pub each_right : (P : Site → Type 0) (ss rs : List Site) → Each P (ss ++ rs) → Each P rs
each_right P [] rs h = h
each_right P (s ∷ ss) rs h = each_right P ss rs h.1

-- and what holds of both holds of the two
pub each_both : (P : Site → Type 0) (ss rs : List Site) → Each P ss → Each P rs → Each P (ss ++ rs)
each_both P [] rs h k = k
each_both P (s ∷ ss) rs h k = (h.0, each_both P ss rs h.1 k)

-- where no site fails, each passes
pub none_failing : (ok : Site → Bool) (ss : List Site) → failing ok ss ≡ [] → Each (λ s. T (ok s)) ss
unfolding failing
none_failing ok [] e = tt
none_failing ok (s ∷ ss) e =
    let row = fault (ok s) (row_n s.node) in
    (fault_none (ok s) (row_n s.node) (nil_left row (failing ok ss) e), none_failing ok ss (nil_right row (failing ok ss) e))

-- where each site passes, none fails
pub failing_none : (ok : Site → Bool) (ss : List Site) → Each (λ s. T (ok s)) ss → failing ok ss ≡ []
unfolding failing
failing_none ok [] h = refl
failing_none ok (s ∷ ss) h = rw (none_fault (ok s) (row_n s.node) h.0) (failing_none ok ss h.1)
