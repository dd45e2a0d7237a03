-- Small laws of tests, options and sorts that the library has not.
use Prim.Native.Nat.{ℕ}
use mathlib.Core.Path.{◌≡◌, refl}
use mathlib.Core.Bool.{Bool, true, false, ◌&&◌, ◌||◌}
use mathlib.Core.Option.{Option, none, some}
use lib.Dec.{T}
use native.Mathlib.Omega.{arith}
use Rattle.rules.specs.Sorts.{Sort, arithmetic, boolean, bit, same}

-- a test that holds is true, and one that does not is false
pub true_of : (t : Bool) → T t → t ≡ true
true_of true h = refl
true_of false h = absurd h

pub false_of : (t : Bool) → (T t → ⊥) → t ≡ false
false_of true h = absurd (h tt)
false_of false h = refl

pub of_true : (t : Bool) → t ≡ true → T t
of_true true e = tt
of_true false e = let z : ◌≡◌ {A = ℕ} 0 1 = cc in omega arith

pub of_false : (t : Bool) → t ≡ false → T t → ⊥
of_false t e h = rw e at h

-- two tests hold together where both do
pub and_both : (a b : Bool) → T a → T b → T (a && b)
and_both true b p q = q
and_both false b p q = p

pub and_left : (a b : Bool) → T (a && b) → T a
and_left true b t = tt
and_left false b t = t

pub and_right : (a b : Bool) → T (a && b) → T b
and_right true b t = t
and_right false b t = absurd t

-- one of two tests holds where the first does or the second
pub or_left : (a b : Bool) → T a → T (a || b)
or_left true b t = tt
or_left false b t = absurd t

pub or_right : (a b : Bool) → T b → T (a || b)
or_right true b t = tt
or_right false b t = t

-- nothing is not something
pub none≢some : {A : Type 0} (b : A) → ◌≡◌ {A = Option A} none (some b) → ⊥
none≢some b f = let z : ◌≡◌ {A = ℕ} 0 1 = cc in omega arith

-- a sort is the same as itself, and only as itself
pub same_refl : (m : Sort) → T (same m m)
same_refl arithmetic = tt
same_refl boolean = tt
same_refl bit = tt

pub same_true : (k m : Sort) → T (same k m) → k ≡ m
same_true arithmetic arithmetic t = refl
same_true arithmetic boolean t = absurd t
same_true arithmetic bit t = absurd t
same_true boolean arithmetic t = absurd t
same_true boolean boolean t = refl
same_true boolean bit t = absurd t
same_true bit arithmetic t = absurd t
same_true bit boolean t = absurd t
same_true bit bit t = refl
