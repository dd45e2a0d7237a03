-- Laws of `listed`, the list of a function's first values.
use mathlib.Core.Path.{◌≡◌, refl, sym, ap₂, ◌∙◌}
use Prim.Native.Nat.{ℕ, zero, suc, ◌<◌}
use native.Mathlib.Omega.{arith}
use mathlib.Core.Bool.{Bool, true, false}
use mathlib.Core.List.{List, [], ◌∷◌, ◌++◌}
use lib.Dec.{eqb}
use lib.ListN.{length, get_or, length-append, get_or-append}
use lib.Seq.{ext_get_or, get_or_at}
use borrow.Author.Tests.{eqb-true, eqb-false}
use Rattle.rules.specs.Shares.{listed}

module _ {A : Type 0} where
  -- n values are listed
  pub length-listed : (n : ℕ) (f : ℕ → A) → length (listed n f) ≡ n
  unfolding listed
  length-listed zero f = refl
  length-listed (suc n) f = omega (arith, length-append (listed n f) (f n ∷ []), length-listed n f)

  -- value k stands at k
  pub get_or-listed : (n : ℕ) (f : ℕ → A) (k : ℕ) (d : A) → k < n → get_or (listed n f) k d ≡ f k
  unfolding listed
  get_or-listed zero f k d below = absurd (omega arith)
  get_or-listed (suc n) f k d below = at (get_or-listed n f k d) (eqb k n) refl
    where
      at : (k < n → get_or (listed n f) k d ≡ f k) → (t : Bool) → eqb k n ≡ t → get_or (listed n f ++ f n ∷ []) k d ≡ f k
      at earlier true e = rw (eqb-true k n e) (get_or_at (listed n f) (f n) [] d n (length-listed n f))
      at earlier false e =
          get_or-append (listed n f) (f n ∷ []) d k (omega (arith, length-listed n f, eqb-false k n e))
          ∙ earlier (omega (arith, eqb-false k n e))

  -- functions with the same first values have the same list
  pub listed_same : (n : ℕ) (f g : ℕ → A) → ((k : ℕ) → k < n → f k ≡ g k) → listed n f ≡ listed n g
  unfolding listed
  listed_same zero f g same = refl
  listed_same (suc n) f g same =
      ap₂ (λ (l : List A) (a : A). l ++ a ∷ []) (listed_same n f g (λ k below. same k (omega arith))) (same n (omega arith))

  -- a list is its elements, listed
  pub listed-get_or : (n : ℕ) (l : List A) (d : A) → length l ≡ n → listed n (λ k. get_or l k d) ≡ l
  listed-get_or n l d long =
      let f : ℕ → A = λ k. get_or l k d in
      ext_get_or d (listed n f) l (length-listed n f ∙ sym long) (λ k below. get_or-listed n f k d (omega (arith, length-listed n f)))
