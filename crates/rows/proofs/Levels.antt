-- The law of what is made row by row: each row is made by one step from the rows below it.
use Prim.Native.Nat.{ℕ, zero, suc, ◌<◌}
use mathlib.Core.Path.{◌≡◌, refl, ap, fun_ext}
use mathlib.Core.Bool.{Bool, true, false}
use lib.Dec.{ltb}
use borrow.Author.Tests.{lt-ltb, ltb-true}
use native.Mathlib.Omega.{arith}
use Rattle.rules.specs.Tree.{below, levels, by_rows}

module _ {A : Type 0} (d : A) (r : ℕ) where
  -- below row r there is what f says
  pub below_at : (f : ℕ → A) (w : ℕ) → w < r → below d r f w ≡ f w
  unfolding below
  below_at f w h = rw (below, lt-ltb w r h)

  -- functions that agree below row r are the same there
  below-same : (f g : ℕ → A) → ((w : ℕ) → w < r → f w ≡ g w) → below d r f ≡ below d r g
  unfolding below
  below-same f g h = fun_ext (λ w. go w (ltb w r) refl)
    where
      go : (w : ℕ) (b : Bool) → ltb w r ≡ b → below d r f w ≡ below d r g w
      go w true e = rw (below, e) (h w (ltb-true w r e))
      go w false e = rw (below, e)

module _ {A : Type 0} (step : ℕ → (ℕ → A) → A) (d : A) where
  -- all numbers of levels above a row give the same
  levels-same : (n m r : ℕ) → r < n → r < m → levels step d n r ≡ levels step d m r
  unfolding levels
  levels-same zero m r h k = absurd (omega arith)
  levels-same (suc n) zero r h k = absurd (omega arith)
  levels-same (suc n) (suc m) r h k =
      ap (step r) (below-same d r (levels step d n) (levels step d m) (λ w l. levels-same n m w (omega arith) (omega arith)))

  -- a row is one step from the rows below it
  pub by_rows_law : (r : ℕ) → by_rows step d r ≡ step r (below d r (by_rows step d))
  unfolding by_rows levels
  by_rows_law r =
      ap (step r) (below-same d r (levels step d r) (by_rows step d) (λ w l. levels-same r (suc w) w l (omega arith)))
