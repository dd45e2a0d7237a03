-- Parents: a row that check 3 counts as a child stands in a word of a higher row.
use Prim.Native.Nat.{ℕ, zero, suc, ◌+◌, ◌<◌, ◌≤◌}
use mathlib.Core.Path.{◌≡◌, refl}
use mathlib.Core.Logic.{◌⊎◌, inl, inr}
use mathlib.Core.Bool.{Bool, true, false, cond}
use mathlib.Core.List.{List}
use lib.Dec.{eqb}
use borrow.Author.Tests.{eqb-true}
use native.Mathlib.Omega.{arith}
use Rattle.rules.specs.Rows.{word, kind_at, Field, within, expr, stmt, Shape, shape_of, child_of, children_in, uses}
use Rattle.rows.specs.Children.{Place, ChildBy, IsChild}
use Rattle.rows.proofs.Formed.{Holds, Fields}
use Rattle.rows.proofs.Once.{children}

-- a test that two rows are the same counts nothing, or they are the same
by_test : (r w : ℕ) (b : Bool) → eqb w r ≡ b → (◌≡◌ {A = ℕ} (cond (eqb w r) 1 0) 0) ⊎ (w ≡ r)
by_test r w true e = inr (eqb-true w r e)
by_test r w false e = inl (rw e)

-- a word counts a row as its child only where it holds it
one_place : (r w : ℕ) (f : Field) → (child_of r w f ≡ 0) ⊎ Place f w r
unfolding child_of
one_place r w (within low high) = inl refl
one_place r w expr = by_test r w (eqb w r) refl
one_place r w stmt = by_test r w (eqb w r) refl

-- a row counts another as its child only where one of its words holds it
some_place : (t : List ℕ) (r q : ℕ) (s : Shape) → (children_in t r q s ≡ 0) ⊎ ChildBy t r q s
unfolding children_in
some_place t r q s = go (one_place r (word t q 1) s.a) (one_place r (word t q 2) s.b) (one_place r (word t q 3) s.c)
  where
    go : (child_of r (word t q 1) s.a ≡ 0) ⊎ Place s.a (word t q 1) r → (child_of r (word t q 2) s.b ≡ 0) ⊎ Place s.b (word t q 2) r
        → (child_of r (word t q 3) s.c ≡ 0) ⊎ Place s.c (word t q 3) r
        → (child_of r (word t q 1) s.a + child_of r (word t q 2) s.b + child_of r (word t q 3) s.c ≡ 0) ⊎ ChildBy t r q s
    go (inl a) (inl b) (inl c) = inl (omega arith)
    go (inl a) (inl b) (inr c) = inr (inr (inr c))
    go (inl a) (inr b) c = inr (inr (inl b))
    go (inr a) b c = inr (inl a)

-- a row that is used below n is the child of a row below n
pub some_parent : (t : List ℕ) (r n : ℕ) → 1 ≤ uses t r n → (q : ℕ) × ((q < n) × IsChild t r q)
unfolding uses
some_parent t r zero h = absurd (omega arith)
some_parent t r (suc n) h = go (some_parent t r n) (some_place t r n (shape_of (kind_at t n)))
  where
    go : (1 ≤ uses t r n → (q : ℕ) × ((q < n) × IsChild t r q)) → (children t r n ≡ 0) ⊎ IsChild t r n
        → (q : ℕ) × ((q < suc n) × IsChild t r q)
    go rec (inl none) = let p = rec (omega arith) in (p.0, (omega (arith, p.1.0), p.1.1))
    go rec (inr child) = (n, (omega arith, child))

-- the child of a word of row q is lower
place_lower : (t : List ℕ) (f : Field) (r q w : ℕ) → Holds t q w f → Place f w r → r < q
place_lower t (within low high) r q w h p = absurd p
place_lower t expr r q w h p = omega (arith, h.0)
place_lower t stmt r q w h p = omega (arith, h.0)

-- so a child is lower than its parent
pub child_lower : (t : List ℕ) (r q : ℕ) (s : Shape) → Fields t q (word t q 1) (word t q 2) (word t q 3) s → ChildBy t r q s → r < q
child_lower t r q s f (inl a) = place_lower t s.a r q (word t q 1) f.a_is a
child_lower t r q s f (inr (inl b)) = place_lower t s.b r q (word t q 2) f.b_is b
child_lower t r q s f (inr (inr c)) = place_lower t s.c r q (word t q 3) f.c_is c
