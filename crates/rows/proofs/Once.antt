-- Checks 2 and 3 make every row stand exactly once among a table's sites: a row stands there once if it is the last, and once
-- for each place in a row that stands there whose child it is.
use Prim.Native.Nat.{ℕ, zero, suc, ◌+◌, ◌-◌, ◌*◌, ◌<◌, ◌≤◌}
use mathlib.Core.Path.{◌≡◌, refl}
use mathlib.Core.Logic.{◌≢◌}
use mathlib.Core.Bool.{Bool, true, false, cond}
use mathlib.Core.List.{List, [], ◌∷◌, ◌++◌}
use lib.Dec.{eqb}
use borrow.Author.Tests.{ne_eqb, eqb-true, eqb-false}
use native.Mathlib.Nat.{mul-add, mul-zero, mul-one, zero-mul}
use native.Mathlib.Decide.{dec_le}
use native.Mathlib.Omega.{arith}
use Rattle.rules.specs.Rows.{word, kind_at, Field, within, expr, stmt, shape_of, child_of, children_in, uses}
use Rattle.rules.specs.Scope.{Scope}
use Rattle.rules.specs.Sites.{Site, site, row_n}
use Rattle.rows.specs.ByRow.{node_at}
use Rattle.rows.proofs.Formed.{Formed, Holds, fields, node_row}
use Rattle.rows.proofs.Parts.{sites_at, part, second, sites-parts}

-- how often r stands in a list
unfoldable pub times : ℕ → List ℕ → ℕ
times r [] = 0
times r (x ∷ xs) = cond (eqb x r) 1 0 + times r xs

-- the rows of sites
unfoldable pub rows_in : List Site → List ℕ
rows_in [] = []
rows_in (s ∷ ss) = row_n s.node ∷ rows_in ss

-- how often row r stands among sites
abbrev pub stands : ℕ → List Site → ℕ
stands r ss = times r (rows_in ss)

-- it stands in two lists as often as in the first and in the second
stands-append : (r : ℕ) (xs ys : List Site) → stands r (xs ++ ys) ≡ stands r xs + stands r ys
unfolding times rows_in
stands-append r [] ys = omega arith
stands-append r (x ∷ xs) ys = omega (arith, stands-append r xs ys)

-- how often row r is a child of row q
abbrev pub children : List ℕ → ℕ → ℕ → ℕ
children t r q = children_in t r q (shape_of (kind_at t q))

module _ (t : List ℕ) (r : ℕ) where
  -- the sum over the rows q below n of f q, as often as row r is a child of q
  sum : (ℕ → ℕ) → ℕ → ℕ
  sum f zero = 0
  sum f (suc q) = children t r q * f q + sum f q

  -- the sum of two functions is the sum of their sums
  sum_add : (f g : ℕ → ℕ) (n : ℕ) → sum (λ q. f q + g q) n ≡ sum f n + sum g n
  unfolding sum
  sum_add f g zero = refl
  sum_add f g (suc q) = omega (arith, mul-add (children t r q) (f q) (g q), sum_add f g q)

  -- the sum of nothing is nothing
  sum_zero : (n : ℕ) → sum (λ q. 0) n ≡ 0
  unfolding sum
  sum_zero zero = refl
  sum_zero (suc q) = omega (arith, mul-zero (children t r q), sum_zero q)

  -- functions with the same values have the same sum
  sum_same : (f g : ℕ → ℕ) (n : ℕ) → ((q : ℕ) → f q ≡ g q) → sum f n ≡ sum g n
  unfolding sum
  sum_same f g zero h = refl
  sum_same f g (suc q) h = rw (h q, sum_same f g q h)

  -- of a function that is 1 at p alone, the sum below p is nothing
  sum_before : (p n : ℕ) → n ≤ p → sum (λ q. cond (eqb p q) 1 0) n ≡ 0
  unfolding sum
  sum_before p zero l = refl
  sum_before p (suc q) l =
      rw (ne_eqb p q (λ e. absurd (omega arith))) (omega (arith, mul-zero (children t r q), sum_before p q (omega arith)))

  -- and past p it is how often r is a child of p
  sum_at : (p n : ℕ) → p < n → sum (λ q. cond (eqb p q) 1 0) n ≡ children t r p
  unfolding sum
  sum_at p zero l = absurd (omega arith)
  sum_at p (suc q) l = go (eqb p q) refl (sum_at p q)
    where
      go : (b : Bool) → eqb p q ≡ b → (p < q → sum (λ q. cond (eqb p q) 1 0) q ≡ children t r p)
          → children t r q * cond (eqb p q) 1 0 + sum (λ q. cond (eqb p q) 1 0) q ≡ children t r p
      go true e rec =
          let d : p ≡ q = eqb-true p q e in
          rw (e, ← d) (omega (arith, mul-one (children t r p), sum_before p p (omega arith)))
      go false e rec =
          let d : p ≢ q = eqb-false p q e in
          rw e (omega (arith, mul-zero (children t r q), rec (omega arith)))

-- a field of row q holds no row from q on
child_miss : (t : List ℕ) (f : Field) (q r w : ℕ) → Holds t q w f → q ≤ r → child_of r w f ≡ 0
unfolding child_of
child_miss t (within low high) q r w p l = refl
child_miss t expr q r w p l = rw (ne_eqb w r (λ e. absurd (omega (arith, p.0))))
child_miss t stmt q r w p l = rw (ne_eqb w r (λ e. absurd (omega (arith, p.0))))

module _ {t : List ℕ} {n : ℕ} (f : Formed t n) where
  -- r stands among these sites `first` times, and once for each place in a row of theirs whose child it is
  abbrev Counted : ℕ → List Site → ℕ → Type 0
  Counted r ss first = stands r ss ≡ first + sum t r (λ q. stands q ss) n

  -- so it is of the sites under a word, where it is of those under each lower row
  counted-part : (g : Field) (d : ℕ) (sc : Scope) (p w r : ℕ) → Holds t p w g
      → ((w : ℕ) → w < p → Counted r (sites_at t d sc w) (cond (eqb w r) 1 0)) → Counted r (part t d sc g w) (child_of r w g)
  unfolding times rows_in child_of
  counted-part (within low high) d sc p w r h rec = omega (arith, sum_zero t r n)
  counted-part expr d sc p w r h rec = rec w h.0
  counted-part stmt d sc p w r h rec = rec w h.0

  -- and of a row p with three lists under it
  counted_row : (p r : ℕ) (s : Site) (X Y Z : List Site) (a b c : ℕ) → row_n s.node ≡ p → p < n → children t r p ≡ a + b + c
      → Counted r X a → Counted r Y b → Counted r Z c → Counted r (s ∷ X ++ (Y ++ Z)) (cond (eqb p r) 1 0)
  unfolding times rows_in
  counted_row p r s X Y Z a b c row h e x y z =
      let under : (q : ℕ) → stands q (X ++ (Y ++ Z)) ≡ stands q X + (stands q Y + stands q Z) =
      λ q. omega (arith, stands-append q X (Y ++ Z), stands-append q Y Z) in
      let all = sum_same t r (λ q. cond (eqb p q) 1 0 + stands q (X ++ (Y ++ Z)))
      (λ q. cond (eqb p q) 1 0 + (stands q X + (stands q Y + stands q Z))) n (λ q. rw (under q)) in
      let one = sum_add t r (λ q. cond (eqb p q) 1 0) (λ q. stands q X + (stands q Y + stands q Z)) n in
      let two = sum_add t r (λ q. stands q X) (λ q. stands q Y + stands q Z) n in
      let three = sum_add t r (λ q. stands q Y) (λ q. stands q Z) n in
      rw row (omega (arith, under r, sum_at t r p n h))

  -- and so of the sites under every row
  counted : (m p : ℕ) → p < m → p < n → (d : ℕ) (sc : Scope) (r : ℕ) → Counted r (sites_at t d sc p) (cond (eqb p r) 1 0)
  unfolding children_in
  counted zero p l h d sc r = absurd (omega arith)
  counted (suc m) p l h d sc r =
      let k = kind_at t p in
      let g = fields f p h k refl in
      let sc2 = second t sc k p (word t p 1) (word t p 3) in
      let rec : (sc : Scope) (w : ℕ) → w < p → Counted r (sites_at t (suc d) sc w) (cond (eqb w r) 1 0) =
      λ sc w below. counted m w (omega arith) (omega arith) (suc d) sc r in
      rw (sites-parts f d sc p h)
      (counted_row p r (site d sc (node_at t p)) (part t (suc d) sc (shape_of k).a (word t p 1))
      (part t (suc d) sc2 (shape_of k).b (word t p 2)) (part t (suc d) sc (shape_of k).c (word t p 3)) _ _ _ (node_row f p h) h refl
      (counted-part (shape_of k).a (suc d) sc p (word t p 1) r g.a_is (rec sc))
      (counted-part (shape_of k).b (suc d) sc2 p (word t p 2) r g.b_is (rec sc2))
      (counted-part (shape_of k).c (suc d) sc p (word t p 3) r g.c_is (rec sc)))

  -- no row from q on is a child of row q
  children_miss : (q r : ℕ) → q < n → q ≤ r → children t r q ≡ 0
  unfolding children_in
  children_miss q r h l =
      let k = kind_at t q in
      let g = fields f q h k refl in
      omega (
        arith,
        child_miss t (shape_of k).a q r (word t q 1) g.a_is l,
        child_miss t (shape_of k).b q r (word t q 2) g.b_is l,
        child_miss t (shape_of k).c q r (word t q 3) g.c_is l,
      )

  -- so a row adds nothing to the sum of a row from it on
  miss : (q r x : ℕ) → q < n → q ≤ r → children t r q * x ≡ 0
  miss q r x h l = rw (children_miss q r h l) (zero-mul x)

  -- where every row above r counts 1, the sum is how often r is a child
  sum-uses : (r : ℕ) (g : ℕ → ℕ) (k : ℕ) → k ≤ n → ((q : ℕ) → q < k → r < q → g q ≡ 1) → sum t r g k ≡ uses t r k
  unfolding sum uses
  sum-uses r g zero l h = refl
  sum-uses r g (suc q) l h = go (sum-uses r g q (omega arith) (λ p a b. h p (omega arith) b)) (dec_le q r)
    where
      go : sum t r g q ≡ uses t r q → Dec (q ≤ r) → children t r q * g q + sum t r g q ≡ children t r q + uses t r q
      go rec (yes p) = omega (arith, miss q r (g q) (omega arith) p, children_miss q r (omega arith) p)
      go rec (no p) = rw (h q (omega arith) (omega arith), rec, mul-one (children t r q))

  -- the rows up to r add nothing
  sum_low : (r : ℕ) (g : ℕ → ℕ) (k : ℕ) → k ≤ n → k ≤ suc r → sum t r g k ≡ 0
  unfolding sum
  sum_low r g zero l h = refl
  sum_low r g (suc q) l h = omega (arith, miss q r (g q) (omega arith) (omega arith), sum_low r g q (omega arith) (omega arith))

  -- where every row but the last is a child once, every row stands once among the sites under the last
  pub once : (d : ℕ) (sc : Scope) → ((r : ℕ) → suc r < n → uses t r n ≡ 1)
      → (m r : ℕ) → r < n → n ≤ r + m → stands r (sites_at t d sc (n - 1)) ≡ 1
  once d sc used zero r h l = absurd (omega arith)
  once d sc used (suc m) r h l = go (λ q k j. once d sc used m q k (omega arith)) (eqb (n - 1) r) refl
    where
      all : List Site
      all = sites_at t d sc (n - 1)

      is : stands r all ≡ cond (eqb (n - 1) r) 1 0 + sum t r (λ q. stands q all) n
      is = counted n (n - 1) (omega arith) (omega arith) d sc r

      go : ((q : ℕ) → q < n → r < q → stands q all ≡ 1) → (b : Bool) → eqb (n - 1) r ≡ b → stands r all ≡ 1
      go rec true e =
          let p : n - 1 ≡ r = eqb-true (n - 1) r e in
          let a = rw e at is in
          omega (arith, sum_low r (λ q. stands q all) n (omega arith) (omega arith))
      go rec false e =
          let p : n - 1 ≢ r = eqb-false (n - 1) r e in
          let a = rw e at is in
          omega (arith, sum-uses r (λ q. stands q all) n (omega arith) rec, used r (omega arith))
