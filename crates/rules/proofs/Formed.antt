-- What check 2 says of the tree of a table: its rows lie below the number of rows, and its numbers in their ranges.
use Prim.Native.Nat.{ℕ, zero, suc, ◌-◌, ◌≤◌, ◌<◌}
use mathlib.Core.Path.{◌≡◌, refl, subst}
use mathlib.Core.Bool.{Bool, true, false, not, ◌&&◌, ◌||◌}
use mathlib.Core.List.{List}
use lib.Dec.{T, eqb, ltb, leb, leb→le, ltb→lt}
use lib.ListN.{get_or}
use borrow.Author.Tests.{ltb-true}
use native.Mathlib.Omega.{arith}
use Rattle.rules.specs.Rows.{Ty, Kind, unknown, is_e, is_s, of_number, of_truth, of_name, of_two, of_choose, of_element, of_input}
use Rattle.rules.specs.Rows.{of_declare, of_assign, of_loop, of_write, of_branch, of_out, of_then, kinds, word, kind_at, row_count, shape_of, fits, shaped, row_shaped, is_expr, is_stmt}
use Rattle.rules.specs.Tree.{Expr, number, truth, name, two, choose, element, input, Stmt, declare, assign, loop, write, branch, out, then}
use Rattle.rules.specs.Tree.{type_of, expr_of, stmt_of, below, levels, by_rows, expr_at, stmt_at, program}
use Rattle.rules.proofs.Basics.{and_left, and_right}

-- the words of row r that read input k of desk d at type y
pub record InputRow (t : List ℕ) (r : ℕ) (y : Ty) (d k : ℕ) : Type 0 where
  pub kind : word t r 0 ≡ 8
  pub type : type_of (word t r 1) ≡ y
  pub bit : word t r 1 ≤ 1
  pub desk : word t r 2 ≡ d
  pub number : word t r 3 ≡ k
  pub a_desk : T (eqb d 1 || eqb d 2)
  pub low : k < 64

module _ (t : List ℕ) (n : ℕ) where
  abbrev pub FormedE : Expr → Type 0
  FormedE (number r v) = (r < n) × (v ≤ 4294967295)
  FormedE (truth r v) = (r < n) × (v ≤ 1)
  FormedE (name r x) = r < n
  FormedE (two r o a b) = (r < n) × FormedE a × FormedE b
  FormedE (choose r g a b) = (r < n) × FormedE g × FormedE a × FormedE b
  FormedE (element r x i) = (r < n) × FormedE i
  FormedE (input r y d k) = (r < n) × InputRow t r y d k

  abbrev pub FormedS : Stmt → Type 0
  FormedS (declare r x y k) = (r < n) × (x < 64) × (k ≤ 64)
  FormedS (assign r x e) = (r < n) × FormedE e
  FormedS (loop r x b f l) = (r < n) × (x < 64) × (l ≤ 65535) × FormedS b
  FormedS (write r x i e) = (r < n) × FormedE i × FormedE e
  FormedS (branch r g a b) = (r < n) × FormedE g × FormedS a × FormedS b
  FormedS (out r e) = (r < n) × FormedE e
  FormedS (then r a b) = (r < n) × FormedS a × FormedS b

-- only 8 is the kind of an input
abbrev NotInput : Kind → Type 0
NotInput unknown = Unit {0}
NotInput (is_e of_number) = Unit {0}
NotInput (is_e of_truth) = Unit {0}
NotInput (is_e of_name) = Unit {0}
NotInput (is_e (of_two o)) = Unit {0}
NotInput (is_e of_choose) = Unit {0}
NotInput (is_e of_element) = Unit {0}
NotInput (is_e of_input) = ⊥
NotInput (is_s k) = Unit {0}

input_word : (w : ℕ) → get_or kinds w unknown ≡ is_e of_input → w ≡ 8
unfolding kinds
input_word zero e = absurd (subst NotInput e tt)
input_word (suc zero) e = absurd (subst NotInput e tt)
input_word (suc (suc zero)) e = absurd (subst NotInput e tt)
input_word (suc (suc (suc zero))) e = absurd (subst NotInput e tt)
input_word (suc (suc (suc (suc zero)))) e = absurd (subst NotInput e tt)
input_word (suc (suc (suc (suc (suc zero))))) e = absurd (subst NotInput e tt)
input_word (suc (suc (suc (suc (suc (suc zero)))))) e = absurd (subst NotInput e tt)
input_word (suc (suc (suc (suc (suc (suc (suc zero))))))) e = absurd (subst NotInput e tt)
input_word (suc (suc (suc (suc (suc (suc (suc (suc zero)))))))) e = refl
input_word (suc (suc (suc (suc (suc (suc (suc (suc (suc zero))))))))) e = absurd (subst NotInput e tt)
input_word (suc (suc (suc (suc (suc (suc (suc (suc (suc (suc zero)))))))))) e = absurd (subst NotInput e tt)
input_word (suc (suc (suc (suc (suc (suc (suc (suc (suc (suc (suc zero))))))))))) e = absurd (subst NotInput e tt)
input_word (suc (suc (suc (suc (suc (suc (suc (suc (suc (suc (suc (suc zero)))))))))))) e = absurd (subst NotInput e tt)
input_word (suc (suc (suc (suc (suc (suc (suc (suc (suc (suc (suc (suc (suc zero))))))))))))) e = absurd (subst NotInput e tt)
input_word (suc (suc (suc (suc (suc (suc (suc (suc (suc (suc (suc (suc (suc (suc zero)))))))))))))) e = absurd (subst NotInput e tt)
input_word (suc (suc (suc (suc (suc (suc (suc (suc (suc (suc (suc (suc (suc (suc (suc zero))))))))))))))) e = absurd (subst NotInput e tt)
input_word (suc (suc (suc (suc (suc (suc (suc (suc (suc (suc (suc (suc (suc (suc (suc (suc zero)))))))))))))))) e = absurd (subst NotInput e tt)
input_word (suc (suc (suc (suc (suc (suc (suc (suc (suc (suc (suc (suc (suc (suc (suc (suc (suc zero))))))))))))))))) e = absurd (subst NotInput e tt)
input_word (suc (suc (suc (suc (suc (suc (suc (suc (suc (suc (suc (suc (suc (suc (suc (suc (suc (suc zero)))))))))))))))))) e = absurd (subst NotInput e tt)
input_word (suc (suc (suc (suc (suc (suc (suc (suc (suc (suc (suc (suc (suc (suc (suc (suc (suc (suc (suc zero))))))))))))))))))) e = absurd (subst NotInput e tt)
input_word (suc (suc (suc (suc (suc (suc (suc (suc (suc (suc (suc (suc (suc (suc (suc (suc (suc (suc (suc (suc zero)))))))))))))))))))) e = absurd (subst NotInput e tt)
input_word (suc (suc (suc (suc (suc (suc (suc (suc (suc (suc (suc (suc (suc (suc (suc (suc (suc (suc (suc (suc (suc zero))))))))))))))))))))) e = absurd (subst NotInput e tt)
input_word (suc (suc (suc (suc (suc (suc (suc (suc (suc (suc (suc (suc (suc (suc (suc (suc (suc (suc (suc (suc (suc (suc zero)))))))))))))))))))))) e = absurd (subst NotInput e tt)
input_word (suc (suc (suc (suc (suc (suc (suc (suc (suc (suc (suc (suc (suc (suc (suc (suc (suc (suc (suc (suc (suc (suc (suc w))))))))))))))))))))))) e = absurd (subst NotInput e tt)

one_or_two : (d : ℕ) → 1 ≤ d → d ≤ 2 → T (eqb d 1 || eqb d 2)
one_or_two zero l h = absurd (omega arith)
one_or_two (suc zero) l h = tt
one_or_two (suc (suc zero)) l h = tt
one_or_two (suc (suc (suc d))) l h = absurd (omega arith)

bottom : (l h w : ℕ) → T (leb l w && leb w h) → l ≤ w
bottom l h w p = leb→le l w (and_left (leb l w) (leb w h) p)

top : (l h w : ℕ) → T (leb l w && leb w h) → w ≤ h
top l h w p = leb→le w h (and_right (leb l w) (leb w h) p)

-- what stands at a lower row, or the default
below_holds : {A : Type 0} (P : A → Type 0) (d : A) (r : ℕ) (f : ℕ → A) → P d → ((w : ℕ) → w < r → P (f w)) → (w : ℕ) → P (below d r f w)
unfolding below
below_holds P d r f hd hf w = go (ltb w r) refl
  where
    go : (b : Bool) → ltb w r ≡ b → P (elim b [ true ↦ f w | false ↦ d ])
    go true e = hf w (ltb-true w r e)
    go false e = hd

module _ (t : List ℕ) (n : ℕ) (rows : (r : ℕ) → r < n → T (shaped t r (shape_of (kind_at t r)))) where
  -- the words of a row against the shape of kind k
  module _ (r a b c : ℕ) (k : Kind) (h : T (fits t r a (shape_of k).a && (fits t r b (shape_of k).b && fits t r c (shape_of k).c))) where
    first_fits : T (fits t r a (shape_of k).a)
    first_fits = and_left (fits t r a (shape_of k).a) (fits t r b (shape_of k).b && fits t r c (shape_of k).c) h

    second_fits : T (fits t r b (shape_of k).b)
    second_fits = and_left (fits t r b (shape_of k).b) (fits t r c (shape_of k).c)
        (and_right (fits t r a (shape_of k).a) (fits t r b (shape_of k).b && fits t r c (shape_of k).c) h)

    third_fits : T (fits t r c (shape_of k).c)
    third_fits = and_right (fits t r b (shape_of k).b) (fits t r c (shape_of k).c)
        (and_right (fits t r a (shape_of k).a) (fits t r b (shape_of k).b && fits t r c (shape_of k).c) h)

    -- a child is a lower row
    first_child : (b : Bool) → fits t r a (shape_of k).a ≡ (ltb a r && b) → a < r
    first_child b e = ltb→lt a r (and_left (ltb a r) b (subst T e first_fits))

    second_child : (d : Bool) → fits t r b (shape_of k).b ≡ (ltb b r && d) → b < r
    second_child d e = ltb→lt b r (and_left (ltb b r) d (subst T e second_fits))

    third_child : (d : Bool) → fits t r c (shape_of k).c ≡ (ltb c r && d) → c < r
    third_child d e = ltb→lt c r (and_left (ltb c r) d (subst T e third_fits))

  abbrev Shaped : ℕ → Kind → Type 0
  Shaped r k =
      T (fits t r (word t r 1) (shape_of k).a && (fits t r (word t r 2) (shape_of k).b && fits t r (word t r 3) (shape_of k).c))

  -- one row, where its children are formed
  expr_formed : (k : Kind) (r : ℕ) (sub : ℕ → Expr) → r < n → kind_at t r ≡ k → Shaped r k → ((w : ℕ) → FormedE t n (sub w))
      → FormedE t n (expr_of k r (word t r 1) (word t r 2) (word t r 3) sub)
  unfolding expr_of kind_at
  expr_formed unknown r sub h e f s = (h, omega arith)
  expr_formed (is_s k) r sub h e f s = (h, omega arith)
  expr_formed (is_e of_number) r sub h e f s =
      (h, top 0 4294967295 (word t r 1) (first_fits r (word t r 1) (word t r 2) (word t r 3) (is_e of_number) f))
  expr_formed (is_e of_truth) r sub h e f s = (h, top 0 1 (word t r 1) (first_fits r (word t r 1) (word t r 2) (word t r 3) (is_e of_truth) f))
  expr_formed (is_e of_name) r sub h e f s = h
  expr_formed (is_e (of_two o)) r sub h e f s = (h, s (word t r 1), s (word t r 2))
  expr_formed (is_e of_choose) r sub h e f s = (h, s (word t r 1), s (word t r 2), s (word t r 3))
  expr_formed (is_e of_element) r sub h e f s = (h, s (word t r 2))
  expr_formed (is_e of_input) r sub h e f s =
      let p = first_fits r (word t r 1) (word t r 2) (word t r 3) (is_e of_input) f in
      let q = second_fits r (word t r 1) (word t r 2) (word t r 3) (is_e of_input) f in
      let u = top 0 63 (word t r 3) (third_fits r (word t r 1) (word t r 2) (word t r 3) (is_e of_input) f) in (
        h,
        record {
          kind = input_word (word t r 0) e;
          type = refl;
          bit = top 0 1 (word t r 1) p;
          desk = refl;
          number = refl;
          a_desk = one_or_two (word t r 2) (bottom 1 2 (word t r 2) q) (top 1 2 (word t r 2) q);
          low = omega arith;
        },
      )

  stmt_formed : (k : Kind) (r : ℕ) (sub : ℕ → Expr) (part : ℕ → Stmt) → r < n → Shaped r k → ((w : ℕ) → w < r → FormedE t n (sub w)) → ((w : ℕ) → FormedS t n (part w))
      → FormedS t n (stmt_of k r (word t r 1) (word t r 2) (word t r 3) sub part)
  unfolding stmt_of
  stmt_formed unknown r sub part h f s p = (h, (h, omega arith))
  stmt_formed (is_e k) r sub part h f s p = (h, (h, omega arith))
  stmt_formed (is_s of_declare) r sub part h f s p =
      let x = top 0 63 (word t r 1) (first_fits r (word t r 1) (word t r 2) (word t r 3) (is_s of_declare) f) in
      (h, omega arith, top 0 64 (word t r 3) (third_fits r (word t r 1) (word t r 2) (word t r 3) (is_s of_declare) f))
  stmt_formed (is_s of_assign) r sub part h f s p = (h, s (word t r 2) (second_child r (word t r 1) (word t r 2) (word t r 3) (is_s of_assign) f (is_expr (kind_at t (word t r 2))) refl))
  stmt_formed (is_s of_loop) r sub part h f s p =
      let x = top 0 63 (word t r 1) (first_fits r (word t r 1) (word t r 2) (word t r 3) (is_s of_loop) f) in
      (h, omega arith, omega arith, p (word t r 2))
  stmt_formed (is_s of_write) r sub part h f s p = (
    h,
    s (word t r 2) (second_child r (word t r 1) (word t r 2) (word t r 3) (is_s of_write) f (is_expr (kind_at t (word t r 2))) refl),
    s (word t r 3) (third_child r (word t r 1) (word t r 2) (word t r 3) (is_s of_write) f (is_expr (kind_at t (word t r 3))) refl),
  )
  stmt_formed (is_s of_branch) r sub part h f s p =
      (h, s (word t r 1) (first_child r (word t r 1) (word t r 2) (word t r 3) (is_s of_branch) f (is_expr (kind_at t (word t r 1))) refl), p (word t r 2), p (word t r 3))
  stmt_formed (is_s of_out) r sub part h f s p = (h, s (word t r 1) (first_child r (word t r 1) (word t r 2) (word t r 3) (is_s of_out) f (is_expr (kind_at t (word t r 1))) refl))
  stmt_formed (is_s of_then) r sub part h f s p = (h, p (word t r 1), p (word t r 2))

  module _ (some : 0 < n) where
    -- every row below n, however deep it is read; and any other, read as the default
    expr_levels : (k r : ℕ) → r < n → FormedE t n (levels (λ (q : ℕ). expr_of (kind_at t q) q (word t q 1) (word t q 2) (word t q 3)) (number 0 0) k r)
    unfolding levels
    expr_levels zero r h = (some, omega arith)
    expr_levels (suc k) r h = expr_formed (kind_at t r) r _ h refl (rows r h)
        (below_holds (FormedE t n) (number 0 0) r _ (some, omega arith) (λ w l. expr_levels k w (omega arith)))

    pub expr_at_lem : (r : ℕ) → r < n → FormedE t n (expr_at t r)
    unfolding expr_at by_rows
    expr_at_lem r h = expr_levels (suc r) r h

    stmt_levels : (k r : ℕ) → r < n
        → FormedS t n (levels (λ (q : ℕ). stmt_of (kind_at t q) q (word t q 1) (word t q 2) (word t q 3) (expr_at t)) (out 0 (number 0 0)) k r)
    unfolding levels
    stmt_levels zero r h = (some, (some, omega arith))
    stmt_levels (suc k) r h = stmt_formed (kind_at t r) r (expr_at t) _ h (rows r h) (λ w l. expr_at_lem w (omega arith))
        (below_holds (FormedS t n) (out 0 (number 0 0)) r _ (some, (some, omega arith)) (λ w l. stmt_levels k w (omega arith)))

    pub stmt_at_lem : (r : ℕ) → r < n → FormedS t n (stmt_at t r)
    unfolding stmt_at by_rows
    stmt_at_lem r h = stmt_levels (suc r) r h

-- the program of a table of some rows that pass check 2
pub program_formed : (t : List ℕ) → 0 < row_count t → ((r : ℕ) → r < row_count t → T (row_shaped t (row_count t) r)) → FormedS t (row_count t) (program t)
unfolding program row_shaped
program_formed t some rows =
    stmt_at_lem t (row_count t) (λ r h. and_left (shaped t r (shape_of (kind_at t r))) (is_stmt (kind_at t r) || not (eqb (suc r) (row_count t))) (rows r h))
    some (row_count t - 1) (omega arith)
