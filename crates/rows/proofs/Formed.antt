-- What check 2 says of a table: a field that holds a row holds a lower one of the right sort. So what stands at a row is made
-- from what stands at the rows in its words.
use Prim.Native.Nat.{ℕ, suc, ◌-◌, ◌<◌}
use mathlib.Core.Path.{◌≡◌, refl, ap, ◌∙◌, subst}
use mathlib.Core.Bool.{Bool, true, false, not, ◌&&◌, ◌||◌}
use mathlib.Core.List.{List}
use lib.Dec.{T, eqb, ltb, leb, ltb→lt, leb→le}
use borrow.Author.Tests.{eq-eqb}
use native.Mathlib.Omega.{arith}
use Rattle.words.specs.Words.{words}
use Rattle.rules.specs.Rows.{Kind, unknown, is_e, is_s, of_number, of_truth, of_name, of_two, of_choose, of_element, of_input}
use Rattle.rules.specs.Rows.{of_declare, of_assign, of_loop, of_write, of_branch, of_out, of_then, word, kind_at}
use Rattle.rules.specs.Rows.{Field, within, expr, stmt, Shape, shape_of, is_expr, is_stmt, fits, shaped, row_shaped}
use Rattle.rules.specs.Tree.{Expr, number, Stmt, out, row_e, row_s, expr_of, stmt_of, below, expr_at, stmt_at}
use Rattle.rules.specs.Sites.{row_n}
use Rattle.rules.specs.Answers.{rows_of, failing2}
use Rattle.rules.proofs.Basics.{and_left, and_right}
use Rattle.rules.proofs.Places.{none_below}
use Rattle.rows.specs.Passed.{Passes}
use Rattle.rows.specs.ByRow.{node_of, node_at}
pub use Rattle.rows.specs.Fields.{Holds, Fields}
use Rattle.rows.proofs.Table.{passes_fewer, rows_some}
use Rattle.rows.proofs.Levels.{below_at, by_rows_law}

-- each of the first n rows of a table's words has its kind's shape
pub record Formed (t : List ℕ) (n : ℕ) : Type 0 where
  pub shape : (r : ℕ) → r < n → T (shaped t r (shape_of (kind_at t r)))

-- a word that fits its field is as the field says
holds : (t : List ℕ) (r w : ℕ) (f : Field) → T (fits t r w f) → Holds t r w f
holds t r w (within low high) h =
    (leb→le low w (and_left (leb low w) (leb w high) h), leb→le w high (and_right (leb low w) (leb w high) h))
holds t r w expr h =
    (ltb→lt w r (and_left (ltb w r) (is_expr (kind_at t w)) h), and_right (ltb w r) (is_expr (kind_at t w)) h)
holds t r w stmt h =
    (ltb→lt w r (and_left (ltb w r) (is_stmt (kind_at t w)) h), and_right (ltb w r) (is_stmt (kind_at t w)) h)

-- three words that fit a shape are as the shape says
shape_says : (t : List ℕ) (r a b c : ℕ) (s : Shape) → T (fits t r a s.a && (fits t r b s.b && fits t r c s.c))
    → Fields t r a b c s
shape_says t r a b c s h =
    let first = fits t r a s.a in
    let second = fits t r b s.b in
    let third = fits t r c s.c in
    let rest = and_right first (second && third) h in
    record {
      a_is = holds t r a s.a (and_left first (second && third) h);
      b_is = holds t r b s.b (and_left second third rest);
      c_is = holds t r c s.c (and_right second third rest);
    }

-- the words of a row are as the shape of its kind says
pub fields : {t : List ℕ} {n : ℕ} → Formed t n → (r : ℕ) → r < n → (k : Kind) → kind_at t r ≡ k
    → Fields t r (word t r 1) (word t r 2) (word t r 3) (shape_of k)
fields {t} f r h k e =
    subst (λ (k : Kind). Fields t r (word t r 1) (word t r 2) (word t r 3) (shape_of k)) e
    (shape_says t r (word t r 1) (word t r 2) (word t r 3) (shape_of (kind_at t r)) (f.shape r h))

-- an expression depends only on the lower rows
same_subs : (t : List ℕ) (k : Kind) (r a b c : ℕ) (f g : ℕ → Expr) → Fields t r a b c (shape_of k) → ((w : ℕ) → w < r → f w ≡ g w)
    → expr_of k r a b c f ≡ expr_of k r a b c g
unfolding expr_of
same_subs t unknown r a b c f g l h = refl
same_subs t (is_s k) r a b c f g l h = refl
same_subs t (is_e of_number) r a b c f g l h = refl
same_subs t (is_e of_truth) r a b c f g l h = refl
same_subs t (is_e of_name) r a b c f g l h = refl
same_subs t (is_e (of_two o)) r a b c f g l h = rw (h a l.a_is.0, h b l.b_is.0)
same_subs t (is_e of_choose) r a b c f g l h = rw (h a l.a_is.0, h b l.b_is.0, h c l.c_is.0)
same_subs t (is_e of_element) r a b c f g l h = rw (h b l.b_is.0)
same_subs t (is_e of_input) r a b c f g l h = refl

-- a statement depends only on the lower rows
same_parts : (t : List ℕ) (k : Kind) (r a b c : ℕ) (s : ℕ → Expr) (f g : ℕ → Stmt) → Fields t r a b c (shape_of k)
    → ((w : ℕ) → w < r → f w ≡ g w) → stmt_of k r a b c s f ≡ stmt_of k r a b c s g
unfolding stmt_of
same_parts t unknown r a b c s f g l h = refl
same_parts t (is_e k) r a b c s f g l h = refl
same_parts t (is_s of_declare) r a b c s f g l h = refl
same_parts t (is_s of_assign) r a b c s f g l h = refl
same_parts t (is_s of_loop) r a b c s f g l h = rw (h b l.b_is.0)
same_parts t (is_s of_write) r a b c s f g l h = refl
same_parts t (is_s of_branch) r a b c s f g l h = rw (h b l.b_is.0, h c l.c_is.0)
same_parts t (is_s of_out) r a b c s f g l h = refl
same_parts t (is_s of_then) r a b c s f g l h = rw (h a l.a_is.0, h b l.b_is.0)

-- what is made of a kind and its words has its row
row_of : (k : Kind) (r a b c : ℕ) (sub : ℕ → Expr) (part : ℕ → Stmt) → row_n (node_of k (expr_of k r a b c sub) (stmt_of k r a b c sub part)) ≡ r
unfolding row_n row_e row_s expr_of stmt_of
row_of unknown r a b c sub part = refl
row_of (is_e of_number) r a b c sub part = refl
row_of (is_e of_truth) r a b c sub part = refl
row_of (is_e of_name) r a b c sub part = refl
row_of (is_e (of_two o)) r a b c sub part = refl
row_of (is_e of_choose) r a b c sub part = refl
row_of (is_e of_element) r a b c sub part = refl
row_of (is_e of_input) r a b c sub part = refl
row_of (is_s of_declare) r a b c sub part = refl
row_of (is_s of_assign) r a b c sub part = refl
row_of (is_s of_loop) r a b c sub part = refl
row_of (is_s of_write) r a b c sub part = refl
row_of (is_s of_branch) r a b c sub part = refl
row_of (is_s of_out) r a b c sub part = refl
row_of (is_s of_then) r a b c sub part = refl

module _ {t : List ℕ} {n : ℕ} (f : Formed t n) (r : ℕ) (h : r < n) where
  -- the expression of a row is made from those of the rows in its words
  pub expr_law : expr_at t r ≡ expr_of (kind_at t r) r (word t r 1) (word t r 2) (word t r 3) (expr_at t)
  unfolding expr_at
  expr_law =
      by_rows_law (λ (q : ℕ). expr_of (kind_at t q) q (word t q 1) (word t q 2) (word t q 3)) (number 0 0) r
      ∙ same_subs t (kind_at t r) r (word t r 1) (word t r 2) (word t r 3) (below (number 0 0) r (expr_at t)) (expr_at t)
      (fields f r h (kind_at t r) refl) (below_at (number 0 0) r (expr_at t))

  -- so is the statement
  pub stmt_law : stmt_at t r ≡ stmt_of (kind_at t r) r (word t r 1) (word t r 2) (word t r 3) (expr_at t) (stmt_at t)
  unfolding stmt_at
  stmt_law =
      by_rows_law (λ (q : ℕ). stmt_of (kind_at t q) q (word t q 1) (word t q 2) (word t q 3) (expr_at t)) (out 0 (number 0 0)) r
      ∙ same_parts t (kind_at t r) r (word t r 1) (word t r 2) (word t r 3) (expr_at t)
      (below (out 0 (number 0 0)) r (stmt_at t)) (stmt_at t) (fields f r h (kind_at t r) refl) (below_at (out 0 (number 0 0)) r (stmt_at t))

  -- so is what stands at the row, the one or the other
  pub node_law : node_at t r
      ≡ node_of (kind_at t r) (expr_of (kind_at t r) r (word t r 1) (word t r 2) (word t r 3) (expr_at t))
      (stmt_of (kind_at t r) r (word t r 1) (word t r 2) (word t r 3) (expr_at t) (stmt_at t))
  unfolding node_at
  node_law = rw (expr_law, stmt_law)

  -- what stands at a row has that row
  pub node_row : row_n (node_at t r) ≡ r
  node_row = ap row_n node_law ∙ row_of (kind_at t r) r (word t r 1) (word t r 2) (word t r 3) (expr_at t) (stmt_at t)

-- a row that is a statement or not the last, and is the last, is a statement
last_stmt : (s e : Bool) → e ≡ true → T (s || not e) → T s
last_stmt true e p h = tt
last_stmt false true p h = h
last_stmt false false p h = let z : ◌≡◌ {A = ℕ} 0 1 = cc in absurd (omega arith)

module _ (table : List ℕ) (ok : Passes 2 table) where
  -- no row fails check 2
  row_shaped_lem : (r : ℕ) → r < rows_of table → T (row_shaped (words table) (rows_of table) r)
  unfolding failing2
  row_shaped_lem = none_below (row_shaped (words table) (rows_of table)) (rows_of table) ok.1.0

  -- a table that passes check 2 is formed
  pub formed : Formed (words table) (rows_of table)
  unfolding row_shaped
  formed = record { shape = λ r h. and_left (shaped (words table) r (shape_of (kind_at (words table) r))) (is_last r) (row_shaped_lem r h) }
    where
      is_last : ℕ → Bool
      is_last r = is_stmt (kind_at (words table) r) || not (eqb (suc r) (rows_of table))

  -- its last row is a statement
  pub last_is_stmt : T (is_stmt (kind_at (words table) (rows_of table - 1)))
  unfolding row_shaped
  last_is_stmt =
      let t = words table in
      let n = rows_of table in
      let r = n - 1 in
      let some : 0 < n = rows_some table (passes_fewer table 1 ok) in
      let last = is_stmt (kind_at t r) || not (eqb (suc r) n) in
      last_stmt (is_stmt (kind_at t r)) (eqb (suc r) n) (eq-eqb (suc r) n (omega arith))
      (and_right (shaped t r (shape_of (kind_at t r))) last (row_shaped_lem r (omega arith)))
