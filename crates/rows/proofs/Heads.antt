-- The sites of a row: the row with its expressions, and then the statements in it.
use Prim.Native.Nat.{ℕ, suc, ◌%◌, ◌<◌}
use mathlib.Core.Path.{◌≡◌, refl, sym, ap, ◌∙◌}
use mathlib.Core.List.{List, [], ◌∷◌, ◌++◌, append-nil}
use lib.Dec.{T}
use Rattle.rules.specs.Rows.{Kind, unknown, is_e, is_s, of_number, of_truth, of_name, of_two, of_choose, of_element, of_input}
use Rattle.rules.specs.Rows.{of_declare, of_assign, of_loop, of_write, of_branch, of_out, of_then, word, kind_at, shape_of, is_expr, is_stmt}
use Rattle.rules.specs.Tree.{Expr, Stmt, type_of, expr_of, stmt_of, expr_at, stmt_at}
use Rattle.rules.specs.Scope.{declared, Scope, in_loop, after}
use Rattle.rules.specs.Sites.{of_e, of_s, Site, site, sites_e, sites}
use Rattle.rows.specs.ByRow.{node_of, node_at}
use Rattle.rows.specs.Heads.{expr_in, heads}
use Rattle.rows.proofs.Formed.{Formed, expr_law, stmt_law}

-- the statements in a row of kind k at depth d in the scope sc, with the row and its words a, b, c
abbrev pub inner : List ℕ → ℕ → Scope → Kind → ℕ → ℕ → ℕ → ℕ → List Site
inner t d sc unknown r a b c = []
inner t d sc (is_e k) r a b c = []
inner t d sc (is_s of_declare) r a b c = []
inner t d sc (is_s of_assign) r a b c = []
inner t d sc (is_s of_loop) r a b c = sites (suc d) (in_loop r a (c % 65536) sc) (stmt_at t b)
inner t d sc (is_s of_write) r a b c = []
inner t d sc (is_s of_branch) r a b c = sites (suc d) sc (stmt_at t b) ++ sites (suc d) sc (stmt_at t c)
inner t d sc (is_s of_out) r a b c = []
inner t d sc (is_s of_then) r a b c = sites (suc d) sc (stmt_at t a) ++ sites (suc d) (after (stmt_at t a) sc) (stmt_at t b)

-- the scope after such a row
abbrev pub next : List ℕ → Scope → Kind → ℕ → ℕ → ℕ → ℕ → Scope
next t sc unknown r a b c = sc
next t sc (is_e k) r a b c = sc
next t sc (is_s of_declare) r a b c = record { called = a; is = declared r (type_of b) c } ∷ sc
next t sc (is_s of_assign) r a b c = sc
next t sc (is_s of_loop) r a b c = sc
next t sc (is_s of_write) r a b c = sc
next t sc (is_s of_branch) r a b c = sc
next t sc (is_s of_out) r a b c = sc
next t sc (is_s of_then) r a b c = after (stmt_at t b) (after (stmt_at t a) sc)

-- nothing after a site's list
end_once : {s : Site} (xs : List Site) → ◌≡◌ {A = List Site} (s ∷ xs) (s ∷ xs ++ [])
end_once xs = rw append-nil

-- nothing after it, twice
end_twice : {s : Site} (xs : List Site) → ◌≡◌ {A = List Site} (s ∷ xs) (s ∷ (xs ++ []) ++ [])
end_twice {s} xs = ap (λ (l : List Site). s ∷ l) (sym (append-nil (xs ++ []) ∙ append-nil xs))

-- nothing between two lists
between : {s : Site} (xs ys : List Site) → ◌≡◌ {A = List Site} (s ∷ xs ++ ys) (s ∷ (xs ++ []) ++ ys)
between xs ys = simp append-nil

-- what is made of a kind and its words, a row of a table's words at depth d in the scope sc
module _ (t : List ℕ) (d : ℕ) (sc : Scope) (r a b c : ℕ) where
  -- the expressions in the words
  abbrev under : Kind → List Site
  under k = expr_in t d sc (shape_of k).a a ++ (expr_in t d sc (shape_of k).b b ++ expr_in t d sc (shape_of k).c c)

  -- the sites of an expression are its own and those of its expressions
  sites_of_expr : (k : Kind) → T (is_expr k)
      → sites_e d sc (expr_of k r a b c (expr_at t)) ≡ site d sc (of_e (expr_of k r a b c (expr_at t))) ∷ under k
  unfolding sites_e expr_of
  sites_of_expr unknown h = absurd h
  sites_of_expr (is_s k) h = absurd h
  sites_of_expr (is_e of_number) h = refl
  sites_of_expr (is_e of_truth) h = refl
  sites_of_expr (is_e of_name) h = refl
  sites_of_expr (is_e (of_two o)) h = simp append-nil
  sites_of_expr (is_e of_choose) h = refl
  sites_of_expr (is_e of_element) h = simp append-nil
  sites_of_expr (is_e of_input) h = refl

  -- the sites of a statement are its own, those of its expressions and those of its statements
  sites_of_stmt : (k : Kind) → T (is_stmt k)
      → sites d sc (stmt_of k r a b c (expr_at t) (stmt_at t))
      ≡ (site d sc (of_s (stmt_of k r a b c (expr_at t) (stmt_at t))) ∷ under k) ++ inner t d sc k r a b c
  unfolding sites stmt_of
  sites_of_stmt unknown h = absurd h
  sites_of_stmt (is_e k) h = absurd h
  sites_of_stmt (is_s of_declare) h = refl
  sites_of_stmt (is_s of_assign) h = end_twice (sites_e (suc d) sc (expr_at t b))
  sites_of_stmt (is_s of_loop) h = refl
  sites_of_stmt (is_s of_write) h = end_once (sites_e (suc d) sc (expr_at t b) ++ sites_e (suc d) sc (expr_at t c))
  sites_of_stmt (is_s of_branch) h =
      between (sites_e (suc d) sc (expr_at t a)) (sites (suc d) sc (stmt_at t b) ++ sites (suc d) sc (stmt_at t c))
  sites_of_stmt (is_s of_out) h = end_twice (sites_e (suc d) sc (expr_at t a))
  sites_of_stmt (is_s of_then) h = refl

-- the scope after a statement goes by its kind
module _ (t : List ℕ) (sc : Scope) (r a b c : ℕ) where
  after_stmt : (k : Kind) → after (stmt_of k r a b c (expr_at t) (stmt_at t)) sc ≡ next t sc k r a b c
  unfolding after stmt_of
  after_stmt unknown = refl
  after_stmt (is_e k) = refl
  after_stmt (is_s of_declare) = refl
  after_stmt (is_s of_assign) = refl
  after_stmt (is_s of_loop) = refl
  after_stmt (is_s of_write) = refl
  after_stmt (is_s of_branch) = refl
  after_stmt (is_s of_out) = refl
  after_stmt (is_s of_then) = refl

-- at a kind of expressions stands the expression
pub node_expr : (k : Kind) (e : Expr) (p : Stmt) → T (is_expr k) → node_of k e p ≡ of_e e
node_expr unknown e p h = refl
node_expr (is_e k) e p h = refl
node_expr (is_s k) e p h = absurd h

-- at a kind of statements stands the statement
pub node_stmt : (k : Kind) (e : Expr) (p : Stmt) → T (is_stmt k) → node_of k e p ≡ of_s p
node_stmt unknown e p h = absurd h
node_stmt (is_e k) e p h = absurd h
node_stmt (is_s k) e p h = refl

module _ {t : List ℕ} {n : ℕ} (f : Formed t n) (d : ℕ) (sc : Scope) (r : ℕ) (h : r < n) where
  -- the sites of a row's expression are the row and its expressions
  pub expr_heads : T (is_expr (kind_at t r)) → sites_e d sc (expr_at t r) ≡ heads t d sc r
  unfolding heads node_at
  expr_heads i =
      rw (node_expr (kind_at t r) (expr_at t r) (stmt_at t r) i, expr_law f r h)
      (sites_of_expr t d sc r (word t r 1) (word t r 2) (word t r 3) (kind_at t r) i)

  -- the sites of a row's statement are the row, its expressions and its statements
  pub stmt_heads : T (is_stmt (kind_at t r))
      → sites d sc (stmt_at t r) ≡ heads t d sc r ++ inner t d sc (kind_at t r) r (word t r 1) (word t r 2) (word t r 3)
  unfolding heads node_at
  stmt_heads i =
      rw (node_stmt (kind_at t r) (expr_at t r) (stmt_at t r) i, stmt_law f r h)
      (sites_of_stmt t d sc r (word t r 1) (word t r 2) (word t r 3) (kind_at t r) i)

-- the scope after a row's statement goes by its kind and its words
pub after_law : {t : List ℕ} {n : ℕ} → Formed t n → (sc : Scope) (r : ℕ) → r < n
    → after (stmt_at t r) sc ≡ next t sc (kind_at t r) r (word t r 1) (word t r 2) (word t r 3)
after_law {t} f sc r h = rw (stmt_law f r h) (after_stmt t sc r (word t r 1) (word t r 2) (word t r 3) (kind_at t r))
