-- The sites under a row are its own and those under the rows in its words, one deeper.
use Prim.Native.Nat.{ℕ, suc, ◌%◌, ◌<◌}
use mathlib.Core.Path.{◌≡◌, refl}
use mathlib.Core.List.{List, [], ◌∷◌, ◌++◌, append-nil}
use lib.Dec.{T}
use Rattle.rules.specs.Rows.{Kind, unknown, is_e, is_s, of_number, of_truth, of_name, of_two, of_choose, of_element, of_input}
use Rattle.rules.specs.Rows.{of_declare, of_assign, of_loop, of_write, of_branch, of_out, of_then, word, kind_at}
use Rattle.rules.specs.Rows.{Field, within, expr, stmt, shape_of, is_expr, is_stmt}
use Rattle.rules.specs.Tree.{expr_of, stmt_of, expr_at, stmt_at}
use Rattle.rules.specs.Scope.{Scope, in_loop, after}
use Rattle.rules.specs.Sites.{Node, of_e, of_s, Site, site, sites_e, sites}
use Rattle.rows.specs.ByRow.{node_of, node_at}
use Rattle.rows.proofs.Formed.{Formed, Fields, fields, node_law}
use Rattle.rows.proofs.Heads.{node_expr, node_stmt}

-- the sites of what stands at a row, at depth d in the scope sc
unfoldable pub sites_n : ℕ → Scope → Node → List Site
sites_n d sc (of_e e) = sites_e d sc e
sites_n d sc (of_s p) = sites d sc p

-- the sites under row r of a table's words
abbrev pub sites_at : List ℕ → ℕ → Scope → ℕ → List Site
sites_at t d sc r = sites_n d sc (node_at t r)

-- the sites under a word, where its field holds a row
abbrev pub part : List ℕ → ℕ → Scope → Field → ℕ → List Site
part t d sc (within low high) w = []
part t d sc expr w = sites_at t d sc w
part t d sc stmt w = sites_at t d sc w

-- the scope of the second word of a row in the scope sc, with its kind, the row and its words a and c: a loop's name is known
-- there, and what the first part of a "then" declares
abbrev pub second : List ℕ → Scope → Kind → ℕ → ℕ → ℕ → Scope
second t sc unknown r a c = sc
second t sc (is_e k) r a c = sc
second t sc (is_s of_declare) r a c = sc
second t sc (is_s of_assign) r a c = sc
second t sc (is_s of_loop) r a c = in_loop r a (c % 65536) sc
second t sc (is_s of_write) r a c = sc
second t sc (is_s of_branch) r a c = sc
second t sc (is_s of_out) r a c = sc
second t sc (is_s of_then) r a c = after (stmt_at t a) sc

-- the sites of a row that is an expression are that expression's
expr_sites : (t : List ℕ) (d : ℕ) (sc : Scope) (w : ℕ) → T (is_expr (kind_at t w)) → sites_e d sc (expr_at t w) ≡ sites_at t d sc w
unfolding sites_n node_at
expr_sites t d sc w h = rw (node_expr (kind_at t w) (expr_at t w) (stmt_at t w) h)

-- the sites of a row that is a statement are that statement's
pub stmt_sites : (t : List ℕ) (d : ℕ) (sc : Scope) (w : ℕ) → T (is_stmt (kind_at t w)) → sites d sc (stmt_at t w) ≡ sites_at t d sc w
unfolding sites_n node_at
stmt_sites t d sc w h = rw (node_stmt (kind_at t w) (expr_at t w) (stmt_at t w) h)

module _ (t : List ℕ) (d : ℕ) (sc : Scope) (r a b c : ℕ) where
  -- what is made of a kind and its words
  abbrev made : Kind → Node
  made k = node_of k (expr_of k r a b c (expr_at t)) (stmt_of k r a b c (expr_at t) (stmt_at t))

  -- the sites under the words
  abbrev pub parts : Kind → List Site
  parts k =
      part t (suc d) sc (shape_of k).a a
      ++ (part t (suc d) (second t sc k r a c) (shape_of k).b b ++ part t (suc d) sc (shape_of k).c c)

  -- the sites of what is made are its own and those under the words
  made-parts : (k : Kind) → Fields t r a b c (shape_of k) → sites_n d sc (made k) ≡ site d sc (made k) ∷ parts k
  unfolding sites_n sites_e sites expr_of stmt_of
  made-parts unknown f = refl
  made-parts (is_e of_number) f = refl
  made-parts (is_e of_truth) f = refl
  made-parts (is_e of_name) f = refl
  made-parts (is_e (of_two o)) f = rw (expr_sites t (suc d) sc a f.a_is.1, expr_sites t (suc d) sc b f.b_is.1, append-nil)
  made-parts (is_e of_choose) f =
      rw (expr_sites t (suc d) sc a f.a_is.1, expr_sites t (suc d) sc b f.b_is.1, expr_sites t (suc d) sc c f.c_is.1)
  made-parts (is_e of_element) f = rw (expr_sites t (suc d) sc b f.b_is.1, append-nil)
  made-parts (is_e of_input) f = refl
  made-parts (is_s of_declare) f = refl
  made-parts (is_s of_assign) f = rw (expr_sites t (suc d) sc b f.b_is.1, append-nil)
  made-parts (is_s of_loop) f = rw (stmt_sites t (suc d) (in_loop r a (c % 65536) sc) b f.b_is.1, append-nil)
  made-parts (is_s of_write) f = rw (expr_sites t (suc d) sc b f.b_is.1, expr_sites t (suc d) sc c f.c_is.1)
  made-parts (is_s of_branch) f =
      rw (expr_sites t (suc d) sc a f.a_is.1, stmt_sites t (suc d) sc b f.b_is.1, stmt_sites t (suc d) sc c f.c_is.1)
  made-parts (is_s of_out) f = rw (expr_sites t (suc d) sc a f.a_is.1, append-nil (sites_at t (suc d) sc a))
  made-parts (is_s of_then) f =
      rw (stmt_sites t (suc d) sc a f.a_is.1, stmt_sites t (suc d) (after (stmt_at t a) sc) b f.b_is.1, append-nil)

-- the sites under a row are its own and those under its words
pub sites-parts : {t : List ℕ} {n : ℕ} → Formed t n → (d : ℕ) (sc : Scope) (r : ℕ) → r < n
    → sites_at t d sc r ≡ site d sc (node_at t r) ∷ parts t d sc r (word t r 1) (word t r 2) (word t r 3) (kind_at t r)
sites-parts {t} f d sc r h =
    rw (node_law f r h)
    (made-parts t d sc r (word t r 1) (word t r 2) (word t r 3) (kind_at t r) (fields f r h (kind_at t r) refl))
