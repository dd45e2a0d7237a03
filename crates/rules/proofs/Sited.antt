-- The sites of a formed program: their rows, and the rows of what is in scope there, lie below the number of rows.
use Prim.Native.Nat.{ℕ, suc}
use mathlib.Core.Bool.{Bool, true, false, cond}
use mathlib.Core.Option.{some}
use mathlib.Core.List.{List, ◌∷◌, ◌++◌}
use lib.Dec.{eqb}
use Rattle.rules.specs.Tree.{Expr, number, truth, name, two, choose, element, input, row_e}
use Rattle.rules.specs.Tree.{Stmt, declare, assign, loop, write, branch, out, then, row_s}
use Rattle.rules.specs.Scope.{Known, declared, looped, Scope, lookup, in_loop, after}
use Rattle.rules.specs.Sites.{row_n, Site, sites_e, sites}
use Rattle.rules.proofs.Sites.{Each, each_both}
use Rattle.rules.proofs.Formed.{FormedE, FormedS}
use Rattle.rules.proofs.Labels.{DeclaredBelow, RowsBelow}
use Rattle.rules.proofs.InputSorts.{FormedInput}

abbrev pub ScopeBelow : ℕ → Scope → Type 0
ScopeBelow n sc = (x : ℕ) → DeclaredBelow n (lookup sc x)

pub record SiteFormed (t : List ℕ) (n : ℕ) (s : Site) : Type 0 where
  pub rows : RowsBelow n s
  pub input : FormedInput t s.node

module _ (t : List ℕ) (n : ℕ) where
  -- one name more
  push : (sc : Scope) (x : ℕ) (k : Known) → ScopeBelow n sc → DeclaredBelow n (some k) → ScopeBelow n (record { called = x; is = k } ∷ sc)
  unfolding lookup
  push sc x k h i y = go (eqb x y)
    where
      go : (b : Bool) → DeclaredBelow n (cond b (some k) (lookup sc y))
      go true = i
      go false = h y

  after-below : (p : Stmt) (sc : Scope) → FormedS t n p → ScopeBelow n sc → ScopeBelow n (after p sc)
  unfolding after
  after-below (declare r x y k) sc f h = push sc x (declared r y k) h f.0
  after-below (assign r x e) sc f h = h
  after-below (loop r x b i l) sc f h = h
  after-below (write r x i e) sc f h = h
  after-below (branch r g a b) sc f h = h
  after-below (out r e) sc f h = h
  after-below (then r a b) sc f h = after-below b (after a sc) f.2 (after-below a sc f.1 h)

  abbrev All : List Site → Type 0
  All ss = Each (SiteFormed t n) ss

  expr_sites : (e : Expr) (k : ℕ) (sc : Scope) → FormedE t n e → ScopeBelow n sc → All (sites_e k sc e)
  unfolding sites_e row_n row_e
  expr_sites (number r v) k sc f h = (record { rows = record { row = f.0; found = h }; input = tt }, tt)
  expr_sites (truth r v) k sc f h = (record { rows = record { row = f.0; found = h }; input = tt }, tt)
  expr_sites (name r x) k sc f h = (record { rows = record { row = f; found = h }; input = tt }, tt)
  expr_sites (two r o a b) k sc f h = (
    record { rows = record { row = f.0; found = h }; input = tt },
    each_both (SiteFormed t n) (sites_e (suc k) sc a) (sites_e (suc k) sc b) (expr_sites a (suc k) sc f.1 h) (expr_sites b (suc k) sc f.2 h),
  )
  expr_sites (choose r g a b) k sc f h = (
    record { rows = record { row = f.0; found = h }; input = tt },
    each_both (SiteFormed t n) (sites_e (suc k) sc g) (sites_e (suc k) sc a ++ sites_e (suc k) sc b) (expr_sites g (suc k) sc f.1 h)
        (each_both (SiteFormed t n) (sites_e (suc k) sc a) (sites_e (suc k) sc b) (expr_sites a (suc k) sc f.2 h) (expr_sites b (suc k) sc f.3 h)),
  )
  expr_sites (element r x i) k sc f h = (record { rows = record { row = f.0; found = h }; input = tt }, expr_sites i (suc k) sc f.1 h)
  expr_sites (input r y d v) k sc f h = (record { rows = record { row = f.0; found = h }; input = f.1 }, tt)

  pub stmt_sites : (p : Stmt) (k : ℕ) (sc : Scope) → FormedS t n p → ScopeBelow n sc → All (sites k sc p)
  unfolding sites row_n row_s
  stmt_sites (declare r x y v) k sc f h = (record { rows = record { row = f.0; found = h }; input = tt }, tt)
  stmt_sites (assign r x e) k sc f h = (record { rows = record { row = f.0; found = h }; input = tt }, expr_sites e (suc k) sc f.1 h)
  stmt_sites (loop r x b i l) k sc f h =
      (record { rows = record { row = f.0; found = h }; input = tt }, stmt_sites b (suc k) (in_loop r x l sc) f.3 (push sc x (looped r l) h tt))
  stmt_sites (write r x i e) k sc f h = (
    record { rows = record { row = f.0; found = h }; input = tt },
    each_both (SiteFormed t n) (sites_e (suc k) sc i) (sites_e (suc k) sc e) (expr_sites i (suc k) sc f.1 h) (expr_sites e (suc k) sc f.2 h),
  )
  stmt_sites (branch r g a b) k sc f h = (
    record { rows = record { row = f.0; found = h }; input = tt },
    each_both (SiteFormed t n) (sites_e (suc k) sc g) (sites (suc k) sc a ++ sites (suc k) sc b) (expr_sites g (suc k) sc f.1 h)
        (each_both (SiteFormed t n) (sites (suc k) sc a) (sites (suc k) sc b) (stmt_sites a (suc k) sc f.2 h) (stmt_sites b (suc k) sc f.3 h)),
  )
  stmt_sites (out r e) k sc f h = (record { rows = record { row = f.0; found = h }; input = tt }, expr_sites e (suc k) sc f.1 h)
  stmt_sites (then r a b) k sc f h = (
    record { rows = record { row = f.0; found = h }; input = tt },
    each_both (SiteFormed t n) (sites (suc k) sc a) (sites (suc k) (after a sc) b) (stmt_sites a (suc k) sc f.1 h)
        (stmt_sites b (suc k) (after a sc) f.2 (after-below a sc f.1 h)),
  )
