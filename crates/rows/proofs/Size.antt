-- How many sites there are: a list in which every row below n stands once, and no other, has n; and a statement binds no more
-- names than it has sites.
use Prim.Native.Nat.{ℕ, zero, suc, ◌+◌, ◌<◌, ◌≤◌}
use mathlib.Core.Path.{◌≡◌, refl, sym, ◌∙◌}
use mathlib.Core.Bool.{Bool, true, false, cond}
use mathlib.Core.List.{List, [], ◌∷◌, ◌++◌}
use lib.Dec.{eqb}
use lib.ListN.{length, length-append}
use borrow.Author.Tests.{ne_eqb, eqb-true, eqb-false}
use native.Mathlib.Omega.{arith}
use Rattle.rules.specs.Tree.{Stmt, declare, assign, loop, write, branch, out, then}
use Rattle.rules.specs.Scope.{Scope, in_loop, after}
use Rattle.rules.specs.Sites.{Site, row_n, sites_e, sites}
use Rattle.rules.proofs.Sites.{Each}
use Rattle.rows.specs.Heads.{bindings}
use Rattle.rows.proofs.Once.{times, rows_in, stands}

-- how often the rows below n stand among these sites, all together
total : ℕ → List Site → ℕ
total zero ss = 0
total (suc r) ss = stands r ss + total r ss

-- no row stands in an empty list
total_nil : (n : ℕ) → total n [] ≡ 0
unfolding total times rows_in
total_nil zero = refl
total_nil (suc n) = omega (arith, total_nil n)

-- a site of another row adds nothing
total_out : (n : ℕ) (s : Site) (ss : List Site) → n ≤ row_n s.node → total n (s ∷ ss) ≡ total n ss
unfolding total times rows_in
total_out zero s ss l = refl
total_out (suc n) s ss l =
    rw (ne_eqb (row_n s.node) n (λ e. absurd (omega arith))) (omega (arith, total_out n s ss (omega arith)))

-- a site of one of the rows adds one
total_in : (n : ℕ) (s : Site) (ss : List Site) → row_n s.node < n → total n (s ∷ ss) ≡ suc (total n ss)
unfolding total times rows_in
total_in zero s ss l = absurd (omega arith)
total_in (suc n) s ss l = go (eqb (row_n s.node) n) refl (total_in n s ss)
  where
    r : ℕ
    r = row_n s.node

    go : (b : Bool) → eqb r n ≡ b → (r < n → total n (s ∷ ss) ≡ suc (total n ss))
        → cond (eqb r n) 1 0 + stands n ss + total n (s ∷ ss) ≡ suc (stands n ss + total n ss)
    go true e rec = rw e (omega (arith, total_out n s ss (omega (arith, eqb-true r n e))))
    go false e rec = rw e (omega (arith, rec (omega (arith, eqb-false r n e))))

-- where each row stands once, the total is n
total_once : (n : ℕ) (ss : List Site) → ((r : ℕ) → r < n → stands r ss ≡ 1) → total n ss ≡ n
unfolding total
total_once zero ss h = refl
total_once (suc n) ss h = omega (arith, h n (omega arith), total_once n ss (λ r l. h r (omega arith)))

-- where no other row stands there, the total is the length
total-length : (n : ℕ) (ss : List Site) → Each (λ s. row_n s.node < n) ss → length ss ≡ total n ss
total-length n [] h = sym (total_nil n)
total-length n (s ∷ ss) h = omega (arith, total-length n ss h.1, total_in n s ss h.0)

-- where every row below n stands once and no other, there are n sites
pub size_once : (n : ℕ) (ss : List Site) → Each (λ s. row_n s.node < n) ss → ((r : ℕ) → r < n → stands r ss ≡ 1) → length ss ≡ n
size_once n ss below once = total-length n ss below ∙ total_once n ss once

-- a statement binds no more names than it has sites
pub bindings-sites : (p : Stmt) (d : ℕ) (sc : Scope) → bindings p ≤ length (sites d sc p)
unfolding bindings sites
bindings-sites (declare r x t n) d sc = omega arith
bindings-sites (assign r x e) d sc = omega arith
bindings-sites (loop r x b f l) d sc = omega (arith, bindings-sites b (suc d) (in_loop r x l sc))
bindings-sites (write r x i e) d sc = omega arith
bindings-sites (branch r g a b) d sc =
    let first = sites (suc d) sc a in
    let both = first ++ sites (suc d) sc b in
    omega (
      arith,
      bindings-sites a (suc d) sc,
      bindings-sites b (suc d) sc,
      length-append (sites_e (suc d) sc g) both,
      length-append first (sites (suc d) sc b),
    )
bindings-sites (out r e) d sc = omega arith
bindings-sites (then r a b) d sc =
    omega (
      arith,
      bindings-sites a (suc d) sc,
      bindings-sites b (suc d) (after a sc),
      length-append (sites (suc d) sc a) (sites (suc d) (after a sc) b),
    )
