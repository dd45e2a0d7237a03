-- Sites and rows: which sites a list has, the first site of a row, and that under a row of a table each site is that of a row,
-- with the rows in its words one deeper.
use Prim.Native.Nat.{ℕ, zero, suc, ◌<◌, ◌≤◌}
use mathlib.Core.Path.{◌≡◌, refl, subst}
use mathlib.Core.Logic.{◌⊎◌, inl, inr, ⊎_elim}
use mathlib.Core.Bool.{Bool, true, false, not, cond}
use mathlib.Core.List.{List, [], ◌∷◌, ◌++◌}
use lib.Dec.{T, eqb}
use borrow.Author.Tests.{eq-eqb, eqb-true}
use native.Mathlib.Omega.{arith}
use Rattle.rules.specs.Places.{fault}
use Rattle.rules.specs.Rows.{Kind, unknown, is_e, is_s, of_number, of_truth, of_name, of_two, of_choose, of_element, of_input}
use Rattle.rules.specs.Rows.{of_declare, of_assign, of_loop, of_write, of_branch, of_out, of_then, word, kind_at, Field, within, expr, stmt, shape_of}
use Rattle.rules.specs.Scope.{Scope}
use Rattle.rules.specs.Sites.{Site, site, row_n, failing}
use Rattle.rules.specs.Refusals.{In}
use Rattle.rules.proofs.Places.{in_fault, in_left, in_right, in_either}
use Rattle.rules.proofs.Sites.{Each}
use Rattle.rows.specs.ByRow.{node_at, site_of}
use Rattle.rows.proofs.Formed.{Formed, Holds, fields}
use Rattle.rows.proofs.Parts.{sites_at, part, second, sites-parts}
use Rattle.rows.proofs.Once.{times, rows_in, stands}

-- s is one of these sites
abbrev pub Has : Site → List Site → Type 0
Has s [] = ⊥
Has s (x ∷ xs) = (x ≡ s) ⊎ Has s xs

-- a site of the first list is one of both
has_left : (s : Site) (xs ys : List Site) → Has s xs → Has s (xs ++ ys)
has_left s [] ys h = absurd h
has_left s (x ∷ xs) ys (inl e) = inl e
has_left s (x ∷ xs) ys (inr h) = inr (has_left s xs ys h)

-- a site of the second list is one of both
has_right : (s : Site) (xs ys : List Site) → Has s ys → Has s (xs ++ ys)
has_right s [] ys h = h
has_right s (x ∷ xs) ys h = inr (has_right s xs ys h)

-- a site of both is one of the first or of the second
has_either : (s : Site) (xs ys : List Site) → Has s (xs ++ ys) → Has s xs ⊎ Has s ys
has_either s [] ys h = inr h
has_either s (x ∷ xs) ys (inl e) = inl (inl e)
has_either s (x ∷ xs) ys (inr h) = ⊎_elim (λ l. inl (inr l)) (λ l. inr l) (has_either s xs ys h)

-- what holds of each site holds of one of them
pub each_has : (P : Site → Type 0) (ss : List Site) → Each P ss → (s : Site) → Has s ss → P s
each_has P [] all s h = absurd h
each_has P (x ∷ xs) all s (inl e) = subst P e all.0
each_has P (x ∷ xs) all s (inr h) = each_has P xs all.1 s h

-- what holds of whatever site is one of them holds of each
pub has_each : (P : Site → Type 0) (ss : List Site) → ((s : Site) → Has s ss → P s) → Each P ss
has_each P [] all = tt
has_each P (x ∷ xs) all = (all x (inl refl), has_each P xs (λ s h. all s (inr h)))

-- the row of a site stands among the rows
has-stands : (s : Site) (ss : List Site) → Has s ss → 1 ≤ stands (row_n s.node) ss
unfolding times rows_in
has-stands s [] h = absurd h
has-stands s (x ∷ xs) (inl e) = rw (e, eq-eqb (row_n s.node) (row_n s.node) refl) (omega arith)
has-stands s (x ∷ xs) (inr h) = omega (arith, has-stands s xs h)

-- a site whose row stands once is the first site of its row
pub site_of_has : (s : Site) (ss : List Site) → Has s ss → stands (row_n s.node) ss ≤ 1 → site_of ss (row_n s.node) ≡ s
unfolding times rows_in site_of
site_of_has s [] h l = absurd h
site_of_has s (x ∷ xs) (inl e) l = rw (e, eq-eqb (row_n s.node) (row_n s.node) refl)
site_of_has s (x ∷ xs) (inr h) l = go (eqb (row_n x.node) (row_n s.node)) refl (site_of_has s xs h)
  where
    go : (b : Bool) → eqb (row_n x.node) (row_n s.node) ≡ b → (stands (row_n s.node) xs ≤ 1 → site_of xs (row_n s.node) ≡ s)
        → cond (eqb (row_n x.node) (row_n s.node)) x (site_of xs (row_n s.node)) ≡ s
    go true e rec = let twice = rw e at l in absurd (omega (arith, has-stands s xs h))
    go false e rec = let later = rw e at l in rw e (rec (omega arith))

-- the first site of a row that stands there is one of the sites, and has that row
pub has_site_of : (ss : List Site) (r : ℕ) → 1 ≤ stands r ss → Has (site_of ss r) ss × (row_n (site_of ss r).node ≡ r)
unfolding times rows_in site_of
has_site_of [] r h = absurd (omega arith)
has_site_of (x ∷ xs) r h = go (eqb (row_n x.node) r) refl (has_site_of xs r)
  where
    first : Site
    first = cond (eqb (row_n x.node) r) x (site_of xs r)

    go : (b : Bool) → eqb (row_n x.node) r ≡ b → (1 ≤ stands r xs → Has (site_of xs r) xs × (row_n (site_of xs r).node ≡ r))
        → ((x ≡ first) ⊎ Has first xs) × (row_n first.node ≡ r)
    go true e rec = rw e (inl refl, eqb-true (row_n x.node) r e)
    go false e rec =
        let later = rw e at h in
        let (is, row) = rec (omega arith) in
        rw e (inr is, row)

-- the row of a site that fails a test is one of the failing rows
pub has-failing : (test : Site → Bool) (s : Site) (ss : List Site) → Has s ss → T (not (test s)) → In (row_n s.node) (failing test ss)
unfolding failing
has-failing test s [] h fails = absurd h
has-failing test s (x ∷ xs) (inl e) fails =
    rw e (in_left (row_n s.node) (fault (test s) (row_n s.node)) (failing test xs)
    ((in_fault (test s) (row_n s.node) (row_n s.node)).1 (refl, fails)))
has-failing test s (x ∷ xs) (inr h) fails =
    in_right (row_n s.node) (fault (test x) (row_n x.node)) (failing test xs) (has-failing test s xs h fails)

-- a site of row p that fails a test
pub record Fails (test : Site → Bool) (p : ℕ) (ss : List Site) : Type 0 where
  pub at : Site
  pub there : Has at ss
  pub row : p ≡ row_n at.node
  pub fails : T (not (test at))

-- a failing row is that of a site that fails
pub failing-has : (test : Site → Bool) (p : ℕ) (ss : List Site) → In p (failing test ss) → Fails test p ss
unfolding failing
failing-has test p [] i = absurd i
failing-has test p (x ∷ xs) i =
    go (failing-has test p xs) (in_either p (fault (test x) (row_n x.node)) (failing test xs) i)
  where
    go : (In p (failing test xs) → Fails test p xs) → In p (fault (test x) (row_n x.node)) ⊎ In p (failing test xs) → Fails test p (x ∷ xs)
    go rec (inl j) =
        let (row, fails) = (in_fault (test x) p (row_n x.node)).0 j in
        record { at = x; there = inl refl; row = row; fails = fails }
    go rec (inr j) = let f = rec j in record { at = f.at; there = inr f.there; row = f.row; fails = f.fails }

-- row w in a word of the site s is one of these sites, one deeper; an expression in the scope of s, a statement in some scope
abbrev pub PartIn : List ℕ → Field → ℕ → Site → List Site → Type 0
PartIn t (within low high) w s ss = Unit {0}
PartIn t expr w s ss = Has (site (suc s.depth) s.scope (node_at t w)) ss
PartIn t stmt w s ss = (sc : Scope) × Has (site (suc s.depth) sc (node_at t w)) ss

-- a site is that of a row below n, and the rows in its words stand among these sites
pub record Fine (t : List ℕ) (n : ℕ) (s : Site) (ss : List Site) : Type 0 where
  pub at : ℕ
  pub row : at < n
  pub is : s ≡ site s.depth s.scope (node_at t at)
  pub a : PartIn t (shape_of (kind_at t at)).a (word t at 1) s ss
  pub b : PartIn t (shape_of (kind_at t at)).b (word t at 2) s ss
  pub c : PartIn t (shape_of (kind_at t at)).c (word t at 3) s ss

-- all sites of a list are so, among the list
abbrev pub Closed : List ℕ → ℕ → List Site → Type 0
Closed t n ss = (s : Site) → Has s ss → Fine t n s ss

-- where a field holds an expression, two scopes are the same
abbrev SameIfExpr : Field → Scope → Scope → Type 0
SameIfExpr (within low high) sc sc2 = Unit {0}
SameIfExpr expr sc sc2 = sc2 ≡ sc
SameIfExpr stmt sc sc2 = Unit {0}

-- an expression in the second word stands in the row's scope
second-same : (t : List ℕ) (sc : Scope) (k : Kind) (r a c : ℕ) → SameIfExpr (shape_of k).b sc (second t sc k r a c)
second-same t sc unknown r a c = tt
second-same t sc (is_e of_number) r a c = tt
second-same t sc (is_e of_truth) r a c = tt
second-same t sc (is_e of_name) r a c = tt
second-same t sc (is_e (of_two o)) r a c = refl
second-same t sc (is_e of_choose) r a c = refl
second-same t sc (is_e of_element) r a c = refl
second-same t sc (is_e of_input) r a c = tt
second-same t sc (is_s of_declare) r a c = tt
second-same t sc (is_s of_assign) r a c = refl
second-same t sc (is_s of_loop) r a c = tt
second-same t sc (is_s of_write) r a c = refl
second-same t sc (is_s of_branch) r a c = tt
second-same t sc (is_s of_out) r a c = tt
second-same t sc (is_s of_then) r a c = tt

-- the row's scope is its own
same_self : (f : Field) (sc : Scope) → SameIfExpr f sc sc
same_self (within low high) sc = tt
same_self expr sc = refl
same_self stmt sc = tt

module _ (t : List ℕ) (n : ℕ) where
  -- what stands among some sites stands among more
  part_more : (f : Field) (w : ℕ) (s : Site) (xs ys : List Site) → ((s : Site) → Has s xs → Has s ys) → PartIn t f w s xs → PartIn t f w s ys
  part_more (within low high) w s xs ys more h = tt
  part_more expr w s xs ys more h = more (site (suc s.depth) s.scope (node_at t w)) h
  part_more stmt w s xs ys more h = (h.0, more (site (suc s.depth) h.0 (node_at t w)) h.1)

  -- a site that is fine among some sites is fine among more
  fine_more : (s : Site) (xs ys : List Site) → ((s : Site) → Has s xs → Has s ys) → Fine t n s xs → Fine t n s ys
  fine_more s xs ys more f =
      let k = kind_at t f.at in
      record {
        at = f.at;
        row = f.row;
        is = f.is;
        a = part_more (shape_of k).a (word t f.at 1) s xs ys more f.a;
        b = part_more (shape_of k).b (word t f.at 2) s xs ys more f.b;
        c = part_more (shape_of k).c (word t f.at 3) s xs ys more f.c;
      }

  -- no sites are closed
  closed_none : Closed t n []
  closed_none s h = absurd h

  -- two closed lists after one another are closed
  closed_both : (xs ys : List Site) → Closed t n xs → Closed t n ys → Closed t n (xs ++ ys)
  closed_both xs ys f g s h =
      ⊎_elim (λ l. fine_more s xs (xs ++ ys) (λ x. has_left x xs ys) (f s l)) (λ l. fine_more s ys (xs ++ ys) (λ x. has_right x xs ys) (g s l))
      (has_either s xs ys h)

  -- a fine site before a closed list leaves it closed
  closed_first : (s : Site) (ss : List Site) → Fine t n s (s ∷ ss) → Closed t n ss → Closed t n (s ∷ ss)
  closed_first s ss f g x (inl e) = subst (λ (x : Site). Fine t n x (s ∷ ss)) e f
  closed_first s ss f g x (inr h) = fine_more x ss (s ∷ ss) (λ y l. inr l) (g x h)

  module _ (f : Formed t n) where
    -- the sites under a word are closed where those under each lower row are
    part_closed : (g : Field) (d : ℕ) (sc : Scope) (r w : ℕ) → Holds t r w g → ((w : ℕ) → w < r → Closed t n (sites_at t d sc w))
        → Closed t n (part t d sc g w)
    part_closed (within low high) d sc r w h rec = closed_none
    part_closed expr d sc r w h rec = rec w h.0
    part_closed stmt d sc r w h rec = rec w h.0

    -- the first site under a row is its own
    pub first-site : (d : ℕ) (sc : Scope) (r : ℕ) → r < n → Has (site d sc (node_at t r)) (sites_at t d sc r)
    first-site d sc r h = rw (sites-parts f d sc r h) (inl refl)

    -- so the row in a word stands among the sites under the word
    part-first : (g : Field) (s : Site) (sc : Scope) (r w : ℕ) → r < n → Holds t r w g → SameIfExpr g s.scope sc
        → PartIn t g w s (part t (suc s.depth) sc g w)
    part-first (within low high) s sc r w h is e = tt
    part-first expr s sc r w h is e = rw e (first-site (suc s.depth) s.scope w (omega (arith, is.0)))
    part-first stmt s sc r w h is e = (sc, first-site (suc s.depth) sc w (omega (arith, is.0)))

    -- the sites under a row are closed
    pub sites_closed : (m : ℕ) (d : ℕ) (sc : Scope) (r : ℕ) → r < m → r < n → Closed t n (sites_at t d sc r)
    sites_closed zero d sc r l h = absurd (omega arith)
    sites_closed (suc m) d sc r l h =
        let k = kind_at t r in
        let s = site d sc (node_at t r) in
        let g = fields f r h k refl in
        let sc2 = second t sc k r (word t r 1) (word t r 3) in
        let X = part t (suc d) sc (shape_of k).a (word t r 1) in
        let Y = part t (suc d) sc2 (shape_of k).b (word t r 2) in
        let Z = part t (suc d) sc (shape_of k).c (word t r 3) in
        let rec : (sc : Scope) (w : ℕ) → w < r → Closed t n (sites_at t (suc d) sc w) =
        λ sc w below. sites_closed m (suc d) sc w (omega arith) (omega arith) in
        let a_in = part-first (shape_of k).a s sc r (word t r 1) h g.a_is (same_self (shape_of k).a sc) in
        let b-in = part-first (shape_of k).b s sc2 r (word t r 2) h g.b_is (second-same t sc k r (word t r 1) (word t r 3)) in
        let c-in = part-first (shape_of k).c s sc r (word t r 3) h g.c_is (same_self (shape_of k).c sc) in
        rw (sites-parts f d sc r h)
        (closed_first s (X ++ (Y ++ Z)) (record {
          at = r;
          row = h;
          is = refl;
          a = part_more (shape_of k).a (word t r 1) s X (s ∷ X ++ (Y ++ Z)) (λ x i. inr (has_left x X (Y ++ Z) i)) a_in;
          b = part_more (shape_of k).b (word t r 2) s Y (s ∷ X ++ (Y ++ Z)) (λ x i. inr (has_right x X (Y ++ Z) (has_left x Y Z i))) b-in;
          c = part_more (shape_of k).c (word t r 3) s Z (s ∷ X ++ (Y ++ Z)) (λ x i. inr (has_right x X (Y ++ Z) (has_right x Y Z i))) c-in;
        })
        (closed_both X (Y ++ Z) (part_closed (shape_of k).a (suc d) sc r (word t r 1) g.a_is (rec sc))
        (closed_both Y Z (part_closed (shape_of k).b (suc d) sc2 r (word t r 2) g.b_is (rec sc2))
        (part_closed (shape_of k).c (suc d) sc r (word t r 3) g.c_is (rec sc)))))
