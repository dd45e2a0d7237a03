-- A table that passes checks 1 to 3, row by row: each row has one site, and every check of sites is a check of rows.
use Prim.Native.Nat.{ℕ, suc, ◌-◌, ◌<◌, ◌≤◌}
use mathlib.Core.Path.{◌≡◌, refl, sym, ap, subst, ◌∙◌}
use mathlib.Core.Logic.{inl, inr, ◌↔◌}
use mathlib.Core.Bool.{Bool, true, false, not, ◌||◌}
use mathlib.Core.List.{List, []}
use lib.Dec.{T, eqb, eqb→eq}
use borrow.Author.Tests.{ne_eqb}
use native.Mathlib.Omega.{arith}
use Rattle.words.specs.Words.{words}
use Rattle.rules.specs.Places.{failing_below}
use Rattle.rules.specs.Rows.{Kind, word, kind_at, Field, within, expr, stmt, shape_of, is_expr, is_stmt, uses, used_once}
use Rattle.rules.specs.Tree.{program}
use Rattle.rules.specs.Scope.{Scope}
use Rattle.rules.specs.Sites.{Site, site, row_n, failing}
use Rattle.rules.specs.Answers.{program_of, rows_of, sites_of, failing3}
use Rattle.rules.specs.Refusals.{In, Lowest}
use Rattle.rules.proofs.Places.{nothing_in, in_none, in_failing_below, none_below}
use Rattle.rules.proofs.Sites.{Each, none_failing}
use Rattle.rows.specs.Passed.{Passes}
use Rattle.rows.specs.ByRow.{node_at, site_at, depth_at, scope_at}
use Rattle.rows.specs.Heads.{bindings}
use Rattle.rows.proofs.Table.{passes_fewer, rows_some}
use Rattle.rows.proofs.Formed.{Formed, Holds, fields, formed, last_is_stmt, node_row}
use Rattle.rows.proofs.Parts.{sites_at, stmt_sites}
use Rattle.rows.proofs.Once.{times, rows_in, once}
use Rattle.rows.proofs.Bridge.{Has, each_has, has_each, site_of_has, has_site_of, has-failing, failing-has}
use Rattle.rows.proofs.Bridge.{PartIn, Fine, Closed, first-site, sites_closed}
use Rattle.rows.proofs.Parents.{some_parent, child_lower}
use Rattle.rows.specs.Children.{Place, IsChild}
use Rattle.rows.proofs.Size.{size_once, bindings-sites}

-- what a field of row r says of the row w that it holds: it is lower and one deeper, an expression in the same scope
abbrev pub Kid : List ℕ → Field → ℕ → ℕ → Type 0
Kid table (within low high) w r = Unit {0}
Kid table expr w r =
    (w < r) × T (is_expr (kind_at (words table) w)) × (scope_at table w ≡ scope_at table r) × (depth_at table w ≡ suc (depth_at table r))
Kid table stmt w r = (w < r) × T (is_stmt (kind_at (words table) w)) × (depth_at table w ≡ suc (depth_at table r))

-- the three words of row r, which is of kind k
pub record Kids (table : List ℕ) (r : ℕ) (k : Kind) : Type 0 where
  pub a : Kid table (shape_of k).a (word (words table) r 1) r
  pub b : Kid table (shape_of k).b (word (words table) r 2) r
  pub c : Kid table (shape_of k).c (word (words table) r 3) r

-- a row that a field of row q holds is one deeper
place_depth : (table : List ℕ) (f : Field) (w r q : ℕ) → Kid table f w q → Place f w r → depth_at table r ≡ suc (depth_at table q)
place_depth table (within low high) w r q k p = absurd p
place_depth table expr w r q k p = subst (λ (r : ℕ). depth_at table r ≡ suc (depth_at table q)) p k.3
place_depth table stmt w r q k p = subst (λ (r : ℕ). depth_at table r ≡ suc (depth_at table q)) p k.2

-- of two tests, where the first fails the second holds
other_holds : (a b : Bool) → a ≡ false → T (a || b) → T b
other_holds true b e h = let z : ◌≡◌ {A = ℕ} 0 1 = cc in absurd (omega arith)
other_holds false b e h = h

-- what is lowest in a list is so in a list with the same members
lowest-same : (p : ℕ) (xs ys : List ℕ) → ((q : ℕ) → In q xs ↔ In q ys) → Lowest p xs → Lowest p ys
lowest-same p xs ys same l = record { one_of = (same p).0 l.one_of; below_all = λ q i. l.below_all q ((same q).1 i) }

module _ (table : List ℕ) (ok : Passes 3 table) where
  -- its rows have their shapes, and there are some
  shapes : Formed (words table) (rows_of table)
  shapes = formed table (passes_fewer table 2 ok)

  some : 0 < rows_of table
  some = rows_some table (passes_fewer table 1 (passes_fewer table 2 ok))

  -- every row but the last is a child once
  used : (r : ℕ) → suc r < rows_of table → uses (words table) r (rows_of table) ≡ 1
  unfolding failing3 used_once
  used r h =
      let n = rows_of table in
      let count = uses (words table) r n in
      let one_of = none_below (used_once (words table) n) n ok.1.1.0 r (omega arith) in
      eqb→eq count 1 (other_holds (eqb (suc r) n) (eqb count 1) (ne_eqb (suc r) n (λ e. absurd (omega arith))) one_of)

  -- the table's sites are those under its last row
  sites_are : sites_of table ≡ sites_at (words table) 1 [] (rows_of table - 1)
  unfolding sites_of program_of program rows_of
  sites_are = stmt_sites (words table) 1 [] (rows_of table - 1) (last_is_stmt table (passes_fewer table 2 ok))

  -- each of them is that of a row, with the rows in its words among them
  closed : Closed (words table) (rows_of table) (sites_of table)
  closed =
      let last : rows_of table - 1 < rows_of table = omega (arith, some) in
      rw sites_are (sites_closed (words table) (rows_of table) shapes (rows_of table) 1 [] (rows_of table - 1) last last)

  -- every row stands once among the table's sites
  pub rows_once : (r : ℕ) → r < rows_of table → times r (rows_in (sites_of table)) ≡ 1
  rows_once r h = rw sites_are (once shapes 1 [] used (rows_of table) r h (omega arith))

  -- a site among them that is of row r is the site of row r
  the_site : (s : Site) (r : ℕ) → r < rows_of table → row_n s.node ≡ r → Has s (sites_of table) → site_at table r ≡ s
  unfolding site_at
  the_site s r h e i =
      subst (λ (q : ℕ). site_at table q ≡ s) e (site_of_has s (sites_of table) i (rw e (omega (arith, rows_once r h))))

  -- the site of a row is one of the table's sites
  pub site_there : (r : ℕ) → r < rows_of table → Has (site_at table r) (sites_of table)
  unfolding site_at
  site_there r h = (has_site_of (sites_of table) r (omega (arith, rows_once r h))).0

  -- and is of that row
  pub site_row : (r : ℕ) → r < rows_of table → row_n (site_at table r).node ≡ r
  unfolding site_at
  site_row r h = (has_site_of (sites_of table) r (omega (arith, rows_once r h))).1

  -- a fine site is of the row that it is said to be of
  fine_row : (s : Site) (g : Fine (words table) (rows_of table) s (sites_of table)) → row_n s.node ≡ g.at
  fine_row s g = ap (λ (x : Site). row_n x.node) g.is ∙ node_row shapes g.at g.row

  -- the site of a row is fine, at that row
  row_fine : (r : ℕ) → r < rows_of table → Fine (words table) (rows_of table) (site_at table r) (sites_of table)
  row_fine r h = closed (site_at table r) (site_there r h)

  row_at : (r : ℕ) (h : r < rows_of table) → (row_fine r h).at ≡ r
  row_at r h = sym (fine_row (site_at table r) (row_fine r h)) ∙ site_row r h

  -- at the site of a row stands what stands at the row
  pub site_is : (r : ℕ) → r < rows_of table → site_at table r ≡ site (depth_at table r) (scope_at table r) (node_at (words table) r)
  site_is r h = rw (row_at r h) at (row_fine r h).is

  -- every site is that of its row
  pub site_of_row : (s : Site) → Has s (sites_of table) → (row_n s.node < rows_of table) × (site_at table (row_n s.node) ≡ s)
  site_of_row s i =
      let g = closed s i in
      let below : row_n s.node < rows_of table = rw (fine_row s g) g.row in
      (below, the_site s (row_n s.node) below refl i)

  -- what holds of the site of every row holds of each site
  pub each_by_rows : (P : Site → Type 0) → ((r : ℕ) → r < rows_of table → P (site_at table r)) → Each P (sites_of table)
  each_by_rows P h =
      has_each P (sites_of table) (λ s i. let (below, is) = site_of_row s i in subst P is (h (row_n s.node) below))

  -- what holds of each site holds of the site of every row
  pub rows_by_each : (P : Site → Type 0) → Each P (sites_of table) → (r : ℕ) → r < rows_of table → P (site_at table r)
  rows_by_each P h r below = each_has P (sites_of table) h (site_at table r) (site_there r below)

  -- the rows that fail a test of sites are those whose site fails it
  pub in_failing : (test : Site → Bool) (p : ℕ) → In p (failing test (sites_of table)) ↔ ((p < rows_of table) × T (not (test (site_at table p))))
  in_failing test p = (there, back)
    where
      there : In p (failing test (sites_of table)) → (p < rows_of table) × T (not (test (site_at table p)))
      there i =
          let f = failing-has test p (sites_of table) i in
          let (below, is) = site_of_row f.at f.there in
          (rw f.row below, rw (f.row, is) f.fails)

      back : (p < rows_of table) × T (not (test (site_at table p))) → In p (failing test (sites_of table))
      back h = rw (site_row p h.0) at (has-failing test (site_at table p) (sites_of table) (site_there p h.0) h.1)

  -- a loop over the rows finds the same rows
  same-failing : (test : Site → Bool) (p : ℕ)
      → In p (failing_below (λ r. test (site_at table r)) (rows_of table)) ↔ In p (failing test (sites_of table))
  same-failing test p = (
    λ i. (in_failing test p).1 ((in_failing_below (λ r. test (site_at table r)) (rows_of table) p).0 i),
    λ i. (in_failing_below (λ r. test (site_at table r)) (rows_of table) p).1 ((in_failing test p).0 i),
  )

  -- the lowest row whose site fails is the lowest that fails
  pub by_rows_lowest : (test : Site → Bool) (p : ℕ) → Lowest p (failing_below (λ r. test (site_at table r)) (rows_of table))
      → Lowest p (failing test (sites_of table))
  by_rows_lowest test p =
      lowest-same p (failing_below (λ r. test (site_at table r)) (rows_of table)) (failing test (sites_of table)) (same-failing test)

  -- where no row's site fails, none fails
  pub by_rows_none : (test : Site → Bool) → failing_below (λ r. test (site_at table r)) (rows_of table) ≡ []
      → failing test (sites_of table) ≡ []
  by_rows_none test e =
      nothing_in (failing test (sites_of table))
      (λ p i. in_none p (failing_below (λ r. test (site_at table r)) (rows_of table)) e ((same-failing test p).1 i))

  -- where none fails, every row's site passes
  pub none_by_rows : (test : Site → Bool) → failing test (sites_of table) ≡ [] → (r : ℕ) → r < rows_of table → T (test (site_at table r))
  none_by_rows test e = rows_by_each (λ s. T (test s)) (none_failing test (sites_of table) e)

  -- the site of row w is where w was found
  found : (d : ℕ) (sc : Scope) (w : ℕ) → w < rows_of table → Has (site d sc (node_at (words table) w)) (sites_of table)
      → site_at table w ≡ site d sc (node_at (words table) w)
  found d sc w h = the_site (site d sc (node_at (words table) w)) w h (node_row shapes w h)

  -- a word of a row is as its field says
  kid_of : (f : Field) (w r : ℕ) → r < rows_of table → Holds (words table) r w f → PartIn (words table) f w (site_at table r) (sites_of table)
      → Kid table f w r
  kid_of (within low high) w r h is i = tt
  kid_of expr w r h is i =
      let s = found (suc (depth_at table r)) (scope_at table r) w (omega (arith, is.0)) i in
      (is.0, is.1, ap (λ (s : Site). s.scope) s, ap (λ (s : Site). s.depth) s)
  kid_of stmt w r h is i =
      let s = found (suc (depth_at table r)) i.0 w (omega (arith, is.0)) i.1 in
      (is.0, is.1, ap (λ (s : Site). s.depth) s)

  -- so are the three words
  pub kids : (r : ℕ) → r < rows_of table → (k : Kind) → kind_at (words table) r ≡ k → Kids table r k
  kids r h k e =
      let f = fields shapes r h k e in
      let g = row_fine r h in
      let d = row_at r h in
      record {
        a = kid_of (shape_of k).a (word (words table) r 1) r h f.a_is (rw e at (rw d at g.a));
        b = kid_of (shape_of k).b (word (words table) r 2) r h f.b_is (rw e at (rw d at g.b));
        c = kid_of (shape_of k).c (word (words table) r 3) r h f.c_is (rw e at (rw d at g.c));
      }

  -- the last row's site is the program
  last_site : site_at table (rows_of table - 1) ≡ site 1 [] (node_at (words table) (rows_of table - 1))
  last_site =
      let last : rows_of table - 1 < rows_of table = omega (arith, some) in
      found 1 [] (rows_of table - 1) last (rw sites_are (first-site (words table) (rows_of table) shapes 1 [] (rows_of table - 1) last))

  -- the last row is at depth 1
  pub last_depth : depth_at table (rows_of table - 1) ≡ 1
  last_depth = ap (λ (s : Site). s.depth) last_site

  -- and in the empty scope
  pub last_scope : scope_at table (rows_of table - 1) ≡ []
  last_scope = ap (λ (s : Site). s.scope) last_site

  -- every other row is the child of a higher one
  pub parent : (r : ℕ) → suc r < rows_of table → (q : ℕ) × ((q < rows_of table) × ((r < q) × IsChild (words table) r q))
  parent r h =
      let p = some_parent (words table) r (rows_of table) (omega (arith, used r h)) in
      let f = fields shapes p.0 p.1.0 (kind_at (words table) p.0) refl in
      (p.0, (p.1.0, (child_lower (words table) r p.0 (shape_of (kind_at (words table) p.0)) f p.1.1, p.1.1)))

  -- a child is one deeper than its parent
  pub child_depth : (r q : ℕ) → q < rows_of table → IsChild (words table) r q → depth_at table r ≡ suc (depth_at table q)
  child_depth r q h child = go (kids q h (kind_at (words table) q) refl) child
    where
      go : Kids table q (kind_at (words table) q) → IsChild (words table) r q → depth_at table r ≡ suc (depth_at table q)
      go k (inl a) = place_depth table (shape_of (kind_at (words table) q)).a (word (words table) q 1) r q k.a a
      go k (inr (inl b)) = place_depth table (shape_of (kind_at (words table) q)).b (word (words table) q 2) r q k.b b
      go k (inr (inr c)) = place_depth table (shape_of (kind_at (words table) q)).c (word (words table) q 3) r q k.c c

  -- a program binds no more names than its table has rows
  pub bindings_fit : bindings (program_of table) ≤ rows_of table
  unfolding sites_of
  bindings_fit =
      let below = has_each (λ s. row_n s.node < rows_of table) (sites_of table) (λ s i. (site_of_row s i).0) in
      omega (arith, size_once (rows_of table) (sites_of table) below rows_once, bindings-sites (program_of table) 1 [])
