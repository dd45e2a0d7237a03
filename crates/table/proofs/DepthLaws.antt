-- Check 4 from the last row down: each row's depth is noted before the row is reached.
use Prim.Native.Nat.{ℕ, zero, suc, ◌+◌, ◌-◌, ◌≤◌, ◌<◌}
use mathlib.Core.Path.{◌≡◌, refl, sym, ap, subst, ◌∙◌}
use mathlib.Core.Logic.{◌⊎◌, inl, inr}
use mathlib.Core.List.{List}
use lib.Dec.{leb}
use lib.ListN.{length, get_or, set, replicate, length-set, length-replicate}
use lib.Seq.{get_or-set_same}
use native.Mathlib.Decide.{dec_le, ℕ_discrete}
use native.Mathlib.Omega.{arith}
use Rattle.std.proofs.lemmas.Grind.{common_steps}
use Rattle.std.specs.Prelude.{Option, Some, None}
use Rattle.words.specs.Words.{words}
use Rattle.rules.specs.Rows.{word, kind_at, Field, within, expr, stmt, Shape, shape_of}
use Rattle.rules.specs.Sites.{check4}
use Rattle.rules.specs.Answers.{rows_of}
use Rattle.rows.specs.Passed.{Passes, In}
use Rattle.rows.specs.ByRow.{site_at, depth_at}
use Rattle.rows.specs.Children.{Place, IsChild}
use Rattle.rows.proofs.Table.{passes_fewer, rows_some, rows_few, rows_in_lem}
use Rattle.rows.proofs.Formed.{Holds, Fields, fields, formed}
use Rattle.rows.proofs.ByRows.{parent, child_depth, last_depth}
use Rattle.table.specs.declared.row.Row.{Row}
use Rattle.table.specs.declared.depths.Depths.{Depths}
use Rattle.table.specs.declared.shapes.RowWords.{RowWords}
use Rattle.table.specs.Shapes.{as_field, child_in, children, row_words}
use Rattle.table.specs.Depths.{CanSink, sunk, Sinking}

module _ (table : List ℕ) (ok : Passes 3 table) where
  -- a table that passes check 3 passes check 1
  pub passes-first : Passes 1 table
  passes-first = passes_fewer table 1 (passes_fewer table 2 ok)

  -- so it has rows, and at most 1,024
  pub rows_between : (0 < rows_of table) × (rows_of table ≤ 1024)
  rows_between = (rows_some table passes-first, rows_few table passes-first)

  -- a row is the last, or the child of a higher one
  last_or_child : (r : ℕ) → r < rows_of table
      → (r ≡ rows_of table - 1) ⊎ ((q : ℕ) × ((q < rows_of table) × ((r < q) × IsChild (words table) r q)))
  last_or_child r h = elim (dec_le (suc (suc r)) (rows_of table)) [ yes l ↦ inr (parent table ok r l) | no l ↦ inl (omega arith) ]

  -- a row's depth and its number are together at most the number of rows: a parent is higher, and its child only one deeper
  deep_and_high : (d r : ℕ) → r < rows_of table → rows_of table ≤ r + d → depth_at table r + r ≤ rows_of table
  deep_and_high zero r h far = absurd (omega arith)
  deep_and_high (suc d) r h far = elim (last_or_child r h) [
    | inl e ↦ omega (arith, ap (depth_at table) e, last_depth table ok)
    | inr (q, (below, (higher, child))) ↦ omega (arith, child_depth table ok r q below child, deep_and_high d q below (omega arith))
  ]

  -- so no row is deeper than there are rows
  depth_few : (r : ℕ) → r < rows_of table → depth_at table r ≤ rows_of table
  depth_few r h = omega (arith, deep_and_high (rows_of table) r h (omega arith))

-- a child that is put at a depth is there, and what stood elsewhere stays
sunk_at : (xs : List ℕ) (f : Field) (w d r x : ℕ) → CanSink (child_in (as_field f) w) → length xs ≡ 1024 → (Place f w r → d ≡ x)
    → (get_or xs r 0 ≡ x) ⊎ Place f w r → get_or (sunk xs (child_in (as_field f) w) d) r 0 ≡ x
sunk_at xs (within low high) w d r x can long same (inl e) = e
sunk_at xs (within low high) w d r x can long same (inr p) = absurd p
sunk_at xs expr w d r x can long same before = grind (arith, common_steps)
sunk_at xs stmt w d r x can long same before = grind (arith, common_steps)

-- the list stays as long as it is
sunk_long : (xs : List ℕ) (child : Option Row) (d : ℕ) → length (sunk xs child d) ≡ length xs
sunk_long xs None d = refl
sunk_long xs (Some child) d = length-set xs child.0 d

-- a child is lower than its row, so it is in the list where the row is
can_sink : (t : List ℕ) (r w : ℕ) (f : Field) → Holds t r w f → r < 1024 → CanSink (child_in (as_field f) w)
can_sink t r w (within low high) is h = tt
can_sink t r w expr is h = omega (arith, is.0)
can_sink t r w stmt is h = omega (arith, is.0)

-- where the children of each row from i on are noted, so is each row that is not below the row under i: it is the last, or a child
pub depth_noted : {depths : Depths} {i : ℕ} → Sinking depths i → (r : ℕ) → i ≤ r + 1 → r < rows_of depths.table.now
    → get_or depths.depths r 0 ≡ depth_at depths.table.now r
depth_noted {depths} sinking r from h =
    let table = depths.table.now in
    elim (last_or_child table sinking.passes r h) [
      | inl e ↦ ap (λ (r : ℕ). get_or depths.depths r 0) e ∙ (sinking.last ∙ (sym (last_depth table sinking.passes) ∙ sym (ap (depth_at table) e)))
      | inr (q, (below, (higher, child))) ↦ sinking.children r q (omega arith) below child
    ]

-- row r is the child in one of the first k words of row q
abbrev IsChildTo : List ℕ → ℕ → ℕ → ℕ → Type 0
IsChildTo t r q zero = ⊥
IsChildTo t r q (suc zero) = Place (shape_of (kind_at t q)).a (word t q 1) r
IsChildTo t r q (suc (suc zero)) = Place (shape_of (kind_at t q)).a (word t q 1) r ⊎ Place (shape_of (kind_at t q)).b (word t q 2) r
IsChildTo t r q (suc (suc (suc k))) = IsChild t r q

-- after `before`, the children in the first k words of row q are noted
pub record SunkTo (before depths : Depths) (q k : ℕ) : Type 0 where
  pub same : depths.table ≡ before.table
  pub long : length depths.depths ≡ 1024
  pub noted : (r : ℕ) → (get_or before.depths r 0 ≡ depth_at before.table.now r) ⊎ IsChildTo (words before.table.now) r q k
      → get_or depths.depths r 0 ≡ depth_at before.table.now r

-- at first, none
pub sunk_none : (before : Depths) (q : ℕ) → length before.depths ≡ 1024 → SunkTo before before q 0
sunk_none before q long = record { same = refl; long = long; noted = λ r found. elim found [ inl e ↦ e | inr p ↦ absurd p ] }

-- row i, whose parent is passed
module _ {before : Depths} {i : ℕ} (sinking : Sinking before (i + 1)) (h : i < rows_of before.table.now) where
  abbrev table : List ℕ
  table = before.table.now

  abbrev row : RowWords
  row = row_words (words table) i

  abbrev s : Shape
  s = shape_of (kind_at (words table) i)

  -- it is in the list,
  in_list : i < 1024
  in_list = omega (arith, rows_between table sinking.passes)

  -- and in the table's bytes
  pub in_table : In table i
  in_table = rows_in_lem table (passes-first table sinking.passes) i h

  -- one more than its depth fits 32 bits
  pub one_more_fits : get_or before.depths i 0 + 1 < 4294967296
  one_more_fits =
      omega (arith, depth_noted sinking i (omega arith) h, depth_few table sinking.passes i h, rows_between table sinking.passes)

  -- its words are as its shape says
  holds : Fields (words table) i row.a row.b row.c s
  holds = fields (formed table (passes_fewer table 2 sinking.passes)) i h (kind_at (words table) i) refl

  -- so the child in each can be put at a depth,
  can : (k : ℕ) → k < 3 → CanSink (get_or (children row) k None)
  can zero less = can_sink (words table) i row.a s.a holds.a_is in_list
  can (suc zero) less = can_sink (words table) i row.b s.b holds.b_is in_list
  can (suc (suc zero)) less = can_sink (words table) i row.c s.c holds.c_is in_list
  can (suc (suc (suc k))) less = absurd (omega arith)

  pub can_next : (k : ℕ) → k < 3 → {items : List (Option Row)} → items ≡ children row → CanSink (get_or items k None)
  can_next k less is = rw is (can k less)

  -- one deeper than row i,
  deeper : (r : ℕ) → IsChild (words table) r i → get_or before.depths i 0 + 1 ≡ depth_at table r
  deeper r child = omega (arith, depth_noted sinking i (omega arith) h, child_depth table sinking.passes r i h child)

  -- and is then noted with those before
  pub sinks_next : {depths after : Depths} (k : ℕ) → k < 3 → SunkTo before depths i k → {items : List (Option Row)} → items ≡ children row
      → after.table ≡ depths.table → after.depths ≡ sunk depths.depths (get_or items k None) (get_or before.depths i 0 + 1) → SunkTo before after i (k + 1)
  sinks_next {depths} {after} k less so_far {items} is same now = record {
    same = same ∙ so_far.same;
    long = ap length now ∙ (sunk_long depths.depths (get_or items k None) (get_or before.depths i 0 + 1) ∙ so_far.long);
    noted = λ r at_r. rw (now, is) (at k less so_far.noted r at_r);
  }
    where
      put : (f : Field) (w r : ℕ) → Holds (words table) i w f → (Place f w r → IsChild (words table) r i)
          → (get_or depths.depths r 0 ≡ depth_at table r) ⊎ Place f w r
          → get_or (sunk depths.depths (child_in (as_field f) w) (get_or before.depths i 0 + 1)) r 0 ≡ depth_at table r
      put f w r is child = sunk_at depths.depths f w (get_or before.depths i 0 + 1) r (depth_at table r)
          (can_sink (words table) i w f is in_list) so_far.long (λ p. deeper r (child p))

      at : (k : ℕ) → k < 3
          → ((r : ℕ) → (get_or before.depths r 0 ≡ depth_at table r) ⊎ IsChildTo (words table) r i k → get_or depths.depths r 0 ≡ depth_at table r)
          → (r : ℕ) → (get_or before.depths r 0 ≡ depth_at table r) ⊎ IsChildTo (words table) r i (k + 1)
          → get_or (sunk depths.depths (get_or (children row) k None) (get_or before.depths i 0 + 1)) r 0 ≡ depth_at table r
      at zero less noted r (inl e) = put s.a row.a r holds.a_is (λ p. inl p) (inl (noted r (inl e)))
      at zero less noted r (inr p) = put s.a row.a r holds.a_is (λ p. inl p) (inr p)
      at (suc zero) less noted r (inl e) = put s.b row.b r holds.b_is (λ p. inr (inl p)) (inl (noted r (inl e)))
      at (suc zero) less noted r (inr (inl p)) = put s.b row.b r holds.b_is (λ p. inr (inl p)) (inl (noted r (inr p)))
      at (suc zero) less noted r (inr (inr p)) = put s.b row.b r holds.b_is (λ p. inr (inl p)) (inr p)
      at (suc (suc zero)) less noted r (inl e) = put s.c row.c r holds.c_is (λ p. inr (inr p)) (inl (noted r (inl e)))
      at (suc (suc zero)) less noted r (inr (inl p)) = put s.c row.c r holds.c_is (λ p. inr (inr p)) (inl (noted r (inr (inl p))))
      at (suc (suc zero)) less noted r (inr (inr (inl p))) = put s.c row.c r holds.c_is (λ p. inr (inr p)) (inl (noted r (inr (inr p))))
      at (suc (suc zero)) less noted r (inr (inr (inr p))) = put s.c row.c r holds.c_is (λ p. inr (inr p)) (inr p)
      at (suc (suc (suc k))) less noted r now = absurd (omega arith)

  -- with the children in its three words noted, those of every row from i on are
  pub children-noted : {depths : Depths} {k : ℕ} → SunkTo before depths i k → k ≡ 3 → Sinking depths i
  children-noted {depths} noted_all end = let all : SunkTo before depths i 3 = rw end at noted_all in record {
    passes = rw all.same sinking.passes;
    last = rw all.same (all.noted (rows_of table - 1) (inl (sinking.last ∙ sym (last_depth table sinking.passes))) ∙ last_depth table sinking.passes);
    children = rw all.same (λ r q from below child. all.noted r (elim (ℕ_discrete q i) [
      | yes e ↦ inr (subst (IsChild (words table) r) e child)
      | no ne ↦ inl (sinking.children r q (omega arith) below child)
    ]));
  }

-- with the last row at 1, the children of no row are noted
pub sinking_none : {depths : Depths} → Passes 3 depths.table.now → (n : ℕ) → n ≡ rows_of depths.table.now
    → depths.depths ≡ set (replicate 1024 0) (n - 1) 1 → Sinking depths (rows_of depths.table.now)
sinking_none {depths} ok n e is =
    let none = replicate {A = ℕ} 1024 0 in
    let long = length-replicate {A = ℕ} 1024 0 in
    record {
      passes = ok;
      last = rw (is, ← e) (get_or-set_same none (n - 1) 1 0 (omega (arith, rows_between depths.table.now ok, long)));
      children = λ r q from below child. absurd (omega arith);
    }

-- with the children of every row noted, what is noted of a row says whether it passes check 4
pub depth_passes : {depths : Depths} → Sinking depths 0 → (r : ℕ) → r < rows_of depths.table.now
    → leb (get_or depths.depths r 0) 64 ≡ check4 (site_at depths.table.now r)
unfolding check4
depth_passes sinking r h = rw (depth_noted sinking r (omega arith) h)
