-- Check 3 in code: counting how often each row is a child, word by word and row by row.
use Prim.Native.Nat.{ℕ, zero, suc, ◌+◌, ◌*◌, ◌≤◌, ◌<◌}
use mathlib.Core.Path.{◌≡◌, refl, ap, ◌∙◌}
use mathlib.Core.Bool.{◌||◌}
use mathlib.Core.List.{List}
use lib.Dec.{eqb}
use lib.ListN.{length, get_or, length-set, replicate, get_or-replicate}
use native.Mathlib.Numerals.{add-one}
use native.Mathlib.Omega.{arith}
use Rattle.std.proofs.lemmas.Grind.{common_steps}
use Rattle.std.specs.Prelude.{Option, Some, None}
use Rattle.words.specs.Words.{words}
use Rattle.rules.specs.Rows.{Row, word, kind_at, Field, within, expr, stmt, Shape, shape_of, child_of, children_in, uses, used_once}
use Rattle.rules.specs.Answers.{rows_of}
use Rattle.rows.specs.Passed.{Passes, In}
use Rattle.rows.proofs.Table.{passes_fewer, rows_few, rows_in_lem}
use Rattle.rows.proofs.Formed.{Holds, Fields, fields, formed}
use Rattle.table.specs.declared.row.Row as code
use Rattle.table.specs.declared.uses.Tally.{Tally}
use Rattle.table.specs.declared.shapes.RowWords.{RowWords}
use Rattle.table.specs.Shapes.{as_field, child_in, children, row_words}
use Rattle.table.specs.Uses.{counted, CanCount, Tallied}

-- a word is the place of a row once or not at all
child_few : (r : Row) (w : ℕ) (f : Field) → child_of r w f ≤ 1
unfolding child_of
child_few r w (within low high) = omega arith
child_few r w expr = grind arith
child_few r w stmt = grind arith

-- so q rows have at most three times q places of it
uses_few : (t : List ℕ) (r q : ℕ) → uses t r q ≤ 3 * q
unfolding uses children_in
uses_few t r zero = omega arith
uses_few t r (suc q) =
    let s = shape_of (kind_at t q) in
    omega (arith, uses_few t r q, child_few r (word t q 1) s.a, child_few r (word t q 2) s.b, child_few r (word t q 3) s.c)

-- The rows below q are counted.
module _ {tally : Tally} {q : Row} (so_far : Tallied tally q) where
  first : Passes 1 tally.table.now
  first = passes_fewer tally.table.now 1 so_far.passes

  -- there are at most as many rows as counters,
  pub few : rows_of tally.table.now ≤ 1024
  few = rows_few tally.table.now first

  -- and each row lies in the table's bytes
  pub in_table : (r : Row) → r < rows_of tally.table.now → In tally.table.now r
  in_table = rows_in_lem tally.table.now first

-- a child is counted among as many counters
counted_long : (xs : List ℕ) (child : Option code.Row) → length (counted xs child) ≡ length xs
counted_long xs None = refl
counted_long xs (Some child) = length-set xs child.0 _

-- the places of row r in the rows below q and in the first k words of row q
abbrev uses_to : List ℕ → Row → ℕ → Row → ℕ
uses_to t q zero r = uses t r q
uses_to t q (suc zero) r = uses t r q + child_of r (word t q 1) (shape_of (kind_at t q)).a
uses_to t q (suc (suc zero)) r =
    let s = shape_of (kind_at t q) in uses t r q + child_of r (word t q 1) s.a + child_of r (word t q 2) s.b
uses_to t q (suc (suc (suc k))) r =
    let s = shape_of (kind_at t q) in uses t r q + child_of r (word t q 1) s.a + child_of r (word t q 2) s.b + child_of r (word t q 3) s.c

-- from `before`, where the rows below q are counted, the first k words of row q are counted too
pub record CountedTo (before tally : Tally) (q k : ℕ) : Type 0 where
  pub same : tally.table ≡ before.table
  pub long : length tally.uses ≡ 1024
  pub are : (r : ℕ) → r < 1024 → get_or tally.uses r 0 ≡ uses_to (words before.table.now) q k r

-- row q is next
module _ {before : Tally} {q : Row} (so_far : Tallied before q) (more : q < rows_of before.table.now) where
  abbrev t : List ℕ
  t = words before.table.now

  abbrev row : RowWords
  row = row_words t q

  abbrev s : Shape
  s = shape_of (kind_at t q)

  -- each of its words is as its field says
  says : Fields t q row.a row.b row.c s
  says = fields (formed before.table.now so_far.passes) q more (kind_at t q) refl

  -- with these numbers counted, the child in a word of the row can be counted, and is then one place more
  word_next : (xs : List ℕ) (numbers : ℕ → ℕ) (f : Field) (w : ℕ) → Holds t q w f → length xs ≡ 1024 → ((r : ℕ) → numbers r ≤ 3 * q + 2)
      → ((r : ℕ) → r < 1024 → get_or xs r 0 ≡ numbers r)
      → CanCount xs (child_in (as_field f) w) × ((r : ℕ) → r < 1024 → get_or (counted xs (child_in (as_field f) w)) r 0 ≡ numbers r + child_of r w f)
  unfolding child_of
  word_next xs numbers (within l h) w holds long small are = (tt, λ r below. omega (arith, are r below))
  word_next xs numbers expr w holds long small are =
      let low : w < 1024 = omega (arith, holds.0, more, few so_far) in
      ((low, omega (arith, more, few so_far, are w low, small w)), λ r below. grind (arith, common_steps, low, long, are r below))
  word_next xs numbers stmt w holds long small are =
      let low : w < 1024 = omega (arith, holds.0, more, few so_far) in
      ((low, omega (arith, more, few so_far, are w low, small w)), λ r below. grind (arith, common_steps, low, long, are r below))

  -- the child in word k can be counted, and is then counted with those before,
  word_k : (xs : List ℕ) (k : ℕ) → k < 3 → length xs ≡ 1024 → ((r : ℕ) → r < 1024 → get_or xs r 0 ≡ uses_to t q k r)
      → CanCount xs (get_or (children row) k None)
      × ((r : ℕ) → r < 1024 → get_or (counted xs (get_or (children row) k None)) r 0 ≡ uses_to t q (k + 1) r)
  word_k xs zero less long are = word_next xs (uses_to t q 0) s.a row.a says.a_is long (λ r. omega (arith, uses_few t r q)) are
  word_k xs (suc zero) less long are =
      word_next xs (uses_to t q 1) s.b row.b says.b_is long (λ r. omega (arith, uses_few t r q, child_few r row.a s.a)) are
  word_k xs (suc (suc zero)) less long are =
      word_next xs (uses_to t q 2) s.c row.c says.c_is long (λ r. omega (arith, uses_few t r q, child_few r row.a s.a, child_few r row.b s.b)) are
  word_k xs (suc (suc (suc k))) less long are = absurd (omega arith)

  module _ {tally : Tally} {k : ℕ} (partly : CountedTo before tally q k) (less : k < 3) {items : List (Option code.Row)} (is : items ≡ children row) where
    pub can_next : CanCount tally.uses (get_or items k None)
    can_next = rw is (word_k tally.uses k less partly.long partly.are).0

    pub counted_next : {after : Tally} → after.table ≡ tally.table → after.uses ≡ counted tally.uses (get_or items k None) → CountedTo before after q (k + 1)
    counted_next {after} same now = record {
      same = same ∙ partly.same;
      long = ap length now ∙ (counted_long tally.uses (get_or items k None) ∙ partly.long);
      are = rw (now, is) (word_k tally.uses k less partly.long partly.are).1;
    }

  -- what the three count is what the rows up to q use
  in_all : (r : Row) → uses_to t q 3 r ≡ uses t r (q + 1)
  unfolding uses children_in
  in_all r = rw (add-one q) (omega arith)

  -- so with the three counted, the rows up to q are
  pub row_tallied : {tally : Tally} {k : ℕ} → CountedTo before tally q k → k ≡ 3 → Tallied tally (q + 1)
  row_tallied {tally} counted_all end =
      let all : CountedTo before tally q 3 = rw end at counted_all in
      record { passes = rw all.same so_far.passes; are = λ r below. rw all.same (all.are r below ∙ in_all r) }

-- before any row nothing is counted
pub tallied_none : {tally : Tally} → Passes 2 tally.table.now → tally.uses ≡ replicate 1024 0 → Tallied tally 0
unfolding uses
tallied_none {tally} ok none = record { passes = ok; are = λ r below. rw none (get_or-replicate {A = ℕ} 1024 r 0 0 below) }

-- with all rows counted, a row's counter says whether it passes check 3
pub used_once_lem : {tally : Tally} {n : ℕ} → Tallied tally (rows_of tally.table.now) → n ≡ rows_of tally.table.now → (r : Row) → r < n
    → (eqb (r + 1) n || eqb (get_or tally.uses r 0) 1) ≡ used_once (words tally.table.now) n r
unfolding used_once
used_once_lem tallied all r more =
    let below : r < 1024 = omega (arith, few tallied) in
    rw (add-one r, tallied.are r below, ← all)
