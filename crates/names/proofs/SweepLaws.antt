-- The walk of check 5: sites that have been looked at one after another.
use Prim.Native.Nat.{ℕ, suc, ◌+◌, ◌*◌, ◌≤◌, ◌<◌, min}
use mathlib.Core.Path.{◌≡◌, refl, sym, ap, ◌∙◌}
use mathlib.Core.Logic.{inl, inr}
use mathlib.Core.Bool.{Bool, true, false}
use mathlib.Core.List.{List, [], ◌∷◌, ◌++◌, append-nil, append_assoc}
use lib.ListN.{set}
use native.Mathlib.Omega.{arith}
use Rattle.std.specs.Prelude.{Option, Some, None, IfSome, MatchOption}
use Rattle.std.proofs.lemmas.Bool.{cases_lt}
use Rattle.std.proofs.lemmas.List.Elements.{All-append, All-cons, All-nil}
use Rattle.words.specs.Words.{words}
use Rattle.rules.specs.Places.{fault}
use Rattle.rules.specs.Rows as rules
use Rattle.rules.specs.Rows.{word, kind_at, shape_of, is_expr}
use Rattle.rules.specs.Sites.{Site, site, row_n, failing}
use Rattle.rules.specs.Names.{check5}
use Rattle.rules.specs.Refusals.{In, Lowest}
use Rattle.rules.proofs.Places.{in_either, in_left, in_right, in_none}
use Rattle.rows.specs.Passed as rows
use Rattle.rows.specs.ByRow.{node_at}
use Rattle.rows.specs.Heads.{heads}
use Rattle.rows.proofs.Table.{passes_fewer, rows_few, rows_whole, rows_in_lem}
use Rattle.rows.proofs.Formed.{Holds, fields, formed, node_row}
use Rattle.rows.proofs.Heads.{expr_heads}
use Rattle.table.specs.declared.row.Row.{Row}
use Rattle.table.specs.declared.shapes.Field.{Field}
use Rattle.table.specs.declared.shapes.Field.TheVariants.{Within, Child}
use Rattle.table.specs.declared.shapes.Sort.TheVariants.{Expr, Stmt}
use Rattle.table.specs.declared.shapes.RowWords.{RowWords}
use Rattle.table.specs.Shapes.{as_field, row_words}
use Rattle.table.specs.Meaning.{meaning_at}
use Rattle.table.proofs.RowShapeLaws.{meant_field_lem}
use Rattle.names.specs.declared.naming.Naming.{Naming}
use Rattle.names.specs.declared.scope.Walk.{Walk}
use Rattle.names.specs.Naming.{naming_of, passes_by}
use Rattle.names.specs.Declares.{found_by, known_by}
use Rattle.names.specs.Stack.{scope_of, binder_in, Stacked}
use Rattle.names.specs.Sweep.{binder_of, stands_for, noted, InTable, LowestOf, Swept}
use Rattle.names.specs.Walk.{words_of, scope_in, row_sites, head_sites, part_sites, CanLook, CanPart, Looked}
use Rattle.names.proofs.NamingLaws.{named_by, name_at, check5_at, row_known}
use Rattle.names.proofs.SearchLaws.{known_found, found_inside}

-- Lists of sites.

-- the failing rows of two lists after one another are those of the first and those of the second
failing-append : (ok : Site → Bool) (xs ys : List Site) → failing ok (xs ++ ys) ≡ failing ok xs ++ failing ok ys
unfolding failing
failing-append ok [] ys = refl
failing-append ok (x ∷ xs) ys =
    rw (failing-append ok xs ys) (sym (append_assoc (fault (ok x) (row_n x.node)) (failing ok xs) (failing ok ys)))

-- the names of two lists are noted one list after the other
noted-append : (xs ys : List Site) (binders : List (Option Row)) → noted (xs ++ ys) binders ≡ noted ys (noted xs binders)
unfolding noted
noted-append [] ys binders = refl
noted-append (x ∷ xs) ys binders = noted-append xs ys _

-- two lists of sites are swept one after the other
pub swept_append : {table : List ℕ} {xs ys : List Site} {b b' b'' : List (Option Row)} {l l' l'' : Option Row}
    → Swept table xs b b' l l' → Swept table ys b' b'' l' l'' → Swept table (xs ++ ys) b b'' l l''
swept_append {table} {xs} {ys} {b} one two = record {
  finds = λ ps found. rw (failing-append check5 xs ys, ← append_assoc ps (failing check5 xs) (failing check5 ys))
      (two.finds (ps ++ failing check5 xs) (one.finds ps found));
  noted_is = two.noted_is ∙ rw (noted-append xs ys b) (ap (noted ys) one.noted_is);
  in_table = All-append (λ s. InTable table (stands_for s)) xs ys one.in_table two.in_table;
}

-- One row more that fails.

-- what is below some places and below r is below all of them with r
below_more : (p r : ℕ) (ps : List ℕ) → ((q : ℕ) → In q ps → p ≤ q) → p ≤ r → (q : ℕ) → In q (ps ++ r ∷ []) → p ≤ q
below_more p r ps below l q i = elim (in_either q ps (r ∷ []) i) [
  | inl j ↦ below q j
  | inr (inl e) ↦ omega arith
  | inr (inr j) ↦ absurd j
]

-- the lowest of failing rows is, with one row more, the smaller of the two, or the row where none failed before
pub lowest_more : (lowest : Option Row) (row least : Row) → MatchOption lowest (least ≡ row) (λ other. least.0 ≡ min other.0 row.0)
    → (ps : List ℕ) → LowestOf ps lowest → Lowest least.0 (ps ++ row.0 ∷ [])
lowest_more None row least same ps none =
    rw same (record {
      one_of = in_right row.0 ps (row.0 ∷ []) (inl refl);
      below_all = below_more row.0 row.0 ps (λ q i. absurd (in_none q ps none i)) (omega arith);
    })
lowest_more (Some other) row least smaller ps low = record {
  one_of = elim (cases_lt other.0 row.0) [
    | inl l ↦ let same : least.0 ≡ other.0 = omega arith in rw same (in_left other.0 ps (row.0 ∷ []) low.one_of)
    | inr l ↦ let same : least.0 ≡ row.0 = omega arith in rw same (in_right row.0 ps (row.0 ∷ []) (inl refl))
  ];
  below_all = below_more least.0 row.0 ps (λ q i. omega (arith, low.below_all q i)) (omega arith);
}

-- What is found of a row.

module _ (t : List ℕ) (stack : List Row) where
  -- the row that is found binds what the name in the row stands for
  stands_binder : (naming : Option Naming) → found_by (scope_of t stack) (named_by naming) ≡ known_by t (binder_in t stack naming)
  stands_binder None = refl
  stands_binder (Some naming) = sym (known_found t stack naming.name)

-- it is noted as what stands for the name
binder_known : (t : List ℕ) (binder : Option Row) → binder_of (known_by t binder) ≡ binder
binder_known t None = refl
binder_known t (Some row) = ap (λ (r : ℕ). Some (record { 0 = r })) (row_known t row.0)

-- it lies in the table
pub binder_inside : (table : List ℕ) (stack : List Row) (naming : Option Naming) → Stacked table stack
    → IfSome (binder_in (words table) stack naming) (λ row. rows.In table row.0)
binder_inside table stack None stacked = tt
binder_inside table stack (Some naming) stacked = found_inside table stack naming.name stacked

-- and is what the table says at it
binder_in_table : (table : List ℕ) (binder : Option Row) → rows.Passes 1 table → IfSome binder (λ row. rows.In table row.0)
    → InTable table (known_by (words table) binder)
binder_in_table table None ok there = tt
binder_in_table table (Some row) ok there = rw (row_known (words table) row.0) (omega (arith, rows_whole table ok), refl)

-- A row that can be looked at, what it does with a name, and the row that is found for that name in a stack.
module _ {walk : Walk} {row : ℕ} (can : CanLook walk row) {naming : Option Naming} (is : naming ≡ naming_of (meaning_at (words_of walk) row))
    {stack : List Row} (same : stack ≡ walk.scope.items) {binder : Option Row} (found : binder ≡ binder_in (words_of walk) stack naming)
  where
    -- the table's words
    abbrev t : List ℕ
    t = words_of walk

    -- the row's name stands for what is found
    stands_is : found_by (scope_in walk) (named_by naming) ≡ known_by t binder
    stands_is = rw (← same, found) (stands_binder t stack naming)

    -- what is found lies in the table
    pub found_in_table : IfSome binder (λ row. rows.In walk.table.now row.0)
    found_in_table = rw found (binder_inside walk.table.now stack naming (rw same can.stacked))

    -- check 5 of the row is that of what is found
    check_is : (d : ℕ) → check5 (site d (scope_in walk) (node_at t row)) ≡ passes_by naming (known_by t binder)
    check_is d =
        check5_at (formed walk.table.now can.passes) row can.there d (scope_in walk)
        ∙ rw (← is) (ap (passes_by naming) stands_is)

    -- looking at a row sweeps its site: noted is the row that is found, and the row fails where check 5 of what is found does
    swept_row : (d : ℕ) {lowest : Option Row}
        → ((ps : List ℕ) → LowestOf ps walk.lowest → LowestOf (ps ++ fault (passes_by naming (known_by t binder)) row) lowest)
        → Swept walk.table.now (row_sites walk row d) walk.binders.now (set walk.binders.now row binder) walk.lowest lowest
    unfolding failing noted
    swept_row d finds =
        let shaped = formed walk.table.now can.passes in
        let at_row = node_row shaped row can.there in
        let name_is = name_at shaped row can.there in
        record {
          finds = λ ps before. rw (check_is d, at_row, append-nil) (finds ps before);
          noted_is = rw (at_row, name_is, ← is, stands_is, binder_known t binder) refl;
          in_table = All-cons (λ s. InTable walk.table.now (stands_for s)) (site d (scope_in walk) (node_at t row)) []
              (rw (name_is, ← is, stands_is) (binder_in_table walk.table.now binder (passes_fewer walk.table.now 1 can.passes) found_in_table))
              (All-nil (λ s. InTable walk.table.now (stands_for s)));
        }

    -- a row that passes leaves the lowest
    pub swept_passing : (d : ℕ) → passes_by naming (known_by t binder) ≡ true
        → Swept walk.table.now (row_sites walk row d) walk.binders.now (set walk.binders.now row binder) walk.lowest walk.lowest
    unfolding fault
    swept_passing d passes = swept_row d λ ps before. rw (passes, append-nil) before

    -- a row that fails counts towards the lowest
    pub swept_failing : (d : ℕ) {lowest : Option Row} → passes_by naming (known_by t binder) ≡ false
        → ((ps : List ℕ) → LowestOf ps walk.lowest → LowestOf (ps ++ row ∷ []) lowest)
        → Swept walk.table.now (row_sites walk row d) walk.binders.now (set walk.binders.now row binder) walk.lowest lowest
    unfolding fault
    swept_failing d fails finds = swept_row d λ ps before. rw fails (finds ps before)

-- The expressions in a row.

-- the measure of a word: where its field is an expression, it lies between that of the expression's row and those of higher rows
abbrev pub part_measure : ℕ → Field → ℕ
part_measure w (Child Expr) = 2 * w + 2
part_measure w _ = 0

-- a word of a row can be walked
pub record PartOf (walk : Walk) (row w : ℕ) (field : Field) : Type 0 where
  pub can : CanPart walk w field
  pub lower : part_measure w field < 2 * row + 1

-- A row that can be looked at lies in the table,
module _ {walk : Walk} {row : ℕ} (can : CanLook walk row) where
  pub look_in : rows.In walk.table.now row
  look_in = rows_in_lem walk.table.now (passes_fewer walk.table.now 1 can.passes) row can.there

  -- and its number is below 1,024.
  pub look_few : row < 1024
  look_few = omega (arith, rows_few walk.table.now (passes_fewer walk.table.now 1 can.passes), can.there)

  -- A row below it can be looked at too,
  look_lower : (w : ℕ) → w < row → CanLook walk w
  look_lower w lower = record { passes = can.passes; stacked = can.stacked; there = omega (arith, lower, can.there) }

  -- a word that is as its field says can be walked,
  part_of : (w : ℕ) (f : rules.Field) → Holds (words_of walk) row w f → PartOf walk row w (as_field f)
  part_of w (rules.within low high) h = record { can = tt; lower = omega arith }
  part_of w rules.expr h = record { can = (look_lower w h.0, h.1); lower = omega (arith, h.0) }
  part_of w rules.stmt h = record { can = tt; lower = omega arith }

  -- and so can the three of the row.
  pub parts : {read : RowWords} → read ≡ row_words (words_of walk) row
      → PartOf walk row read.a read.shape.a × PartOf walk row read.b read.shape.b × PartOf walk row read.c read.shape.c
  parts is =
      let t = words_of walk in
      let k = shape_of (kind_at t row) in
      let says = fields (formed walk.table.now can.passes) row can.there (kind_at t row) refl in
      rw is (part_of (word t row 1) k.a says.a_is, part_of (word t row 2) k.b says.b_is, part_of (word t row 3) k.c says.c_is)

-- a row and then the expressions in its words are its heads
heads_are : (walk : Walk) (row : ℕ) {read : RowWords} → read ≡ row_words (words_of walk) row → (d : ℕ)
    → row_sites walk row d ++ (part_sites walk read.shape.a read.a d ++ (part_sites walk read.shape.b read.b d ++ part_sites walk read.shape.c read.c d))
    ≡ head_sites walk row d
unfolding heads
heads_are walk row is d =
    let f = shape_of (kind_at (words_of walk) row) in
    rw (is, meant_field_lem f.a, meant_field_lem f.b, meant_field_lem f.c) refl

-- Walks that follow one another.

module _ {walk walk' : Walk} {f : ℕ → List Site} (one : Looked walk walk' f) where
  -- the sites of an expression are the same in the walk that follows
  part_same : (field : Field) (w d : ℕ) → part_sites walk' field w d ≡ part_sites walk field w d
  part_same field w d = rw (one.kept.table, one.scope) refl

  -- a row can be looked at there,
  look_on : {row : ℕ} → CanLook walk row → CanLook walk' row
  look_on can = record {
    passes = rw one.kept.table can.passes;
    stacked = rw (one.kept.table, one.scope) can.stacked;
    there = rw one.kept.table can.there;
  }

  -- and a word walked
  pub part_on : (w : ℕ) (field : Field) → CanPart walk w field → CanPart walk' w field
  part_on w (Within low high) can = tt
  part_on w (Child Expr) can = (look_on can.0, rw one.kept.table can.1)
  part_on w (Child Stmt) can = tt

  -- the sites of both have been looked at
  looked_append : {walk'' : Walk} {g : ℕ → List Site} (h : ℕ → List Site) → Looked walk' walk'' g → ((d : ℕ) → g d ≡ h d)
      → Looked walk walk'' (λ d. f d ++ h d)
  looked_append {walk''} {g} h two same = record {
    swept = λ d. swept_append (one.swept d) (rw (← (same d), ← one.kept.table) (two.swept d));
    kept = record {
      table = two.kept.table ∙ one.kept.table;
      same_reference = two.kept.same_reference ∙ one.kept.same_reference;
    };
    scope = two.scope ∙ one.scope;
  }

-- nothing is looked at by doing nothing
pub looked_none : {walk : Walk} → Looked walk walk (λ d. [])
unfolding failing noted
looked_none {walk} = record {
  swept = λ d. record { finds = λ ps found. rw append-nil found; noted_is = refl; in_table = All-nil (λ s. InTable walk.table.now (stands_for s)) };
  kept = record { table = refl; same_reference = refl };
  scope = refl;
}

-- the sites that have been looked at are these
pub looked_as : {walk walk' : Walk} {f : ℕ → List Site} (g : ℕ → List Site) → Looked walk walk' f → ((d : ℕ) → f d ≡ g d) → Looked walk walk' g
looked_as g looked same = record { swept = λ d. rw (← (same d)) (looked.swept d); kept = looked.kept; scope = looked.scope }

-- at any depth, they have been looked at one deeper
looked_deeper : {walk walk' : Walk} {f : ℕ → List Site} → Looked walk walk' f → Looked walk walk' (λ d. f (suc d))
looked_deeper looked = record { swept = λ d. looked.swept (suc d); kept = looked.kept; scope = looked.scope }

-- a row and the expressions in it have been looked at when the row has been, and then the expression in each of its words
pub looked_heads : {walk w₁ w₂ w₃ w₄ : Walk} (row : ℕ) {read : RowWords} → read ≡ row_words (words_of walk) row
    → Looked walk w₁ (row_sites walk row) → Looked w₁ w₂ (part_sites w₁ read.shape.a read.a)
    → Looked w₂ w₃ (part_sites w₂ read.shape.b read.b) → Looked w₃ w₄ (part_sites w₃ read.shape.c read.c) → Looked walk w₄ (head_sites walk row)
looked_heads {walk} {w₁} {w₂} row {read} is look first second third =
    let s = read.shape in
    let last = looked_append second (part_sites w₂ s.c read.c) third (part_same second s.c read.c) in
    let rest = looked_append first (λ d. part_sites w₁ s.b read.b d ++ part_sites w₁ s.c read.c d) last
    (λ d. rw (part_same first s.b read.b d, part_same first s.c read.c d) refl) in
    let all = looked_append look (λ d. part_sites walk s.a read.a d ++ (part_sites walk s.b read.b d ++ part_sites walk s.c read.c d)) rest
    (λ d. rw (part_same look s.a read.a d, part_same look s.b read.b d, part_same look s.c read.c d) refl) in
    looked_as (head_sites walk row) all (heads_are walk row is)

-- where the field of a word is an expression, that is the row that the word holds
pub looked_part : {walk walk' : Walk} (w : ℕ) → CanPart walk w (Child Expr) → Looked walk walk' (head_sites walk w)
    → Looked walk walk' (part_sites walk (Child Expr) w)
looked_part {walk} w can looked =
    let shaped = formed walk.table.now can.0.passes in
    looked_as (part_sites walk (Child Expr) w) (looked_deeper looked)
    (λ d. sym (expr_heads shaped (suc d) (scope_in walk) w can.0.there can.1))

-- and where it is none, there is nothing to look at
pub looked_other : (walk : Walk) (field : Field) (w : ℕ) → (field ≡ Child Expr → ⊥) → Looked walk walk (part_sites walk field w)
looked_other walk (Within low high) w other = looked_none
looked_other walk (Child Expr) w other = absurd (other refl)
looked_other walk (Child Stmt) w other = looked_none
