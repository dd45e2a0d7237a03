-- The passes over the rules of labels: each mark is in every set in which the rules hold, and where a pass makes none they hold.
use Rattle.std.proofs.Common.{ℕ, zero, suc, ◌+◌, ◌≤◌, ◌<◌, ◌≡◌, refl, sym, ap, subst, ◌∙◌, Bool, true, false, ◌||◌, List, length, get_or, set, replicate, arith}
use Rattle.std.specs.Prelude as code
use Rattle.std.specs.Prelude.{IfSome}
use Rattle.std.proofs.lemmas.Bool.{true≢false}
use Rattle.std.proofs.lemmas.Grind.{common_steps}
use Rattle.std.proofs.Math.Dec.{T, eqb}
use Rattle.std.proofs.Math.ListN.{get_or-replicate}
use Rattle.words.specs.Words.{words}
use Rattle.rules.specs.Rows.{Kind, word, kind_at, shape_of}
use Rattle.rules.specs.Labels.{all_rules, all_inputs, Closed, Secret}
use Rattle.rules.specs.Answers.{rows_of, sites_of, secret_in}
use Rattle.rules.proofs.Basics.{of_true, of_false}
use Rattle.rules.proofs.Shaped.{labels_closed, labels_least}
use Rattle.rules.proofs.Labels.{ClosedAt, each_rules, rules_each}
use Rattle.rows.specs.Passed.{Passes}
use Rattle.rows.proofs.Table.{rows_few}
use Rattle.rows.proofs.Formed.{Fields, fields, formed}
use Rattle.rows.proofs.ByRows.{each_by_rows, rows_by_each}
use Rattle.table.specs.declared.row.Row.{Row}
use Rattle.table.specs.declared.meaning.Meaning.{Meaning}
use Rattle.table.specs.Shapes.{as_kind}
use Rattle.table.specs.Meaning.{meaning_of, meaning_at}
use Rattle.names.specs.Declares.{Knows}
use Rattle.names.specs.Notes.{declaration_at}
use Rattle.names.specs.Labels.{marked, asks, has, row_or, asked_row, declaration_of, RuleHolds, marks, Within, Followed, Labelled}
use Rattle.names.proofs.NoteLaws.{passes_one, passes_two, passes_three}
use Rattle.names.proofs.RuleLaws.{rule_at_row}

-- two tests that hold together are one
same_truth : (x y : Bool) → (T x → T y) → (T y → T x) → x ≡ y
same_truth x y f g = grind (arith, common_steps)

-- a larger set has a declaration of the table that the smaller one has
has_more : (n : ℕ) (S R : ℕ → Bool) → Within n S R → (declaration : code.Option Row) → IfSome declaration (λ d. d.0 < n)
    → T (has S declaration) → T (has R declaration)
has_more n S R more declaration below h = grind (arith, common_steps)

-- The rule of a row asks for no fewer marks where more rows are marked.
module _ (t : List ℕ) (n r a b c : ℕ) (S R : ℕ → Bool) (more : Within n S R) (h : r < n) (u v : Bool) (named : T u → T v) where
  asks_of_kind : (k : Kind) → Fields t r a b c (shape_of k) → T (asks S (meaning_of (as_kind k) a b c) u) → T (asks R (meaning_of (as_kind k) a b c) v)
  asks_of_kind k says p = grind (arith, common_steps)

-- the row that is marked is the row itself, or may be the declaration
one_of_both : (P : ℕ → Type 0) (x : Meaning) (r : ℕ) (d : code.Option Row) → P r → P (row_or r d) → P (asked_row x r d)
one_of_both P x r d p q = grind (arith, common_steps)

-- A mark set at w.
module _ (secret : List Bool) (w : ℕ) where
  -- leaves the number of marks below w
  marks_below : (n : ℕ) → n ≤ w → marks (set secret w true) n ≡ marks secret n
  unfolding marks
  marks_below zero h = refl
  marks_below (suc n) h =
      let before = marks_below n in grind (arith, common_steps)

  -- and is one mark more
  marks_more : (n : ℕ) → w < n → w < length secret → marked secret w ≡ false → marks (set secret w true) n ≡ marks secret n + 1
  unfolding marks
  marks_more zero h room free = absurd (omega arith)
  marks_more (suc n) h room free = let before = marks_more n in let below = marks_below n in grind (arith, common_steps)

-- no more rows are marked than there are
pub marks_le : (secret : List Bool) (n : ℕ) → marks secret n ≤ n
unfolding marks
marks_le secret zero = omega arith
marks_le secret (suc n) = let before = marks_le secret n in grind (arith, common_steps)

-- a rule that holds needs no mark
pub followed_none : {table : List ℕ} {binders : List (code.Option Row)} {secret : List Bool} {r : ℕ} → RuleHolds table binders (marked secret) r → Followed table binders secret secret r (r + 1) false
followed_none {table} {binders} {secret} {r} holds = record {
  least = λ S every w. w;
  none_made = λ e. (refl, λ q from below. let same : r ≡ q = omega arith in subst (RuleHolds table binders (marked secret)) same holds);
  no_fewer = omega arith;
  one_more = λ e. absurd (true≢false (sym e));
}

-- rules followed one after the other
pub followed_on : {table : List ℕ} {binders : List (code.Option Row)} {s s' s'' : List Bool} {i j k : ℕ} {made more : Bool} → i ≤ j → j ≤ k → Followed table binders s s' i j made
    → Followed table binders s' s'' j k more → Followed table binders s s'' i k (made || more)
followed_on {table} {binders} {s} {s'} {s''} {i} {j} {k} {made} {more} from upto one two = record {
  least = λ S every w. two.least S (λ r l h. every r (omega arith) h) (one.least S (λ r l h. every r l (omega arith)) w);
  none_made = λ e. grind (arith, common_steps);
  no_fewer = omega (arith, one.no_fewer, two.no_fewer);
  one_more = λ e. grind (arith, common_steps);
}

-- the declaration that a name stands for is the row that binds it
declaration_inside : (t : List ℕ) (n : ℕ) (binder : code.Option Row) → IfSome binder (λ d. d.0 < n) → IfSome (declaration_at t binder) (λ d. d.0 < n)
declaration_inside t n binder inside = grind (arith, common_steps)

-- a declaration, or else a row
row_inside : (n r : ℕ) (declaration : code.Option Row) → r < n → IfSome declaration (λ d. d.0 < n) → row_or r declaration < n
row_inside n r declaration h inside = grind (arith, common_steps)

-- A row whose rule asks for a mark.
module _ {table : List ℕ} {binders : List (code.Option Row)} (ok : Passes 5 table) (knows : Knows table binders) (r : ℕ)
    (h : r < rows_of table) where
  abbrev t : List ℕ
  t = words table

  -- the declaration that its name stands for
  abbrev d : code.Option Row
  d = declaration_of table binders r

  -- it is a row of the table
  declaration_below : IfSome d (λ e. e.0 < rows_of table)
  declaration_below = declaration_inside t (rows_of table) (get_or binders r code.None) (knows.inside r h)

  abbrev target : ℕ
  target = asked_row (meaning_at t r) r d

  -- what the rule asks in a set
  abbrev Asks : (ℕ → Bool) → Type 0
  Asks S = T (asks S (meaning_at t r) (has S d))

  -- the row to be marked is one of the table's
  pub target_below : target < rows_of table
  target_below = one_of_both (λ w. w < rows_of table) (meaning_at t r) r d h (row_inside (rows_of table) r d h declaration_below)

  -- so it has a place among the marks
  pub target_few : target < 1024
  target_few = omega (arith, target_below, rows_few table (passes_one table ok))

  -- a larger set is asked no less
  asks_more : (S R : ℕ → Bool) → Within (rows_of table) S R → Asks S → Asks R
  unfolding meaning_at
  asks_more S R more =
      asks_of_kind t (rows_of table) r (word t r 1) (word t r 2) (word t r 3) S R more h (has S d) (has R d)
      (has_more (rows_of table) S R more d declaration_below)
      (kind_at t r) (fields (formed table (passes_two table ok)) r h (kind_at t r) refl)

  module _ {secret : List Bool} where
    -- a rule that asks for nothing holds
    pub followed_unasked : asks (marked secret) (meaning_at t r) (has (marked secret) d) ≡ false
        → Followed table binders secret secret r (r + 1) false
    followed_unasked e = followed_none (λ p. absurd (of_false _ e p))

    -- so does one whose row is marked already
    pub followed_marked : marked secret target ≡ true → Followed table binders secret secret r (r + 1) false
    followed_marked e = followed_none (λ p. of_true _ e)

    -- and otherwise the row is marked
    pub followed_made : length secret ≡ 1024 → asks (marked secret) (meaning_at t r) (has (marked secret) d) ≡ true
        → marked secret target ≡ false → Followed table binders secret (set secret target true) r (r + 1) true
    followed_made long asked free =
        let room : target < length secret = omega (arith, target_few) in
        let more : marks (set secret target true) (rows_of table) ≡ marks secret (rows_of table) + 1 =
        marks_more secret target (rows_of table) target_below room free in
        record {
          least = λ S every w q below p. go S (every r (omega arith) (omega arith)) w q below p (eqb q target) refl;
          none_made = λ e. absurd (true≢false e);
          no_fewer = omega (arith, more);
          one_more = λ e. omega (arith, more);
        }
      where
        go : (S : ℕ → Bool) → RuleHolds table binders S r → Within (rows_of table) (marked secret) S → (q : ℕ) → q < rows_of table
            → T (marked (set secret target true) q) → (b : Bool) → eqb q target ≡ b → T (S q)
        go S holds w q below p b e = let asked_more = asks_more (marked secret) S w in grind (arith, common_steps)

-- A table that passes check 5, with the rows that bind names.
module _ (table : List ℕ) (binders : List (code.Option Row)) (ok : Passes 5 table) (knows : Knows table binders) where
  -- the rules hold in a set exactly if it is closed
  rules_closed : (S : ℕ → Bool) → ((r : ℕ) → r < rows_of table → RuleHolds table binders S r)
      → Closed (all_inputs (sites_of table)) (all_rules (sites_of table)) S
  rules_closed S every =
      rules_each S (sites_of table)
      (each_by_rows table (passes_three table ok) (ClosedAt S) (λ r h. (rule_at_row table binders ok knows S r h).0 (every r h)))

  closed_rules : (S : ℕ → Bool) → Closed (all_inputs (sites_of table)) (all_rules (sites_of table)) S
      → (r : ℕ) → r < rows_of table → RuleHolds table binders S r
  closed_rules S is r h =
      (rule_at_row table binders ok knows S r h).1
      (rows_by_each table (passes_three table ok) (ClosedAt S) (each_rules S (sites_of table) is) r h)

-- marks are being made: every mark is in each set in which the rules hold
pub record Marking (table : List ℕ) (binders : List (code.Option Row)) (secret : List Bool) : Type 0 where
  pub least : (S : ℕ → Bool) → ((r : ℕ) → r < rows_of table → RuleHolds table binders S r) → Within (rows_of table) (marked secret) S

-- at first there is none
pub marking_start : {table : List ℕ} {binders : List (code.Option Row)} → Passes 5 table → Marking table binders (replicate 1024 false)
marking_start {table} ok = record {
  least = λ S every r h p. absurd (of_false _ (get_or-replicate {A = Bool} 1024 r false false (omega (arith, rows_few table (passes_one table ok), h))) p);
}

module _ {table : List ℕ} {binders : List (code.Option Row)} {secret secret' : List Bool} {made : Bool} (marking : Marking table binders secret)
    (followed : Followed table binders secret secret' 0 (rows_of table) made) where
  -- with a pass more
  pub marking_next : Marking table binders secret'
  marking_next = record {
    least = λ S every. followed.least S (λ r from below. every r below) (marking.least S every);
  }

  -- where a pass makes no mark, the secret rows are marked
  pub marking_done : Passes 5 table → Knows table binders → made ≡ false → Labelled table secret'
  unfolding Secret
  marking_done ok knows e =
      let (same, every) = followed.none_made e in
      let is = rules_closed table binders ok knows (marked secret) (λ r h. every r (omega arith) h) in
      record {
        are = λ r h. ap (λ (s : List Bool). marked s r) same
            ∙ same_truth (marked secret r) (secret_in table r)
            (marking.least (secret_in table) (closed_rules table binders ok knows (secret_in table) (labels_closed table ok.0 ok.1.0)) r h)
            (λ p. (labels_least table ok.0 ok.1.0 r).0 p (marked secret) is);
      }
