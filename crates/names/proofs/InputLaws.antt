-- The inputs that rows read, in check 6: whether a lower row reads a row's input at the other type, and the table of inputs that tells it.
use Rattle.std.proofs.Common.{ℕ, zero, suc, ◌+◌, ◌≤◌, ◌<◌, ◌≡◌, refl, sym, ap, ◌∙◌, Bool, true, false, not, ◌&&◌, ◌||◌, List, ◌∷◌, ◌++◌, length, get_or, set, add-one, arith}
use Rattle.std.specs.Prelude as code
use Rattle.std.proofs.lemmas.Bool.{not-true}
use Rattle.std.proofs.lemmas.Grind.{common_steps}
use Rattle.std.proofs.Math.Dec.{T, eqb}
use Rattle.std.proofs.Math.ListN.{replicate, get_or-map}
use Rattle.words.specs.Words.{words}
use Rattle.rules.specs.Rows.{Ty, Kind, unknown, is_e, is_s, kinds, word, kind_at}
use Rattle.rules.specs.Rows.{of_declare, of_input}
use Rattle.rules.specs.Tree.{type_of, expr_of}
use Rattle.rules.specs.Sites.{Site}
use Rattle.rules.specs.Types.{differs, clash_to, typed, check6}
use Rattle.rules.specs.Sorts.{same}
use Rattle.rules.specs.Answers.{rows_of}
use Rattle.circuit.specs.declared.sorts.Sort.{Sort}
use Rattle.circuit.specs.Sorts.{meant_sort}
use Rattle.circuit.specs.Slots.{InTable, slot_of, sort_at, other_than}
use Rattle.rows.specs.Passed.{Passes}
use Rattle.rows.specs.ByRow.{site_at}
use Rattle.rows.proofs.Formed.{fields, formed}
use Rattle.table.specs.Shapes.{as_kind}
use Rattle.table.specs.Meaning.{type_number, as_type, meaning_of, meaning_at, sort_kept}
use Rattle.names.specs.Types.{read_of, ReadIn, clash_of, seen_after, read_below, InputsSeen}
use Rattle.names.proofs.ToldLaws.{site_with}

-- The table of inputs, after one more is read at sort s. `clash` tells of each input whether it was read before at another sort than m.
module _ (seen : List (code.Option Sort)) (d n : ℕ) (s m : Sort) (clash : ℕ → ℕ → Bool)
    (told : (e i : ℕ) → InTable e i → clash e i ≡ other_than (sort_at seen e i) m) (inside : InTable d n) (size : length seen ≡ 128)
    (free : T (same (meant_sort s) (meant_sort m)) → clash d n ≡ false) where
  -- an input clashes with what is noted or with the new one
  pub read_noted : (e i : ℕ) → InTable e i
      → (eqb d e && (eqb n i && not (same (meant_sort s) (meant_sort m))) || clash e i)
      ≡ other_than (sort_at (set seen (slot_of d n) (code.Some s)) e i) m
  read_noted e i place = let told_there = told e i place in grind (arith, common_steps)

-- a kind reads an input
abbrev reads : Kind → Bool
reads (is_e of_input) = true
reads (is_s k) = false
reads _ = false

-- of a list of noes but for one yes at m, the element at n is whether n is m
one_there : (m j n : ℕ) → get_or (replicate m false ++ true ∷ replicate j false) n false ≡ eqb n m
one_there m j n = grind (arith, common_steps)

-- so a row's first word is 8 where the row's kind reads an input
reads_eight : (t : List ℕ) (r : ℕ) → eqb (word t r 0) 8 ≡ reads (kind_at t r)
unfolding kind_at kinds
reads_eight t r = sym (one_there 8 14 (word t r 0)) ∙ get_or-map reads kinds (word t r 0) unknown

-- a word that check 2 leaves for a type is the type's number
number_of_type : (n : ℕ) → n ≤ 1 → type_number (type_of n) ≡ n
unfolding type_of
number_of_type n h = grind (arith, common_steps)

-- two types are one where their sorts are
same_kept : (a : ℕ) (x y : Ty) → a ≡ type_number x → not (eqb a (type_number y)) ≡ not (same (meant_sort (sort_kept (as_type x))) (meant_sort (sort_kept (as_type y))))
same_kept a x y e = grind (arith, common_steps)

type_kept : (x y : Ty) → T (same (meant_sort (sort_kept (as_type x))) (meant_sort (sort_kept (as_type y)))) → x ≡ y
type_kept x y h = grind (arith, common_steps)

-- a lower row clashes with a row where it reads the input at the other type
clash_is : (t : List ℕ) (r i : ℕ) → clash_to t r i ≡ read_below t (word t r 2) (word t r 3) (word t r 1) i
unfolding clash_to differs read_below
clash_is t r zero = refl
clash_is t r (suc i) = let before = clash_is t r i in grind (arith, common_steps)

-- an input that a row of a kind reads has a place in the table where the words of an input give one
read_of_kind : (k : Kind) (a b c : ℕ) → (k ≡ is_e of_input → InTable b c) → ReadIn (read_of (meaning_of (as_kind k) a b c))
read_of_kind k a b c place = grind (arith, common_steps)

-- row i of a table that passes check 2, with its words a, b and c
module _ (table : List ℕ) (ok : Passes 2 table) (i : ℕ) (h : i < rows_of table) where
  abbrev t : List ℕ
  t = words table

  abbrev a : ℕ
  a = word t i 1

  abbrev b : ℕ
  b = word t i 2

  abbrev c : ℕ
  c = word t i 3

  -- the words of an input are its type, its desk and its number
  says : kind_at t i ≡ is_e of_input → (a ≤ 1) × ((0 < b) × ((b < 3) × (c < 64)))
  says e =
      let f = fields (formed table ok) i h (is_e of_input) e in
      (f.a_is.1, (omega (arith, f.b_is), (omega (arith, f.b_is), omega (arith, f.c_is))))

  -- so an input that the row reads has a place in the table
  pub read_in : ReadIn (read_of (meaning_at t i))
  unfolding meaning_at
  read_in = read_of_kind (kind_at t i) a b c (λ e. (says e).1)

  module _ (seen : List (code.Option Sort)) (told : InputsSeen table seen i) where
    -- the table tells whether a lower row reads the row's input at the other type
    pub clash_told : kind_at t i ≡ is_e of_input → clash_of seen (read_of (meaning_at t i)) ≡ clash_to t i i
    unfolding meaning_at
    clash_told e =
        let (type_in, place) = says e in
        rw e (sym (told b c place (type_of a)) ∙ rw (number_of_type a type_in) (sym (clash_is t i i)))

    -- a row that reads no input leaves the table as it is
    quiet : reads (kind_at t i) ≡ false → InputsSeen table seen (i + 1)
    unfolding read_below
    quiet silent d n place y = let none = reads_eight t i ∙ silent in rw (add-one i, none) (told d n place y)

    -- a row that reads an input with which no lower row clashes is noted
    noted : kind_at t i ≡ is_e of_input → clash_to t i i ≡ false → length seen ≡ 128
        → InputsSeen table (set seen (slot_of b c) (code.Some (sort_kept (as_type (type_of a))))) (i + 1)
    unfolding read_below
    noted e free size d n place y =
        let (type_in, inside) = says e in
        let eight : eqb (word t i 0) 8 ≡ true = reads_eight t i ∙ ap reads e in
        let number = number_of_type a type_in in
        let none : T (same (meant_sort (sort_kept (as_type (type_of a)))) (meant_sort (sort_kept (as_type y)))) → read_below t b c (type_number y) i ≡ false =
        λ h. rw (← type_kept (type_of a) y h, number) (sym (clash_is t i i) ∙ free) in
        rw (add-one i, eight, same_kept a (type_of a) y (sym number))
        (read_noted seen b c (sort_kept (as_type (type_of a))) (sort_kept (as_type y)) (λ e j. read_below t e j (type_number y) i)
        (λ e j place. told e j place y) inside size none d n place)

    -- so the table is right with a row more that passes
    pub seen_next : length seen ≡ 128 → (kind_at t i ≡ is_e of_input → clash_to t i i ≡ false)
        → InputsSeen table (seen_after seen (read_of (meaning_at t i))) (i + 1)
    unfolding meaning_at
    seen_next size passes = go (kind_at t i) refl
      where
        go : (k : Kind) → kind_at t i ≡ k → InputsSeen table (seen_after seen (read_of (meaning_of (as_kind k) a b c))) (i + 1)
        go (is_e of_input) e = noted e (passes e) size
        go (is_s of_declare) e = quiet (ap reads e)
        go _ e = quiet (ap reads e)

-- before any row nothing is read
pub seen_none : (table : List ℕ) (seen : List (code.Option Sort)) → ((d n : ℕ) → sort_at seen d n ≡ code.None) → InputsSeen table seen 0
unfolding read_below
seen_none table seen none d n place y = rw (none d n)

-- where a row passes check 6, no lower row clashes with an input that it reads
pub passing_clash : (table : List ℕ) → Passes 5 table → (i : ℕ) → i < rows_of table → check6 (words table) (site_at table i) ≡ true
    → kind_at (words table) i ≡ is_e of_input → clash_to (words table) i i ≡ false
unfolding check6 typed expr_of
passing_clash table ok i h passes e =
    let t = words table in
    let at_node = ap (λ (s : Site). typed t s.scope s.node) (site_with table ok i h) in
    not-true (clash_to t i i) (rw e at (sym at_node ∙ passes))
