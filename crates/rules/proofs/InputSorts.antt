-- Check 6 gives every input one type: so each is read at one sort, and no two gates that read it differ.
use Prim.Native.Nat.{ℕ, zero, suc, ◌<◌}
use mathlib.Core.Path.{◌≡◌, refl, sym, subst, ap, ◌∙◌}
use mathlib.Core.Logic.{◌⊎◌, inl, inr}
use mathlib.Core.Bool.{Bool, true, false, not, cond, ◌&&◌, ◌||◌}
use mathlib.Core.Option.{Option, none, some}
use mathlib.Core.List.{List, [], ◌∷◌}
use lib.Dec.{T, eqb, eqb_refl}
use borrow.Author.Tests.{eqb-true, eqb-false}
use native.Mathlib.Decide.{dec_le}
use native.Mathlib.Omega.{arith}
use Rattle.rules.specs.Rows.{Ty, word}
use Rattle.rules.specs.Tree.{number, truth, name, two, choose, element, input, type_of}
use Rattle.rules.specs.Sites.{Node, of_e, of_s, Site}
use Rattle.rules.specs.Types.{differs, clash_to, typed, check6}
use Rattle.rules.specs.Sorts.{Sort, arithmetic, kept_at}
use Rattle.rules.proofs.Sites.{Each}
use Rattle.rules.proofs.Formed.{InputRow}
use Rattle.rules.proofs.Basics.{none≢some}

-- the type at which a node reads input n of desk d, if it does
abbrev read_as : ℕ → ℕ → Node → Option Ty
read_as d n (of_e (number r v)) = none
read_as d n (of_e (truth r v)) = none
read_as d n (of_e (name r x)) = none
read_as d n (of_e (two r o a b)) = none
read_as d n (of_e (choose r g a b)) = none
read_as d n (of_e (element r x i)) = none
read_as d n (of_e (input r y e k)) = cond (eqb e d && eqb k n) (some y) none
read_as d n (of_s p) = none

abbrev sort_or : Option Ty → Sort → Sort
sort_or none m = m
sort_or (some y) m = kept_at y

-- the sort of input n of desk d: that of the first site that reads it
pub input_sort : List Site → ℕ → ℕ → Sort
input_sort [] d n = arithmetic
input_sort (s ∷ ss) d n = sort_or (read_as d n s.node) (input_sort ss d n)

-- a site is one of a list
abbrev pub Among : Site → List Site → Type 0
Among s [] = ⊥
Among s (x ∷ xs) = (s ≡ x) ⊎ Among s xs

pub each_at : (P : Site → Type 0) (ss : List Site) → Each P ss → (s : Site) → Among s ss → P s
each_at P [] h s m = absurd m
each_at P (x ∷ xs) h s (inl e) = subst P (sym e) h.0
each_at P (x ∷ xs) h s (inr m) = each_at P xs h.1 s m

pub each_of : (P : Site → Type 0) (ss : List Site) → ((s : Site) → Among s ss → P s) → Each P ss
each_of P [] h = tt
each_of P (x ∷ xs) h = (h x (inl refl), each_of P xs (λ s m. h s (inr m)))

some_one : {A : Type 0} (a b : A) → some a ≡ some b → a ≡ b
some_one a b e = cc

-- where every reader reads at type y, and one site is a reader, the sort is y's
sort_of_readers : (d n : ℕ) (y : Ty) (ss : List Site) → ((s : Site) → Among s ss → (z : Ty) → read_as d n s.node ≡ some z → z ≡ y)
    → (s : Site) → Among s ss → read_as d n s.node ≡ some y → input_sort ss d n ≡ kept_at y
unfolding input_sort
sort_of_readers d n y [] h s m e = absurd m
sort_of_readers d n y (x ∷ xs) h s m e = go (read_as d n x.node) refl (λ k. sort_of_readers d n y xs (λ u j. h u (inr j)) s k e) m
  where
    go : (o : Option Ty) → read_as d n x.node ≡ o → (Among s xs → input_sort xs d n ≡ kept_at y) → Among s (x ∷ xs) → sort_or o (input_sort xs d n) ≡ kept_at y
    go (some z) f rec m = ap kept_at (h x (inl refl) z f)
    go none f rec (inl q) = absurd (none≢some y (sym f ∙ ap (λ (u : Site). read_as d n u.node) (sym q) ∙ e))
    go none f rec (inr k) = rec k

-- the row that a reader stands at
abbrev pub FormedInput : List ℕ → Node → Type 0
FormedInput t (of_e (number r v)) = Unit {0}
FormedInput t (of_e (truth r v)) = Unit {0}
FormedInput t (of_e (name r x)) = Unit {0}
FormedInput t (of_e (two r o a b)) = Unit {0}
FormedInput t (of_e (choose r g a b)) = Unit {0}
FormedInput t (of_e (element r x i)) = Unit {0}
FormedInput t (of_e (input r y d k)) = InputRow t r y d k
FormedInput t (of_s p) = Unit {0}

-- a reader that passes check 6: its row, and no row below it that differs
record Reader (t : List ℕ) (y : Ty) (d n : ℕ) : Type 0 where
  row : ℕ
  words : InputRow t row y d n
  clear : T (not (clash_to t row row))

reader : (t : List ℕ) (d n : ℕ) (y : Ty) (s : Site) → FormedInput t s.node → T (check6 t s) → read_as d n s.node ≡ some y → Reader t y d n
unfolding check6 typed
reader t d n y s = go s.node
  where
    at : (r : ℕ) (z : Ty) (e k : ℕ) → InputRow t r z e k → T (not (clash_to t r r)) → (p q : Bool) → eqb e d ≡ p → eqb k n ≡ q → cond (p && q) (some z) none ≡ some y → Reader t y d n
    at r z e k w c true true hp hq f = record {
      row = r;
      words = subst (λ (v : Ty). InputRow t r v d n) (some_one z y f) (subst (λ (i : ℕ). InputRow t r z i n) (eqb-true e d hp) (subst (λ (i : ℕ). InputRow t r z e i) (eqb-true k n hq) w));
      clear = c;
    }
    at r z e k w c true false hp hq f = absurd (none≢some y f)
    at r z e k w c false q hp hq f = absurd (none≢some y f)

    go : (x : Node) → FormedInput t x → T (typed t s.scope x) → read_as d n x ≡ some y → Reader t y d n
    go (of_e (number r v)) w c f = absurd (none≢some y f)
    go (of_e (truth r v)) w c f = absurd (none≢some y f)
    go (of_e (name r x)) w c f = absurd (none≢some y f)
    go (of_e (two r o a b)) w c f = absurd (none≢some y f)
    go (of_e (choose r g a b)) w c f = absurd (none≢some y f)
    go (of_e (element r x i)) w c f = absurd (none≢some y f)
    go (of_e (input r z e k)) w c f = at r z e k w c (eqb e d) (eqb k n) refl refl f
    go (of_s p) w c f = absurd (none≢some y f)

-- no row below one that passes differs from it
no_difference : (t : List ℕ) (r m : ℕ) → T (not (clash_to t r m)) → (q : ℕ) → q < m → T (not (differs t r q))
unfolding clash_to
no_difference t r zero c q h = absurd (omega arith)
no_difference t r (suc m) c q h = go (eqb q m) refl (no_difference t r m (first (clash_to t r m) (differs t r m) c) q)
  where
    first : (a b : Bool) → T (not (a || b)) → T (not a)
    first true b x = x
    first false b x = tt

    second : (a b : Bool) → T (not (a || b)) → T (not b)
    second true b x = absurd x
    second false b x = x

    go : (b : Bool) → eqb q m ≡ b → (q < m → T (not (differs t r q))) → T (not (differs t r q))
    go true e rec = rw (eqb-true q m e) (second (clash_to t r m) (differs t r m) c)
    go false e rec = let ne : q ≡ m → ⊥ = eqb-false q m e in rec (omega arith)

-- two rows that read one input and do not differ read it at one type
same_word : (t : List ℕ) (r q : ℕ) → word t q 0 ≡ 8 → word t q 2 ≡ word t r 2 → word t q 3 ≡ word t r 3 → T (not (differs t r q)) → word t q 1 ≡ word t r 1
unfolding differs
same_word t r q k d n h = go (eqb (word t q 1) (word t r 1)) refl (rw (k, d, n) at h)
  where
    go : (b : Bool) → eqb (word t q 1) (word t r 1) ≡ b
        → T (not (eqb 8 8 && (eqb (word t r 2) (word t r 2) && (eqb (word t r 3) (word t r 3) && not (eqb (word t q 1) (word t r 1)))))) → word t q 1 ≡ word t r 1
    go true e x = eqb-true (word t q 1) (word t r 1) e
    go false e x = absurd (bad (eqb (word t r 2) (word t r 2)) (eqb (word t r 3) (word t r 3)) (eqb_refl (word t r 2)) (eqb_refl (word t r 3)) (rw e at x))
      where
        bad : (a b : Bool) → T a → T b → T (not (a && (b && true))) → ⊥
        bad true true p q x = x
        bad true false p q x = q
        bad false b p q x = p

one_type : (t : List ℕ) (d n : ℕ) (y z : Ty) → Reader t y d n → Reader t z d n → z ≡ y
one_type t d n y z a b = sym b.words.type ∙ ap type_of (go (dec_le (suc a.row) b.row) (dec_le (suc b.row) a.row)) ∙ a.words.type
  where
    desks : word t a.row 2 ≡ word t b.row 2
    desks = a.words.desk ∙ sym b.words.desk

    numbers : word t a.row 3 ≡ word t b.row 3
    numbers = a.words.number ∙ sym b.words.number

    go : Dec (a.row < b.row) → Dec (b.row < a.row) → word t b.row 1 ≡ word t a.row 1
    go (yes h) o = sym (same_word t b.row a.row a.words.kind desks numbers (no_difference t b.row b.row b.clear a.row h))
    go (no h) (yes k) = same_word t a.row b.row b.words.kind (sym desks) (sym numbers) (no_difference t a.row a.row a.clear b.row k)
    go (no h) (no k) = let e : b.row ≡ a.row = omega arith in ap (λ (r : ℕ). word t r 1) e

-- an input is read at its sort
abbrev pub AtInputSort : (ℕ → ℕ → Sort) → Node → Type 0
AtInputSort σ (of_e (number r v)) = Unit {0}
AtInputSort σ (of_e (truth r v)) = Unit {0}
AtInputSort σ (of_e (name r x)) = Unit {0}
AtInputSort σ (of_e (two r o a b)) = Unit {0}
AtInputSort σ (of_e (choose r g a b)) = Unit {0}
AtInputSort σ (of_e (element r x i)) = Unit {0}
AtInputSort σ (of_e (input r y d k)) = kept_at y ≡ σ d k
AtInputSort σ (of_s p) = Unit {0}

-- every site reads its input at the input's sort
pub input_sorts : (t : List ℕ) (ss : List Site) → Each (λ s. FormedInput t s.node) ss → Each (λ s. T (check6 t s)) ss → Each (λ s. AtInputSort (input_sort ss) s.node) ss
input_sorts t ss f c = each_of (λ s. AtInputSort (input_sort ss) s.node) ss (λ s m. go s m s.node refl)
  where
    is_reader : (s : Site) → Among s ss → (d k : ℕ) (y : Ty) → read_as d k s.node ≡ some y → Reader t y d k
    is_reader s m d k y e = reader t d k y s (each_at (λ u. FormedInput t u.node) ss f s m) (each_at (λ u. T (check6 t u)) ss c s m) e

    reads_it : (d k : ℕ) (y : Ty) → cond (eqb d d && eqb k k) (some y) none ≡ some y
    reads_it d k y = it (eqb d d) (eqb k k) (eqb_refl d) (eqb_refl k)
      where
        it : (a b : Bool) → T a → T b → cond (a && b) (some y) none ≡ some y
        it true true p q = refl
        it true false p q = absurd q
        it false b p q = absurd p

    go : (s : Site) → Among s ss → (x : Node) → s.node ≡ x → AtInputSort (input_sort ss) x
    go s m (of_e (number r v)) e = tt
    go s m (of_e (truth r v)) e = tt
    go s m (of_e (name r x)) e = tt
    go s m (of_e (two r o a b)) e = tt
    go s m (of_e (choose r g a b)) e = tt
    go s m (of_e (element r x i)) e = tt
    go s m (of_e (input r y d k)) e =
        let here : read_as d k s.node ≡ some y = ap (read_as d k) e ∙ reads_it d k y in
        sym (sort_of_readers d k y ss (λ u j z q. one_type t d k y z (is_reader s m d k y here) (is_reader u j d k z q)) s m here)
    go s m (of_s p) e = tt
