-- Cells are set, and names come into scope and leave it: the run and the direct reading go on agreeing.
use Prim.Native.Nat.{ℕ, ◌+◌, ◌*◌, ◌≤◌, ◌<◌}
use mathlib.Core.Path.{◌≡◌, refl, sym, subst, ap, ◌∙◌}
use mathlib.Core.Bool.{Bool, true, false, cond}
use mathlib.Core.Option.{Option, none, some}
use mathlib.Core.List.{List, ◌∷◌}
use lib.Dec.{eqb}
use lib.ListN.{get_or, set, length-set}
use lib.Seq.{get_or-set_same, get_or-set_other}
use borrow.Author.Tests.{eqb-true, eqb-false, ne_eqb}
use native.Mathlib.Omega.{arith}
use Rattle.rules.specs.Rows.{Ty, uint}
use Rattle.rules.specs.Scope.{Known, Scope, lookup, type_k}
use Rattle.rules.specs.Counts.{count_k}
use Rattle.rules.specs.Run.{Val, known, held, State, put, stepped}
use Rattle.rules.specs.Plain.{Given}
use Rattle.rules.proofs.Making.{Worth}
use Rattle.rules.proofs.Fine.{size_k}
use Rattle.rules.proofs.Expressions.{Cell, Agrees}

-- a name that is unknown is none that is known
pub fresh : (sc : Scope) (x y : ℕ) (b : Known) → lookup sc x ≡ none → lookup sc y ≡ some b → y ≡ x → ⊥
fresh sc x y b e f q = let z : ◌≡◌ {A = ℕ} 0 1 = cc (ap (lookup sc) q) in omega arith

-- a state with the same gates and wires: every value is worth the same
pub worth_same : (given : Given) (s u : State) → u.wires ≡ s.wires → u.gates ≡ s.gates → (t : Ty) (x : Val) (v : ℕ) → Worth given s t x v → Worth given u t x v
worth_same given s u e f t (known y n) v w = w
worth_same given s u e f t (held k o) v w = (omega arith, rw f w.1, rw f w.2, w.3)

pub cell_same : (S : ℕ → Bool) (given : Given) (s u : State) → u.wires ≡ s.wires → u.gates ≡ s.gates → (b : Known) (x : Val) (v : ℕ)
    → Cell S given s b x v → Cell S given u b x v
cell_same S given s u e f b x v c = record { worth = worth_same given s u e f (type_k b) x v c.worth; label = c.label; sort = c.sort }

module _ (S : ℕ → Bool) (given : Given) where
  -- one cell set, in both
  put_agrees : (sc : Scope) (c : List ℕ) (s : State) (x i : ℕ) (v : Val) (n : ℕ) → x < 64 → i < 64 → Agrees S given sc c s
      → ((y : ℕ) (b : Known) → lookup sc y ≡ some b → (j : ℕ) → j < size_k b → 64 * y + j ≡ 64 * x + i → Cell S given s b v n)
      → ((y : ℕ) (b : Known) → lookup sc y ≡ some b → count_k b < 4294967295 → 64 * y + 0 ≡ 64 * x + i → n ≤ count_k b)
      → Agrees S given sc (set c (64 * x + i) n) (put x i v s)
  unfolding put
  put_agrees sc c s x i v n hx hi a new new_c = record {
    run_length = length-set s.cells (64 * x + i) v ∙ a.run_length;
    now_length = length-set c (64 * x + i) n ∙ a.now_length;
    cells = λ y b f j h. at_cell y b f j h (eqb (64 * y + j) (64 * x + i)) refl;
    caps = λ y b f h. at_caps y b f h (eqb (64 * y + 0) (64 * x + i)) refl;
    sizes = a.sizes;
  }
    where
      at_cell : (y : ℕ) (b : Known) → lookup sc y ≡ some b → (j : ℕ) → j < size_k b → (t : Bool) → eqb (64 * y + j) (64 * x + i) ≡ t
          → Cell S given (put x i v s) b (get_or (set s.cells (64 * x + i) v) (64 * y + j) (known uint 0)) (get_or (set c (64 * x + i) n) (64 * y + j) 0)
      at_cell y b f j h true e =
          rw (
            eqb-true (64 * y + j) (64 * x + i) e,
            get_or-set_same s.cells (64 * x + i) v (known uint 0) (omega (arith, a.run_length)),
            get_or-set_same c (64 * x + i) n 0 (omega (arith, a.now_length)),
          )
          (cell_same S given s (put x i v s) refl refl b v n (new y b f j h (eqb-true (64 * y + j) (64 * x + i) e)))
      at_cell y b f j h false e =
          rw (
            get_or-set_other s.cells (64 * x + i) (64 * y + j) v (known uint 0) (eqb-false (64 * y + j) (64 * x + i) e),
            get_or-set_other c (64 * x + i) (64 * y + j) n 0 (eqb-false (64 * y + j) (64 * x + i) e),
          )
          (cell_same S given s (put x i v s) refl refl b (get_or s.cells (64 * y + j) (known uint 0)) (get_or c (64 * y + j) 0) (a.cells y b f j h))

      at_caps : (y : ℕ) (b : Known) → lookup sc y ≡ some b → count_k b < 4294967295 → (t : Bool) → eqb (64 * y + 0) (64 * x + i) ≡ t
          → get_or (set c (64 * x + i) n) (64 * y + 0) 0 ≤ count_k b
      at_caps y b f h true e =
          rw (eqb-true (64 * y + 0) (64 * x + i) e, get_or-set_same c (64 * x + i) n 0 (omega (arith, a.now_length)))
          (new_c y b f h (eqb-true (64 * y + 0) (64 * x + i) e))
      at_caps y b f h false e =
          rw (get_or-set_other c (64 * x + i) (64 * y + 0) n 0 (eqb-false (64 * y + 0) (64 * x + i) e)) (a.caps y b f h)

  -- a name that is not in scope: no known cell changes
  pub put_out : (sc : Scope) (c : List ℕ) (s : State) (x i : ℕ) (v : Val) (n : ℕ) → x < 64 → i < 64 → lookup sc x ≡ none → Agrees S given sc c s
      → Agrees S given sc (set c (64 * x + i) n) (put x i v s)
  put_out sc c s x i v n hx hi o a = put_agrees sc c s x i v n hx hi a
      (λ y b f j h q. absurd (fresh sc x y b o f (omega (arith, (a.sizes y b f).1))))
      (λ y b f h q. absurd (fresh sc x y b o f (omega arith)))

  -- a declared name that is in scope
  pub put_in : (sc : Scope) (c : List ℕ) (s : State) (x i : ℕ) (v : Val) (n : ℕ) (b : Known) → lookup sc x ≡ some b → 4294967295 ≤ count_k b → i < size_k b
      → Agrees S given sc c s → Cell S given s b v n → Agrees S given sc (set c (64 * x + i) n) (put x i v s)
  put_in sc c s x i v n b o hc hi a w = put_agrees sc c s x i v n (a.sizes x b o).0 (omega (arith, (a.sizes x b o).1)) a
      (λ y b' f j h q. subst (λ (k : Known). Cell S given s k v n) (one_known y b' f (omega (arith, (a.sizes y b' f).1, (a.sizes x b o).1))) w)
      (λ y b' f h q. absurd (omega (arith, ap (λ (k : Known). count_k k) (one_known y b' f (omega (arith, (a.sizes x b o).1))))))
    where
      one_known : (y : ℕ) (b' : Known) → lookup sc y ≡ some b' → y ≡ x → b ≡ b'
      one_known y b' f q = cc (ap (lookup sc) q)

  -- a name comes into scope
  pub bind : (sc : Scope) (c : List ℕ) (s : State) (x : ℕ) (k : Known) → x < 64 → size_k k ≤ 64 → Agrees S given sc c s
      → ((i : ℕ) → i < size_k k → Cell S given s k (get_or s.cells (64 * x + i) (known uint 0)) (get_or c (64 * x + i) 0))
      → (count_k k < 4294967295 → get_or c (64 * x + 0) 0 ≤ count_k k)
      → Agrees S given (record { called = x; is = k } ∷ sc) c s
  unfolding lookup
  bind sc c s x k hx hs a m h = record {
    run_length = a.run_length;
    now_length = a.now_length;
    cells = λ y b f. cells_at y b (eqb x y) refl f;
    caps = λ y b f. caps_at y b (eqb x y) refl f;
    sizes = λ y b f. sizes_at y b (eqb x y) refl f;
  }
    where
      it : (b : Known) → ◌≡◌ {A = Option Known} (some k) (some b) → k ≡ b
      it b e = cc

      cells_at : (y : ℕ) (b : Known) (t : Bool) → eqb x y ≡ t → cond t (some k) (lookup sc y) ≡ some b
          → (i : ℕ) → i < size_k b → Cell S given s b (get_or s.cells (64 * y + i) (known uint 0)) (get_or c (64 * y + i) 0)
      cells_at y b true e f i l = rw (← it b f, ← eqb-true x y e) (m i (rw (← it b f) at l))
      cells_at y b false e f i l = a.cells y b f i l

      caps_at : (y : ℕ) (b : Known) (t : Bool) → eqb x y ≡ t → cond t (some k) (lookup sc y) ≡ some b → count_k b < 4294967295 → get_or c (64 * y + 0) 0 ≤ count_k b
      caps_at y b true e f l = rw (← it b f, ← eqb-true x y e) (h (rw (← it b f) at l))
      caps_at y b false e f l = a.caps y b f l

      sizes_at : (y : ℕ) (b : Known) (t : Bool) → eqb x y ≡ t → cond t (some k) (lookup sc y) ≡ some b → (y < 64) × (size_k b ≤ 64)
      sizes_at y b true e f = (rw (← eqb-true x y e) hx, rw (← it b f) hs)
      sizes_at y b false e f = a.sizes y b f

  -- names go out of scope
  pub leave : (sc more : Scope) (c : List ℕ) (s : State) → ((y : ℕ) (b : Known) → lookup sc y ≡ some b → lookup more y ≡ some b)
      → Agrees S given more c s → Agrees S given sc c s
  leave sc more c s up a = record {
    run_length = a.run_length;
    now_length = a.now_length;
    cells = λ y b f. a.cells y b (up y b f);
    caps = λ y b f. a.caps y b (up y b f);
    sizes = λ y b f. a.sizes y b (up y b f);
  }

  -- a new name hides none that is known
  pub under : (sc : Scope) (x : ℕ) (k : Known) → lookup sc x ≡ none → (y : ℕ) (b : Known) → lookup sc y ≡ some b
      → lookup (record { called = x; is = k } ∷ sc) y ≡ some b
  unfolding lookup
  under sc x k o y b f = rw (ne_eqb x y (λ q. fresh sc x y b o f (sym q))) f

  -- a step changes no cell
  pub stepped_agrees : (sc : Scope) (c : List ℕ) (s : State) → Agrees S given sc c s → Agrees S given sc c (stepped s)
  unfolding stepped
  stepped_agrees sc c s a = record {
    run_length = a.run_length;
    now_length = a.now_length;
    cells = λ x b f i h. cell_same S given s (stepped s) refl refl b (get_or s.cells (64 * x + i) (known uint 0)) (get_or c (64 * x + i) 0) (a.cells x b f i h);
    caps = a.caps;
    sizes = a.sizes;
  }
