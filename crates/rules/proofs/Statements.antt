-- The plain reading of the gates that a statement makes is its direct reading, and the gates keep the rules: one induction.
use Prim.Native.Nat.{ℕ, zero, suc, ◌+◌, ◌*◌, ◌-◌, ◌≤◌, ◌<◌}
use mathlib.Core.Path.{◌≡◌, refl, sym, subst, ap, ◌∙◌}
use mathlib.Core.Logic.{◌≢◌}
use mathlib.Core.Bool.{Bool, true, false}
use mathlib.Core.Option.{some}
use mathlib.Core.List.{List, [], ◌∷◌}
use lib.Dec.{T, eqb, lt→ltb}
use lib.ListN.{get_or, set, length-replicate}
use lib.Seq.{get_or-set_same, get_or-set_other}
use borrow.Author.Tests.{eqb-true, eqb-false}
use native.Mathlib.Omega.{arith}
use native.Mathlib.Nat.{add-zero, add-suc, suc-add}
use Rattle.rules.specs.Rows.{Name, Ty, uint}
use Rattle.rules.specs.Tree.{row_e}
use Rattle.rules.specs.Tree.{Stmt, declare, assign, loop, write, branch, out, then}
use Rattle.rules.specs.Scope.{Known, declared, looped, Scope, lookup, elements, type_k, in_loop, after}
use Rattle.rules.specs.Types.{type_e}
use Rattle.rules.specs.Counts.{count_k}
use Rattle.rules.specs.Sorts.{Sort, kept_at, type_at, arm}
use Rattle.rules.specs.Gates.{constant, wires, wired, keeps_rules}
use Rattle.rules.specs.Run.{Val, known, held, State, Made, wire_in, number_in, make, bring, cell, put, stepped, entered, first, firsts, store_over, store, put_wire, put_val, turns, run_e, run, start}
use Rattle.rules.specs.Plain.{Given, value_of, noted, plain}
use Rattle.rules.specs.Direct.{direct, Now, keep, blank, follow, begin}
use Rattle.rules.proofs.Making.{is_held, top_of, Worth, Good, More, Gives, Wired, more_refl, wired-gives, constant_wired, bring-wired, number_worth, type_kept}
use Rattle.rules.proofs.Fine.{size_k, label_k, Free, FineS}
use Rattle.rules.proofs.Expressions.{AtSort, Cell, Agrees, cell_more, size_pos, below_size, agrees_more, index_below, expr_agrees}
use Rattle.rules.proofs.Cells.{cell_same, put_out, put_in, bind, leave, under, stepped_agrees}
use Rattle.rules.proofs.Basics.{true_of, false_of, none≢some}
use Rattle.rules.proofs.Loops.{turn}

-- a run and a direct reading in step
pub record Holds (S : ℕ → Bool) (given : Given) (σ : ℕ → ℕ → Sort) (sc : Scope) (s : State) (d : Now) : Type 0 where
  pub cells : Agrees S given sc d.cells s
  pub outs : (plain given s.gates).outs ≡ d.outs
  pub good : Good σ s

known_at : (m : Sort) (x : Val) → is_held x ≡ false → AtSort m x
known_at m (known t n) e = tt
known_at m (held w k) e = absurd (let z : ◌≡◌ {A = ℕ} 0 1 = cc in omega arith)

-- one turn of a loop that is read directly
abbrev pub turn_now : Given → Name → Stmt → ℕ → Now → Now
turn_now given x p i u = follow given p (keep x 0 i u)

module _ (S : ℕ → Bool) (given : Given) (σ : ℕ → ℕ → Sort) where
  pub holds_more : (sc : Scope) (s u : State) (d : Now) → More given σ s u → Holds S given σ sc s d → Holds S given σ sc u d
  holds_more sc s u d m a = record { cells = agrees_more S given σ sc d.cells s u m a.cells; outs = m.outs ∙ a.outs; good = m.good a.good }

  stepped_good : (s : State) → Good σ s → Good σ (stepped s)
  unfolding stepped
  stepped_good s g = record { gates = g.gates; counted = g.counted }

  put_good : (x i : ℕ) (v : Val) (s : State) → Good σ s → Good σ (put x i v s)
  unfolding put
  put_good x i v s g = record { gates = g.gates; counted = g.counted }

  pub stepped_holds : (sc : Scope) (s : State) (d : Now) → Holds S given σ sc s d → Holds S given σ sc (stepped s) d
  unfolding stepped
  stepped_holds sc s d a = record { cells = stepped_agrees S given sc d.cells s a.cells; outs = a.outs; good = stepped_good s a.good }

  -- a statement leaves what was known
  keeps : (p : Stmt) (sc : Scope) → FineS S σ sc p → (y : ℕ) (b : Known) → lookup sc y ≡ some b → lookup (after p sc) y ≡ some b
  unfolding after
  keeps (declare r x t n) sc f y b e = under S given sc x (declared r t n) f.0.unknown y b e
  keeps (assign r x v) sc f y b e = e
  keeps (loop r x p i l) sc f y b e = e
  keeps (write r x i v) sc f y b e = e
  keeps (branch r g p q) sc f y b e = e
  keeps (out r v) sc f y b e = e
  keeps (then r p q) sc f y b e = keeps q (after p sc) f.1 y b (keeps p sc f.0 y b e)

  -- a value on a wire of the declaration's sort is a cell of it
  wired-cell : (s : State) (b : Known) (m : Made) (v : ℕ) → T (label_k S b) → Wired given σ s (kept_at (type_k b)) m v → Cell S given m.st b m.val v
  wired-cell s b m v h w = record {
    worth = rw (type_kept given σ (type_k b)) at (wired-gives given σ s (kept_at (type_k b)) m v w).worth;
    label = ap is_held w.wire ∙ sym (true_of (label_k S b) h);
    sort = subst (AtSort (kept_at (type_k b))) (sym w.wire) refl;
  }

  -- a declaration of k: the elements below i are set
  record Filling (k : Known) (x : ℕ) (sc : Scope) (i : ℕ) (s : State) (d : Now) : Type 0 where
    all : Holds S given σ sc s d
    set_cells : (j : ℕ) → j < i → Cell S given s k (get_or s.cells (64 * x + j) (known uint 0)) (get_or d.cells (64 * x + j) 0)

  put_filling : (k : Known) (x : ℕ) (sc : Scope) (i : ℕ) (s u : State) (d : Now) (v : Val) → i < 64 → Free sc x → Filling k x sc i s d
      → More given σ s u → Cell S given u k v 0 → Filling k x sc (suc i) (put x i v u) (keep x i 0 d)
  unfolding put keep
  put_filling k x sc i s u d v hi o f m w =
      let a = holds_more sc s u d m f.all in
      record {
        all = record {
          cells = put_out S given sc d.cells u x i v 0 o.low hi o.unknown a.cells;
          outs = a.outs;
          good = put_good x i v u a.good;
        };
        set_cells = λ j l. go a.cells j l (eqb j i) refl;
      }
    where
      old_cell : (j : ℕ) → j < i → Cell S given u k (get_or u.cells (64 * x + j) (known uint 0)) (get_or d.cells (64 * x + j) 0)
      old_cell j h = subst (λ (l : List Val). Cell S given u k (get_or l (64 * x + j) (known uint 0)) (get_or d.cells (64 * x + j) 0)) (sym m.cells)
          (cell_more S given σ s u m k (get_or s.cells (64 * x + j) (known uint 0)) (get_or d.cells (64 * x + j) 0) (f.set_cells j h))

      go : Agrees S given sc d.cells u → (j : ℕ) → j < suc i → (t : Bool) → eqb j i ≡ t
          → Cell S given (put x i v u) k (get_or (set u.cells (64 * x + i) v) (64 * x + j) (known uint 0)) (get_or (set d.cells (64 * x + i) 0) (64 * x + j) 0)
      go a j l true e = rw (
        eqb-true j i e,
        get_or-set_same u.cells (64 * x + i) v (known uint 0) (omega (arith, a.run_length, o.low)),
        get_or-set_same d.cells (64 * x + i) 0 0 (omega (arith, a.now_length, o.low)),
      ) (cell_same S given u (put x i v u) refl refl k v 0 w)
      go a j l false e =
          let ne : j ≢ i = eqb-false j i e in
          rw (
            get_or-set_other u.cells (64 * x + i) (64 * x + j) v (known uint 0) (omega arith),
            get_or-set_other d.cells (64 * x + i) (64 * x + j) 0 0 (omega arith),
          ) (cell_same S given u (put x i v u) refl refl k (get_or u.cells (64 * x + j) (known uint 0)) (get_or d.cells (64 * x + j) 0) (old_cell j (omega arith)))

  zero_top : (t : Ty) → 0 ≤ top_of t
  zero_top t = omega arith

  first_filling : (h : Bool) (r : ℕ) (t : Ty) (n : ℕ) (x : ℕ) (sc : Scope) (i : ℕ) (s : State) (d : Now) → S r ≡ h → i < 64 → Free sc x
      → Filling (declared r t n) x sc i s d → Filling (declared r t n) x sc (suc i) (first h t x i s) (keep x i 0 d)
  unfolding first
  first_filling false r t n x sc i s d e hi o f =
      put_filling (declared r t n) x sc i s s d (known t 0) hi o f (more_refl given σ s) (record { worth = (refl, refl, zero_top t); label = sym e; sort = tt })
  first_filling true r t n x sc i s d e hi o f =
      let m = make (constant 0 (kept_at t)) (kept_at t) s in
      let w = constant_wired given σ s (kept_at t) 0 (zero_top (type_at (kept_at t))) in
      put_filling (declared r t n) x sc i s m.st d m.val hi o f w.more (wired-cell s (declared r t n) m 0 (rw e tt) w)

  firsts_filling : (m : ℕ) (r : ℕ) (t : Ty) (n : ℕ) (x : ℕ) (sc : Scope) (i : ℕ) (s : State) (d : Now) → i + m ≤ 64 → Free sc x
      → Filling (declared r t n) x sc i s d → Filling (declared r t n) x sc (i + m) (firsts (S r) t x i m s) (blank x i m d)
  unfolding firsts blank
  firsts_filling zero r t n x sc i s d hi o f = rw add-zero f
  firsts_filling (suc m) r t n x sc i s d hi o f =
      rw (add-suc i m, ← suc-add i m)
      (firsts_filling m r t n x sc (suc i) (first (S r) t x i s) (keep x i 0 d) (omega arith) o (first_filling (S r) r t n x sc i s d refl (omega arith) o f))

  -- a value stored in a declared name, whose cell holds y
  store_over_holds : (sc : Scope) (s : State) (d : Now) (x i : ℕ) (b : Known) (h : Bool) (m : Made) (v : ℕ) → Holds S given σ sc s d
      → lookup sc x ≡ some b → 4294967295 ≤ count_k b → i < size_k b → Gives given σ h s (type_k b) m v → (T h → T (label_k S b))
      → (y : Val) (n : ℕ) → Cell S given m.st b y n → Holds S given σ sc (store_over y x i m) (keep x i v d)
  unfolding store_over keep put
  store_over_holds sc s d x i b h m v a o hc hi g hb (known t k) n y =
      let q = holds_more sc s m.st d g.more a in
      let unheld = false_of (is_held m.val) (λ t. subst T (sym y.label) (hb (g.label t))) in
      record {
        cells = put_in S given sc d.cells m.st x i m.val v b o hc hi q.cells
            (record { worth = g.worth; label = unheld ∙ y.label; sort = known_at (kept_at (type_k b)) m.val unheld });
        outs = q.outs;
        good = put_good x i m.val m.st q.good;
      }
  store_over_holds sc s d x i b h m v a o hc hi g hb (held w k) n y =
      let p = bring k m in
      let pw = bring-wired given σ h k s m v (subst (λ (t : Ty). Gives given σ h s t m v) (sym y.worth.3) g) in
      let q = holds_more sc s p.st d pw.more a in
      record {
        cells = put_in S given sc d.cells p.st x i p.val v b o hc hi q.cells
            (wired-cell s b p v (subst T y.label tt) (subst (λ (o : Sort). Wired given σ s o p v) y.sort pw));
        outs = q.outs;
        good = put_good x i p.val p.st q.good;
      }

  store_holds : (sc : Scope) (s : State) (d : Now) (x i : ℕ) (b : Known) (h : Bool) (m : Made) (v : ℕ) → Holds S given σ sc s d
      → lookup sc x ≡ some b → 4294967295 ≤ count_k b → i < size_k b → Gives given σ h s (type_k b) m v → (T h → T (label_k S b))
      → Holds S given σ sc (store x i m) (keep x i v d)
  unfolding store cell
  store_holds sc s d x i b h m v a o hc hi g hb =
      store_over_holds sc s d x i b h m v a o hc hi g hb (get_or m.st.cells (64 * x + i) (known uint 0)) (get_or d.cells (64 * x + i) 0)
      ((agrees_more S given σ sc d.cells s m.st g.more a.cells).cells x b o i hi)

  -- an out of wire w
  put_wire_holds : (sc : Scope) (s : State) (d : Now) (w v : ℕ) → Holds S given σ sc s d → w < s.wires → (plain given s.gates).value w ≡ v
      → Holds S given σ sc (put_wire w s) (record { cells = d.cells; outs = v ∷ d.outs })
  unfolding put_wire plain noted value_of wires wired keeps_rules
  put_wire_holds sc s d w v a h e = record {
    cells = record {
      run_length = a.cells.run_length;
      now_length = a.cells.now_length;
      cells = λ x b f i l.
          let k = a.cells.cells x b f i l in
          record { worth = go (type_k b) (get_or s.cells (64 * x + i) (known uint 0)) (get_or d.cells (64 * x + i) 0) k.worth; label = k.label; sort = k.sort };
      caps = a.cells.caps;
      sizes = a.cells.sizes;
    };
    outs = rw (e, a.outs);
    good = record { gates = (rw a.good.counted (lt→ltb w s.wires h), tt, a.good.gates); counted = a.good.counted };
  }
    where
      go : (t : Ty) (x : Val) (n : ℕ) → Worth given s t x n → Worth given (put_wire w s) t x n
      go t (known y n) v w = w
      go t (held k o) v w = w

  put_val_holds : (sc : Scope) (s : State) (d : Now) (t : Ty) (x : Val) (v : ℕ) → Holds S given σ sc s d → Worth given s t x v
      → Holds S given σ sc (put_val x s) (record { cells = d.cells; outs = v ∷ d.outs })
  unfolding put_val
  put_val_holds sc s d t (known y n) v a w =
      let m = make (constant n (kept_at y)) (kept_at y) s in
      let top = subst (λ (z : Ty). n ≤ top_of z) (sym w.1 ∙ sym (type_kept given σ y)) w.2 in
      let k = constant_wired given σ s (kept_at y) n top in
      put_wire_holds sc m.st d (wire_in m.val) v (holds_more sc s m.st d k.more a) k.on (k.worth ∙ w.0)
  put_val_holds sc s d t (held k o) v a w = put_wire_holds sc s d k v a w.0 w.1

  -- one turn of a loop, and all of them
  module _ (sc : Scope) (r x l : ℕ) (p : Stmt) (o : Free sc x) (top : l ≤ 4294967295) (fine : FineS S σ (in_loop r x l sc) p)
      (body : (s : State) (d : Now) → Holds S given σ (in_loop r x l sc) s d → Holds S given σ (after p (in_loop r x l sc)) (run S p s) (follow given p d)) where
    pub enter : (i : ℕ) (s : State) (d : Now) → i ≤ l → Holds S given σ sc s d → Holds S given σ (in_loop r x l sc) (entered x i s) (keep x 0 i d)
    unfolding entered put keep stepped
    enter i s d hi a =
        let q = stepped_holds sc s d a in
        record {
          cells = bind S given sc (set d.cells (64 * x + 0) i) (entered x i s) x (looped r l) o.low (omega arith)
              (put_out S given sc d.cells (stepped s) x 0 (known uint i) i o.low (omega arith) o.unknown q.cells)
              in_cell capped;
          outs = a.outs;
          good = put_good x 0 (known uint i) (stepped s) q.good;
        }
      where
        in_cell : (j : ℕ) → j < 1
            → Cell S given (entered x i s) (looped r l) (get_or (set s.cells (64 * x + 0) (known uint i)) (64 * x + j) (known uint 0)) (get_or (set d.cells (64 * x + 0) i) (64 * x + j) 0)
        in_cell j h =
            let z : j ≡ 0 = omega arith in
            rw (
              z,
              get_or-set_same s.cells (64 * x + 0) (known uint i) (known uint 0) (omega (arith, a.cells.run_length, o.low)),
              get_or-set_same d.cells (64 * x + 0) i 0 (omega (arith, a.cells.now_length, o.low)),
            ) (record { worth = (refl, refl, omega arith); label = refl; sort = tt })

        capped : l < 4294967295 → get_or (set d.cells (64 * x + 0) i) (64 * x + 0) 0 ≤ l
        capped h = rw (get_or-set_same d.cells (64 * x + 0) i 0 (omega (arith, a.cells.now_length, o.low))) hi

    pub turn_holds : (i : ℕ) (s : State) (d : Now) → i ≤ l → Holds S given σ sc s d → Holds S given σ sc (turn S x p i s) (turn_now given x p i d)
    turn_holds i s d hi a =
        let q = body (entered x i s) (keep x 0 i d) (enter i s d hi a) in
        record {
          cells = leave S given sc (in_loop r x l sc) (turn_now given x p i d).cells (turn S x p i s) (under S given sc x (looped r l) o.unknown)
              (leave S given (in_loop r x l sc) (after p (in_loop r x l sc)) (turn_now given x p i d).cells (turn S x p i s) (keeps p (in_loop r x l sc) fine) q.cells);
          outs = q.outs;
          good = q.good;
        }

    turns_hold : (n i : ℕ) (s : State) (d : Now) → n ≤ suc l - i → Holds S given σ sc s d → Holds S given σ sc (turns (turn S x p) n i s) (turns (turn_now given x p) n i d)
    unfolding turns
    turns_hold zero i s d h a = a
    turns_hold (suc n) i s d h a = turns_hold n (suc i) (turn S x p i s) (turn_now given x p i d) (omega arith) (turn_holds i s d (omega arith) a)

  -- the arm that a guard picks, whose names are unknown after it
  pub branch_holds : (n : ℕ) (p q : Stmt) (sc : Scope) → FineS S σ sc p → FineS S σ sc q
      → ((s : State) (d : Now) → Holds S given σ sc s d → Holds S given σ (after p sc) (run S p s) (follow given p d))
      → ((s : State) (d : Now) → Holds S given σ sc s d → Holds S given σ (after q sc) (run S q s) (follow given q d))
      → (s : State) (d : Now) → Holds S given σ sc s d → Holds S given σ sc (arm n (run S p) (run S q) s) (arm n (follow given p) (follow given q) d)
  unfolding arm
  branch_holds zero p q sc f g hp hq s d a =
      let h = hq s d a in
      record { cells = leave S given sc (after q sc) (follow given q d).cells (run S q s) (keeps q sc g) h.cells; outs = h.outs; good = h.good }
  branch_holds (suc n) p q sc f g hp hq s d a =
      let h = hp s d a in
      record { cells = leave S given sc (after p sc) (follow given p d).cells (run S p s) (keeps p sc f) h.cells; outs = h.outs; good = h.good }

  pub stmt_agrees : (p : Stmt) (sc : Scope) → FineS S σ sc p → (s : State) (d : Now) → Holds S given σ sc s d
      → Holds S given σ (after p sc) (run S p s) (follow given p d)
  unfolding run follow after
  stmt_agrees (declare r x t n) sc f s d a =
      let u = stepped_holds sc s d a in
      let k = firsts_filling (elements n) r t n x sc 0 (stepped s) d (omega (arith, f.1)) f.0 (record { all = u; set_cells = λ j h. absurd (omega arith) }) in
      record {
        cells = bind S given sc (blank x 0 (elements n) d).cells (firsts (S r) t x 0 (elements n) (stepped s)) x (declared r t n)
            f.0.low f.1 k.all.cells (λ j h. k.set_cells j (omega arith)) (λ h. absurd (omega arith));
        outs = k.all.outs;
        good = k.all.good;
      }
  stmt_agrees (assign r x e) sc f s d a =
      let u = stepped_holds sc s d a in
      let n = f.0 in
      let g = expr_agrees S given σ sc d.cells e f.1 (stepped s) u.cells in
      store_holds sc (stepped s) d x 0 n.is (S (row_e e)) (run_e S e (stepped s)) (direct given e d.cells) u n.found n.uncounted (size_pos n.is)
      (rw n.type at g) n.label
  stmt_agrees (loop r x p i l) sc f s d a =
      turns_hold sc r x l p f.0 f.1 f.2 (stmt_agrees p (in_loop r x l sc) f.2) (suc l - i) i (stepped s) d (omega arith) (stepped_holds sc s d a)
  stmt_agrees (write r x i e) sc f s d a =
      let u = stepped_holds sc s d a in
      let n = f.0 in
      let m = run_e S i (stepped s) in
      let h = expr_agrees S given σ sc d.cells i f.2 (stepped s) u.cells in
      let j = number_worth given σ m.st (type_e sc i) m.val (direct given i d.cells) (λ t. f.1.public (h.label t)) h.worth in
      let v = holds_more sc (stepped s) m.st d h.more u in
      let g = expr_agrees S given σ sc d.cells e f.3 m.st v.cells in
      let below = index_below S given σ sc d.cells (stepped s) u.cells x n.is n.found i f.1.below in
      rw (← j) (store_holds sc m.st d x (number_in m.val) n.is (S (row_e e)) (run_e S e m.st) (direct given e d.cells) v n.found n.uncounted
      (below_size n.is (number_in m.val) (rw j below)) (rw n.type at g) n.label)
  stmt_agrees (branch r g p q) sc f s d a =
      let u = stepped_holds sc s d a in
      let m = run_e S g (stepped s) in
      let h = expr_agrees S given σ sc d.cells g f.2 (stepped s) u.cells in
      let n = number_worth given σ m.st (type_e sc g) m.val (direct given g d.cells) (λ t. f.0 (h.label t)) h.worth in
      rw (← n) (branch_holds (number_in m.val) p q sc f.3 f.4 (stmt_agrees p sc f.3) (stmt_agrees q sc f.4) m.st d (holds_more sc (stepped s) m.st d h.more u))
  stmt_agrees (out r e) sc f s d a =
      let u = stepped_holds sc s d a in
      let m = run_e S e (stepped s) in
      let h = expr_agrees S given σ sc d.cells e f (stepped s) u.cells in
      put_val_holds sc m.st d (type_e sc e) m.val (direct given e d.cells) (holds_more sc (stepped s) m.st d h.more u) h.worth
  stmt_agrees (then r p q) sc f s d a = stmt_agrees q (after p sc) f.1 (run S p s) (follow given p d) (stmt_agrees p sc f.0 s d a)

  -- at the start nothing is in scope
  pub start_holds : Holds S given σ [] start begin
  unfolding start begin plain lookup wires
  start_holds = record {
    cells = record {
      run_length = length-replicate 4096 (known uint 0);
      now_length = length-replicate {A = ℕ} 4096 0;
      cells = λ x b f. absurd (none≢some b f);
      caps = λ x b f. absurd (none≢some b f);
      sizes = λ x b f. absurd (none≢some b f);
    };
    outs = refl;
    good = record { gates = tt; counted = refl };
  }
