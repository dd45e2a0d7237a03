-- No access passes an end: in a fine program every array access of the direct reading and of the run is below the length.
use Prim.Native.Nat.{ℕ, zero, suc, ◌-◌, ◌≤◌, ◌<◌}
use mathlib.Core.Path.{◌≡◌, sym, ◌∙◌}
use mathlib.Core.Bool.{Bool, true, false}
use mathlib.Core.Option.{some}
use mathlib.Core.List.{List, [], ◌∷◌, ◌++◌}
use native.Mathlib.Omega.{arith}
use Rattle.rules.specs.Tree.{Expr, number, truth, name, two, choose, element, input, row_e}
use Rattle.rules.specs.Tree.{Stmt, declare, assign, loop, write, branch, out, then}
use Rattle.rules.specs.Scope.{Known, Scope, lookup, length_k, in_loop, after}
use Rattle.rules.specs.Types.{type_e}
use Rattle.rules.specs.Sorts.{Sort, type_at, muxed_at, side_at, arm}
use Rattle.rules.specs.Run.{Val, known, held, State, number_in, type_v, stepped, entered, bring, run_e, run}
use Rattle.rules.specs.Plain.{Given}
use Rattle.rules.specs.Direct.{direct, Now, keep, follow}
use Rattle.rules.specs.Accesses.{Access, access, AllBelow, gathered, read_accesses_e, read_accesses, after_side, by_guard, run_accesses_e, run_accesses}
use Rattle.rules.proofs.Making.{number_worth, bring-wired, type_worth, type_side, type_muxed}
use Rattle.rules.proofs.Fine.{Free, Indexes, FineE, FineS}
use Rattle.rules.proofs.Expressions.{Agrees, agrees_more, index_below, expr_agrees}
use Rattle.rules.proofs.Statements.{turn_now, Holds, stepped_holds, holds_more, enter, turn_holds, stmt_agrees}
use Rattle.rules.proofs.Loops.{turn}

-- accesses one after another
below_both : (xs ys : List Access) → AllBelow xs → AllBelow ys → AllBelow (xs ++ ys)
below_both [] ys p q = q
below_both (x ∷ xs) ys p q = (p.0, below_both xs ys p.1 q)

-- the arm that a number picks
below-arm : (n : ℕ) (xs ys : List Access) → AllBelow xs → AllBelow ys → AllBelow (arm n xs ys)
unfolding arm
below-arm zero xs ys p q = q
below-arm (suc n) xs ys p q = p

module _ (S : ℕ → Bool) (given : Given) (σ : ℕ → ℕ → Sort) where
  -- the direct reading of a fine expression
  read_expr_below : (e : Expr) (sc : Scope) (c : List ℕ) (s : State) → FineE S σ sc e → Agrees S given sc c s → AllBelow (read_accesses_e given sc c e)
  unfolding read_accesses_e
  read_expr_below (number r n) sc c s f a = tt
  read_expr_below (truth r n) sc c s f a = tt
  read_expr_below (name r x) sc c s f a = tt
  read_expr_below (two r o e g) sc c s f a =
      below_both (read_accesses_e given sc c e) (read_accesses_e given sc c g) (read_expr_below e sc c s f.1 a) (read_expr_below g sc c s f.2 a)
  read_expr_below (choose r k e g) sc c s f a =
      below_both (read_accesses_e given sc c k) (arm (direct given k c) (read_accesses_e given sc c e) (read_accesses_e given sc c g)) (read_expr_below k sc c s f.1 a)
      (below-arm (direct given k c) (read_accesses_e given sc c e) (read_accesses_e given sc c g) (read_expr_below e sc c s f.2 a) (read_expr_below g sc c s f.3 a))
  read_expr_below (element r x i) sc c s f a =
      below_both (read_accesses_e given sc c i) (access sc x (direct given i c) ∷ []) (read_expr_below i sc c s f.2 a)
      (rw f.0.found (index_below S given σ sc c s a x f.0.is f.0.found i f.1.below), tt)
  read_expr_below (input r t d n) sc c s f a = tt

  -- an index in the run is the direct reading's
  run_index : (i : Expr) (sc : Scope) (c : List ℕ) (s : State) (x : ℕ) (b : Known) → lookup sc x ≡ some b → Indexes S sc b i → FineE S σ sc i → Agrees S given sc c s
      → number_in (run_e S i s).val < length_k b
  run_index i sc c s x b e n f a =
      let g = expr_agrees S given σ sc c i f s a in
      let v = number_worth given σ (run_e S i s).st (type_e sc i) (run_e S i s).val (direct given i c) (λ t. n.public (g.label t)) g.worth in
      rw v (index_below S given σ sc c s a x b e i n.below)

  -- cells agree after a part is run, and after its value is brought to a sort of its type
  after-part : (e : Expr) (sc : Scope) (c : List ℕ) (s : State) → FineE S σ sc e → Agrees S given sc c s → Agrees S given sc c (run_e S e s).st
  after-part e sc c s f a = agrees_more S given σ sc c s (run_e S e s).st (expr_agrees S given σ sc c e f s a).more a

  after_side_lem : (h : Bool) (o : Sort) (e : Expr) (sc : Scope) (c : List ℕ) (s : State) → type_at o ≡ type_e sc e → FineE S σ sc e → Agrees S given sc c s
      → Agrees S given sc c (after_side h o (run_e S e s))
  after_side_lem false o e sc c s t f a = after-part e sc c s f a
  after_side_lem true o e sc c s t f a =
      let g = expr_agrees S given σ sc c e f s a in
      let w = bring-wired given σ (S (row_e e)) o s (run_e S e s) (direct given e c) (rw (← t) at g) in
      agrees_more S given σ sc c s (bring o (run_e S e s)).st w.more a

  -- the run of a fine expression
  run_expr_below : (e : Expr) (sc : Scope) (c : List ℕ) (s : State) → FineE S σ sc e → Agrees S given sc c s → AllBelow (run_accesses_e S sc s e)
  unfolding run_accesses_e
  run_expr_below (number r n) sc c s f a = tt
  run_expr_below (truth r n) sc c s f a = tt
  run_expr_below (name r x) sc c s f a = tt
  run_expr_below (two r o e g) sc c s f a =
      let u = after_side (S r) (side_at o) (run_e S e s) in
      below_both (run_accesses_e S sc s e) (run_accesses_e S sc u g) (run_expr_below e sc c s f.1 a)
      (run_expr_below g sc c u f.2 (after_side_lem (S r) (side_at o) e sc c s (type_side given σ o ∙ sym f.0.left_uint) f.1 a))
  run_expr_below (choose r k e g) sc c s f a =
      let p = run_e S k s in
      let agreed = after-part k sc c s f.1 a in
      let u = run_e S e p.st in
      let m = muxed_at (type_v u.val) in
      let t = type_worth given σ u.st (type_e sc e) u.val (direct given e c) (expr_agrees S given σ sc c e f.2 p.st agreed).worth in
      let later = after_side_lem true m e sc c p.st (type_muxed given σ (type_v u.val) ∙ t) f.2 agreed in
      below_both (run_accesses_e S sc s k) (by_guard p.val (run_accesses_e S sc p.st e) (run_accesses_e S sc p.st g) (run_accesses_e S sc (after_side true m u) g))
      (run_expr_below k sc c s f.1 a)
      (by_guard_lem p.val (run_accesses_e S sc p.st e) (run_accesses_e S sc p.st g) (run_accesses_e S sc (after_side true m u) g)
      (run_expr_below e sc c p.st f.2 agreed) (run_expr_below g sc c p.st f.3 agreed) (run_expr_below g sc c (after_side true m u) f.3 later))
    where
      by_guard_lem : (v : Val) (first second later : List Access) → AllBelow first → AllBelow second → AllBelow later → AllBelow (by_guard v first second later)
      by_guard_lem (known t n) first second later x y z = below-arm n first second x y
      by_guard_lem (held w m) first second later x y z = below_both first later x z
  run_expr_below (element r x i) sc c s f a =
      below_both (run_accesses_e S sc s i) (access sc x (number_in (run_e S i s).val) ∷ []) (run_expr_below i sc c s f.2 a)
      (rw f.0.found (run_index i sc c s x f.0.is f.0.found f.1 f.2 a), tt)
  run_expr_below (input r t d n) sc c s f a = tt

  -- both readings of a fine statement
  pub record Below (sc : Scope) (p : Stmt) (s : State) (d : Now) : Type 0 where
    pub read : AllBelow (read_accesses given sc p d)
    pub run : AllBelow (run_accesses S sc p s)

  -- the turns of a loop, whose body is below in each
  module _ (sc : Scope) (r x l : ℕ) (p : Stmt) (o : Free sc x) (top : l ≤ 4294967295) (fine : FineS S σ (in_loop r x l sc) p)
      (body : (s : State) (d : Now) → Holds S given σ (in_loop r x l sc) s d → Below (in_loop r x l sc) p s d) where
    abbrev read_in : ℕ → Now → List Access
    read_in i u = read_accesses given (in_loop r x l sc) p (keep x 0 i u)

    abbrev run_in : ℕ → State → List Access
    run_in i u = run_accesses S (in_loop r x l sc) p (entered x i u)

    turns-below : (n i : ℕ) (s : State) (d : Now) → n ≤ suc l - i → Holds S given σ sc s d
        → AllBelow (gathered read_in (turn_now given x p) n i d) × AllBelow (gathered run_in (turn S x p) n i s)
    unfolding gathered
    turns-below zero i s d h a = (tt, tt)
    turns-below (suc n) i s d h a =
        let all = stmt_agrees S given σ p (in_loop r x l sc) fine in
        let b = body (entered x i s) (keep x 0 i d) (enter S given σ sc r x l p o top fine all i s d (omega arith) a) in
        let rest = turns-below n (suc i) (turn S x p i s) (turn_now given x p i d) (omega arith) (turn_holds S given σ sc r x l p o top fine all i s d (omega arith) a) in (
          below_both (read_in i d) (gathered read_in (turn_now given x p) n (suc i) (turn_now given x p i d)) b.read rest.0,
          below_both (run_in i s) (gathered run_in (turn S x p) n (suc i) (turn S x p i s)) b.run rest.1,
        )

  pub stmt_below : (p : Stmt) (sc : Scope) → FineS S σ sc p → (s : State) (d : Now) → Holds S given σ sc s d → Below sc p s d
  unfolding read_accesses run_accesses
  stmt_below (declare r x t n) sc f s d a = record { read = tt; run = tt }
  stmt_below (assign r x e) sc f s d a =
      let u = stepped_holds S given σ sc s d a in
      record {
        read = read_expr_below e sc d.cells s f.1 a.cells;
        run = run_expr_below e sc d.cells (stepped s) f.1 u.cells;
      }
  stmt_below (loop r x p i l) sc f s d a =
      let all = turns-below sc r x l p f.0 f.1 f.2 (stmt_below p (in_loop r x l sc) f.2) (suc l - i) i (stepped s) d (omega arith) (stepped_holds S given σ sc s d a) in
      record { read = all.0; run = all.1 }
  stmt_below (write r x i e) sc f s d a =
      let u = stepped_holds S given σ sc s d a in
      let m = run_e S i (stepped s) in
      let h = expr_agrees S given σ sc d.cells i f.2 (stepped s) u.cells in
      let v = holds_more S given σ sc (stepped s) m.st d h.more u in
      record {
        read = below_both (read_accesses_e given sc d.cells i) (read_accesses_e given sc d.cells e ++ access sc x (direct given i d.cells) ∷ [])
            (read_expr_below i sc d.cells s f.2 a.cells)
            (below_both (read_accesses_e given sc d.cells e) (access sc x (direct given i d.cells) ∷ []) (read_expr_below e sc d.cells s f.3 a.cells)
            (rw f.0.found (index_below S given σ sc d.cells s a.cells x f.0.is f.0.found i f.1.below), tt));
        run = below_both (run_accesses_e S sc (stepped s) i) (run_accesses_e S sc m.st e ++ access sc x (number_in m.val) ∷ [])
            (run_expr_below i sc d.cells (stepped s) f.2 u.cells)
            (below_both (run_accesses_e S sc m.st e) (access sc x (number_in m.val) ∷ []) (run_expr_below e sc d.cells m.st f.3 v.cells)
            (rw f.0.found (run_index i sc d.cells (stepped s) x f.0.is f.0.found f.1 f.2 u.cells), tt));
      }
  stmt_below (branch r g p q) sc f s d a =
      let u = stepped_holds S given σ sc s d a in
      let m = run_e S g (stepped s) in
      let h = expr_agrees S given σ sc d.cells g f.2 (stepped s) u.cells in
      let v = holds_more S given σ sc (stepped s) m.st d h.more u in
      record {
        read = below_both (read_accesses_e given sc d.cells g) (arm (direct given g d.cells) (read_accesses given sc p) (read_accesses given sc q) d)
            (read_expr_below g sc d.cells s f.2 a.cells)
            (read_arm (direct given g d.cells) (stmt_below p sc f.3 s d a).read (stmt_below q sc f.4 s d a).read);
        run = below_both (run_accesses_e S sc (stepped s) g) (arm (number_in m.val) (run_accesses S sc p) (run_accesses S sc q) m.st)
            (run_expr_below g sc d.cells (stepped s) f.2 u.cells)
            (run-arm m.st (number_in m.val) (stmt_below p sc f.3 m.st d v).run (stmt_below q sc f.4 m.st d v).run);
      }
    where
      read_arm : (n : ℕ) → AllBelow (read_accesses given sc p d) → AllBelow (read_accesses given sc q d) → AllBelow (arm n (read_accesses given sc p) (read_accesses given sc q) d)
      read_arm zero x y = unfold arm in y
      read_arm (suc n) x y = unfold arm in x

      run-arm : (u : State) (n : ℕ) → AllBelow (run_accesses S sc p u) → AllBelow (run_accesses S sc q u) → AllBelow (arm n (run_accesses S sc p) (run_accesses S sc q) u)
      run-arm u zero x y = unfold arm in y
      run-arm u (suc n) x y = unfold arm in x
  stmt_below (out r e) sc f s d a =
      let u = stepped_holds S given σ sc s d a in
      record {
        read = read_expr_below e sc d.cells s f a.cells;
        run = run_expr_below e sc d.cells (stepped s) f u.cells;
      }
  stmt_below (then r p q) sc f s d a =
      let one = stmt_below p sc f.0 s d a in
      let other = stmt_below q (after p sc) f.1 (run S p s) (follow given p d) (stmt_agrees S given σ p sc f.0 s d a) in
      record {
        read = below_both (read_accesses given sc p d) (read_accesses given (after p sc) q (follow given p d)) one.read other.read;
        run = below_both (run_accesses S sc p s) (run_accesses S (after p sc) q (run S p s)) one.run other.run;
      }
