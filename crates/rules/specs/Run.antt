-- Document 01, "From run to circuit": Figures 10 and 11 run with every public value known. No limit stands here: 9 and 10
-- compare with what the run counts. Parts go left to right.
use Rattle.std.specs.Prelude.{ℕ, zero, suc, ◌+◌, ◌*◌, ◌-◌, Bool, true, false, List, [], ◌∷◌, get_or, set, replicate}
use Rattle.rules.specs.Rows.{Row, Wire, Name, Ty, uint, bool, Op}
use Rattle.rules.specs.Tree.{Expr, number, truth, name, two, choose, element, input}
use Rattle.rules.specs.Tree.{Stmt, declare, assign, loop, write, branch, out, then}
use Rattle.rules.specs.Scope.{elements}
use Rattle.rules.specs.Types.{result_type}
use Rattle.rules.specs.Sorts.{Sort, same, type_at, kept_at, muxed_at, side_at, result_at, applied, arm}
use Rattle.rules.specs.Gates.{Gate, both, mux, constant, convert, entry, output}

-- Figure 9, base values: a public value is known, with its type; of a secret one the wire and its sort are
pub data Val : Type 0 where
  known : Ty → ℕ → Val
  held : Wire → Sort → Val

-- the cells, 64 for each name (a name is in scope once, by check 5, and an array has at most 64 elements); the gates, newest
-- first; how many wires and steps
pub record State : Type 0 where
  pub cells : List Val
  pub gates : List Gate
  pub wires : ℕ
  pub steps : ℕ

-- what an expression gives, and the state then
pub record Made : Type 0 where
  pub val : Val
  pub st : State

-- what an expression does in a state
abbrev pub Act : Type 0
Act = State → Made

-- the wire and the number of a value; each is asked only of the values that have it
abbrev pub wire_in : Val → Wire
wire_in (known t n) = 0
wire_in (held w m) = w

abbrev pub number_in : Val → ℕ
number_in (known t n) = n
number_in (held w m) = 0

-- the type of a value
abbrev pub type_v : Val → Ty
type_v (known t n) = t
type_v (held w m) = type_at m

-- element i of name x: read, and set
unfoldable pub cell : State → Name → ℕ → Val
cell s x i = get_or s.cells (64 * x + i) (known uint 0)

unfoldable pub put : Name → ℕ → Val → State → State
put x i v s = record { cells = set s.cells (64 * x + i) v; gates = s.gates; wires = s.wires; steps = s.steps }

-- one step
unfoldable pub stepped : State → State
stepped s = record { cells = s.cells; gates = s.gates; wires = s.wires; steps = suc s.steps }

-- a gate that makes a wire of sort m: wires are numbered from 0 in order of making
unfoldable pub make : (Wire → Gate) → Sort → Act
make g m s = record {
  val = held s.wires m;
  st = record { cells = s.cells; gates = g s.wires ∷ s.gates; wires = suc s.wires; steps = s.steps };
}

-- bringing to a sort: a public value makes one constant gate; a wire of another sort one convert; a wire of that sort nothing
unfoldable pub converted : Bool → Wire → Sort → Sort → Act
converted true w k m s = record { val = held w k; st = s }
converted false w k m s = make (convert w m) m s

unfoldable pub bring_val : Sort → Val → Act
bring_val m (known t n) s = make (constant n m) m s
bring_val m (held w k) s = converted (same k m) w k m s

unfoldable pub bring : Sort → Made → Made
bring m v = bring_val m v.val v.st

-- an operator, public or secret: each side is brought to its sort right after the side's own gates
unfoldable pub sided : Bool → Op → Act → Act → Act
sided false o f g s =
    let p = f s in
    let q = g p.st in
    record { val = known (result_type o) (applied o (number_in p.val) (number_in q.val)); st = q.st }
sided true o f g s =
    let p = bring (side_at o) (f s) in
    let q = bring (side_at o) (g p.st) in
    make (both o (wire_in p.val) (wire_in q.val)) (result_at o) q.st

-- a public guard: the chosen arm, at sort 1 or 3 where the whole is secret
unfoldable pub kept : Bool → Made → Made
kept false v = v
kept true v = bring (kept_at (type_v v.val)) v

-- a secret guard: both arms brought to sort m, the first one made already, and one mux
unfoldable pub muxed_to : Sort → Wire → Made → Act → Made
muxed_to m g u h =
    let p = bring m u in
    let q = bring m (h p.st) in
    make (mux g (wire_in p.val) (wire_in q.val)) m q.st

-- uint arms to sort 2, bool arms to sort 3
unfoldable pub muxed : Wire → Act → Act → Act
muxed g f h s =
    let u = f s in
    muxed_to (muxed_at (type_v u.val)) g u h

-- a cond, by its guard's value
unfoldable pub guarded : Bool → Val → Act → Act → Act
guarded secret (known t n) f g s = kept secret (arm n f g s)
guarded secret (held w m) f g s = muxed w f g s

-- Figure 10: an expression, where the rows of S are secret. Every read of an input makes an input gate
unfoldable pub run_e : (Row → Bool) → Expr → Act
run_e S (number r n) s = record { val = known uint n; st = s }
run_e S (truth r n) s = record { val = known bool n; st = s }
run_e S (name r x) s = record { val = cell s x 0; st = s }
run_e S (two r o a b) s = sided (S r) o (run_e S a) (run_e S b) s
run_e S (choose r g a b) s =
    let p = run_e S g s in
    guarded (S r) p.val (run_e S a) (run_e S b) p.st
run_e S (element r x i) s =
    let p = run_e S i s in
    record { val = cell p.st x (number_in p.val); st = p.st }
run_e S (input r t d n) s = make (entry d n (kept_at t)) (kept_at t) s

-- a declaration starts at 0 or false; a secret one makes a constant gate, an array one for each element
unfoldable pub first : Bool → Ty → Name → ℕ → State → State
first false t x i s = put x i (known t 0) s
first true t x i s =
    let p = make (constant 0 (kept_at t)) (kept_at t) s in
    put x i p.val p.st

-- n elements from element i on
unfoldable pub firsts : Bool → Ty → Name → ℕ → ℕ → State → State
firsts h t x i zero s = s
firsts h t x i (suc n) s = firsts h t x (suc i) n (first h t x i s)

-- assignment and element write, to the declaration's sort. That is read off the cell: a public declaration's cells are known,
-- a secret one's are held at its sort, from its constant gates on (a theorem)
unfoldable pub store_over : Val → Name → ℕ → Made → State
store_over (known t n) x i v = put x i v.val v.st
store_over (held w m) x i v =
    let p = bring m v in
    put x i p.val p.st

unfoldable pub store : Name → ℕ → Made → State
store x i v = store_over (cell v.st x i) x i v

-- out: at its own sort; a public value to sort 1 or 3
unfoldable pub put_wire : Wire → State → State
put_wire w s = record { cells = s.cells; gates = output w ∷ s.gates; wires = s.wires; steps = s.steps }

unfoldable pub put_val : Val → State → State
put_val (known t n) s =
    let p = make (constant n (kept_at t)) (kept_at t) s in
    put_wire (wire_in p.val) p.st
put_val (held w m) s = put_wire w s

-- a loop's turn begins: one step, and the loop's name is i
unfoldable pub entered : Name → ℕ → State → State
entered x i s = put x 0 (known uint i) (stepped s)

-- n turns of a loop, from i on
unfoldable pub turns : {A : Type 0} → (ℕ → A → A) → ℕ → ℕ → A → A
turns f zero i s = s
turns f (suc n) i s = turns f n (suc i) (f i s)

-- Figure 11: a statement. Steps: one each time a statement other than "then" is reached, and one for each loop turn.
-- A loop with first above last runs no turn; the guard of an if, public by check 7, runs only its arm
unfoldable pub run : (Row → Bool) → Stmt → State → State
run S (declare r x t n) s = firsts (S r) t x 0 (elements n) (stepped s)
run S (assign r x e) s = store x 0 (run_e S e (stepped s))
run S (loop r x b f l) s = turns (λ i u. run S b (entered x i u)) (suc l - f) f (stepped s)
run S (write r x i e) s =
    let p = run_e S i (stepped s) in
    store x (number_in p.val) (run_e S e p.st)
run S (branch r g a b) s =
    let p = run_e S g (stepped s) in
    arm (number_in p.val) (run S a) (run S b) p.st
run S (out r e) s =
    let p = run_e S e (stepped s) in
    put_val p.val p.st
run S (then r a b) s = run S b (run S a s)

-- before the first step
unfoldable pub start : State
start = record { cells = replicate 4096 (known uint 0); gates = []; wires = 0; steps = 0 }
