-- Demand 2, "no array access passes an end": the array accesses of a direct reading (SE_AREAD, SC_AWRITE) and of a run
-- (EE_AREAD, EC_AWRITE), the index of each and the array's length, which those rules want it below.
use Rattle.std.specs.Prelude.{ℕ, zero, suc, ◌-◌, ◌<◌, Bool, true, false, List, [], ◌∷◌, ◌++◌}
use Rattle.rules.specs.Rows.{Row, Name}
use Rattle.rules.specs.Tree.{Expr, number, truth, name, two, choose, element, input}
use Rattle.rules.specs.Tree.{Stmt, declare, assign, loop, write, branch, out, then}
use Rattle.rules.specs.Scope.{Scope, lookup, length_found, in_loop, after}
use Rattle.rules.specs.Sorts.{Sort, muxed_at, side_at, arm}
use Rattle.rules.specs.Run.{Val, known, held, State, Made, number_in, type_v, stepped, entered, bring, run_e, run}
use Rattle.rules.specs.Plain.{Given}
use Rattle.rules.specs.Direct.{direct, Now, keep, follow}

pub record Access : Type 0 where
  pub index : ℕ
  pub length : ℕ

-- an access of name x in a scope
abbrev pub access : Scope → Name → ℕ → Access
access sc x i = record { index = i; length = length_found (lookup sc x) }

-- every access lies below its array's length
abbrev pub AllBelow : List Access → Type 0
AllBelow [] = Unit {0}
AllBelow (a ∷ rest) = (a.index < a.length) × AllBelow rest

-- what n turns from i on show, each in the state that the turns before it leave
unfoldable pub gathered : {A : Type 0} → (ℕ → A → List Access) → (ℕ → A → A) → ℕ → ℕ → A → List Access
gathered seen f zero i s = []
gathered seen f (suc n) i s = seen i s ++ gathered seen f n (suc i) (f i s)

-- read directly: of a cond only the chosen arm
unfoldable pub read_accesses_e : Given → Scope → List ℕ → Expr → List Access
read_accesses_e given sc c (number r n) = []
read_accesses_e given sc c (truth r n) = []
read_accesses_e given sc c (name r x) = []
read_accesses_e given sc c (two r o a b) = read_accesses_e given sc c a ++ read_accesses_e given sc c b
read_accesses_e given sc c (choose r g a b) =
    read_accesses_e given sc c g ++ arm (direct given g c) (read_accesses_e given sc c a) (read_accesses_e given sc c b)
read_accesses_e given sc c (element r x i) = read_accesses_e given sc c i ++ access sc x (direct given i c) ∷ []
read_accesses_e given sc c (input r t d n) = []

unfoldable pub read_accesses : Given → Scope → Stmt → Now → List Access
read_accesses given sc (declare r x t n) s = []
read_accesses given sc (assign r x e) s = read_accesses_e given sc s.cells e
read_accesses given sc (loop r x b f l) s =
    gathered (λ i u. read_accesses given (in_loop r x l sc) b (keep x 0 i u)) (λ i u. follow given b (keep x 0 i u)) (suc l - f) f s
read_accesses given sc (write r x i e) s =
    read_accesses_e given sc s.cells i ++ (read_accesses_e given sc s.cells e ++ access sc x (direct given i s.cells) ∷ [])
read_accesses given sc (branch r g a b) s =
    read_accesses_e given sc s.cells g ++ arm (direct given g s.cells) (read_accesses given sc a) (read_accesses given sc b) s
read_accesses given sc (out r e) s = read_accesses_e given sc s.cells e
read_accesses given sc (then r a b) s = read_accesses given sc a s ++ read_accesses given (after a sc) b (follow given a s)

-- in a run, each part in the state that it is run in: the second side of an operator after the first is brought to its sort
abbrev pub after_side : Bool → Sort → Made → State
after_side false m u = u.st
after_side true m u = (bring m u).st

-- of a cond with a known guard the chosen arm; with a secret one both, the second after the first is brought to its sort
abbrev pub by_guard : Val → List Access → List Access → List Access → List Access
by_guard (known t n) first second later = arm n first second
by_guard (held w m) first second later = first ++ later

unfoldable pub run_accesses_e : (Row → Bool) → Scope → State → Expr → List Access
run_accesses_e S sc s (number r n) = []
run_accesses_e S sc s (truth r n) = []
run_accesses_e S sc s (name r x) = []
run_accesses_e S sc s (two r o a b) = run_accesses_e S sc s a ++ run_accesses_e S sc (after_side (S r) (side_at o) (run_e S a s)) b
run_accesses_e S sc s (choose r g a b) =
    let p = run_e S g s in
    let u = run_e S a p.st in
    let later = after_side true (muxed_at (type_v u.val)) u in
    run_accesses_e S sc s g
    ++ by_guard p.val (run_accesses_e S sc p.st a) (run_accesses_e S sc p.st b) (run_accesses_e S sc later b)
run_accesses_e S sc s (element r x i) = run_accesses_e S sc s i ++ access sc x (number_in (run_e S i s).val) ∷ []
run_accesses_e S sc s (input r t d n) = []

unfoldable pub run_accesses : (Row → Bool) → Scope → Stmt → State → List Access
run_accesses S sc (declare r x t n) s = []
run_accesses S sc (assign r x e) s = run_accesses_e S sc (stepped s) e
run_accesses S sc (loop r x b f l) s =
    gathered (λ i u. run_accesses S (in_loop r x l sc) b (entered x i u)) (λ i u. run S b (entered x i u)) (suc l - f) f (stepped s)
run_accesses S sc (write r x i e) s =
    let p = run_e S i (stepped s) in
    run_accesses_e S sc (stepped s) i ++ (run_accesses_e S sc p.st e ++ access sc x (number_in p.val) ∷ [])
run_accesses S sc (branch r g a b) s =
    let p = run_e S g (stepped s) in
    run_accesses_e S sc (stepped s) g ++ arm (number_in p.val) (run_accesses S sc a) (run_accesses S sc b) p.st
run_accesses S sc (out r e) s = run_accesses_e S sc (stepped s) e
run_accesses S sc (then r a b) s = run_accesses S sc a s ++ run_accesses S (after a sc) b (run S a s)
