-- One turn of a loop; and loops that are too long to unfold: what n turns add, what they leave alone, and the same of a loop that is run.
use Prim.Native.Nat.{ℕ, zero, suc, ◌+◌, ◌*◌, ◌-◌}
use mathlib.Core.Path.{◌≡◌, refl, ◌∙◌}
use mathlib.Core.Bool.{Bool}
use native.Mathlib.Nat.{zero-mul, suc-mul}
use native.Mathlib.Omega.{arith}
use Rattle.rules.specs.Rows.{uint}
use Rattle.rules.specs.Tree.{Stmt, loop}
use Rattle.rules.specs.Run.{Val, known, State, put, stepped, entered, turns, run}

-- where each turn adds c, n turns add n times c
module _ {A : Type 0} (amount : A → ℕ) (f : ℕ → A → A) (c : ℕ) (each : (i : ℕ) (s : A) → amount (f i s) ≡ amount s + c) where
  pub turns_add : (n i : ℕ) (s : A) → amount (turns f n i s) ≡ amount s + n * c
  unfolding turns
  turns_add zero i s = rw zero-mul (omega arith)
  turns_add (suc n) i s = rw suc-mul (omega (arith, turns_add n (suc i) (f i s), each i s))

-- what no turn changes, n turns do not change
module _ {A B : Type 0} (part : A → B) (f : ℕ → A → A) (each : (i : ℕ) (s : A) → part (f i s) ≡ part s) where
  pub turns-keep : (n i : ℕ) (s : A) → part (turns f n i s) ≡ part s
  unfolding turns
  turns-keep zero i s = refl
  turns-keep (suc n) i s = turns-keep n (suc i) (f i s) ∙ each i s

-- a loop with name x and this body, run where the rows of S are secret
module _ (S : ℕ → Bool) (x : ℕ) (body : Stmt) where
  -- one turn of a loop that is run
  abbrev pub turn : ℕ → State → State
  turn i s = run S body (entered x i s)

  -- a loop is its turns, after a step
  pub run_loop : (r f l : ℕ) (s : State) → run S (loop r x body f l) s ≡ turns turn (suc l - f) f (stepped s)
  unfolding run
  run_loop r f l s = refl

  -- a turn whose body adds c steps adds 1 + c, and the loop 1 + turns * (1 + c)
  module _ (c : ℕ) (each : (s : State) → (run S body s).steps ≡ s.steps + c) where
    turn_steps : (i : ℕ) (s : State) → (turn i s).steps ≡ s.steps + (1 + c)
    unfolding entered put stepped
    turn_steps i s = omega (arith, each (entered x i s))

    pub loop_steps : (r f l : ℕ) (s : State) → (run S (loop r x body f l) s).steps ≡ s.steps + (1 + (suc l - f) * (1 + c))
    unfolding stepped
    loop_steps r f l s = rw run_loop (omega (arith, turns_add (λ u. u.steps) turn (1 + c) turn_steps (suc l - f) f (stepped s)))

  -- what the body leaves alone, and neither a step nor the loop's name changes, a turn and the loop leave alone
  module _ {A : Type 0} (part : State → A) (step : (s : State) → part (stepped s) ≡ part s)
      (cell : (i : ℕ) (v : Val) (s : State) → part (put x i v s) ≡ part s) (each : (s : State) → part (run S body s) ≡ part s) where
    turn_keeps : (i : ℕ) (s : State) → part (turn i s) ≡ part s
    unfolding entered
    turn_keeps i s = each (entered x i s) ∙ cell 0 (known uint i) (stepped s) ∙ step s

    pub loop_keeps : (r f l : ℕ) (s : State) → part (run S (loop r x body f l) s) ≡ part s
    loop_keeps r f l s = rw run_loop (turns-keep part turn turn_keeps (suc l - f) f (stepped s) ∙ step s)
