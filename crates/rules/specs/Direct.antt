-- The statements read directly on the inputs: Figures 3 and 4, with document 01's + that wraps. `given d n` is input n of
-- desk d.
use Rattle.std.specs.Prelude.{ℕ, zero, suc, ◌+◌, ◌*◌, ◌-◌, List, [], ◌∷◌, get_or, set, replicate}
use Rattle.rules.specs.Rows.{Name}
use Rattle.rules.specs.Tree.{Expr, number, truth, name, two, choose, element, input}
use Rattle.rules.specs.Tree.{Stmt, declare, assign, loop, write, branch, out, then}
use Rattle.rules.specs.Scope.{elements}
use Rattle.rules.specs.Sorts.{applied, arm}
use Rattle.rules.specs.Run.{turns}
use Rattle.rules.specs.Plain.{Given}

-- Figure 3: an expression, over cells, 64 for each name. Of a cond only the chosen arm is read
unfoldable pub direct : Given → Expr → List ℕ → ℕ
direct given (number r n) c = n
direct given (truth r n) c = n
direct given (name r x) c = get_or c (64 * x + 0) 0
direct given (two r o a b) c = applied o (direct given a c) (direct given b c)
direct given (choose r g a b) c = arm (direct given g c) (direct given a c) (direct given b c)
direct given (element r x i) c = get_or c (64 * x + direct given i c) 0
direct given (input r t d n) c = given d n

-- the cells, and the outputs, newest first
pub record Now : Type 0 where
  pub cells : List ℕ
  pub outs : List ℕ

-- element i of name x is v
unfoldable pub keep : Name → ℕ → ℕ → Now → Now
keep x i v s = record { cells = set s.cells (64 * x + i) v; outs = s.outs }

-- n elements from element i on, at 0 or false
unfoldable pub blank : Name → ℕ → ℕ → Now → Now
blank x i zero s = s
blank x i (suc n) s = blank x (suc i) n (keep x i 0 s)

-- Figure 4: a statement
unfoldable pub follow : Given → Stmt → Now → Now
follow given (declare r x t n) s = blank x 0 (elements n) s
follow given (assign r x e) s = keep x 0 (direct given e s.cells) s
follow given (loop r x b f l) s = turns (λ i u. follow given b (keep x 0 i u)) (suc l - f) f s
follow given (write r x i e) s = keep x (direct given i s.cells) (direct given e s.cells) s
follow given (branch r g a b) s = arm (direct given g s.cells) (follow given a) (follow given b) s
follow given (out r e) s = record { cells = s.cells; outs = direct given e s.cells ∷ s.outs }
follow given (then r a b) s = follow given b (follow given a s)

-- before the first statement
unfoldable pub begin : Now
begin = record { cells = replicate 4096 0; outs = [] }
