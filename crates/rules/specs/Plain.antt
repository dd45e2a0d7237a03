-- What demand 3 calls a plain reading of the gates: the value of every wire, and the outputs, with no shares (Figure 13 with
-- every 𝓓 and 𝓔 left out). `given d n` is input n of desk d.
use Rattle.std.specs.Prelude.{ℕ, cond, List, [], ◌∷◌, eqb, get_or}
use Rattle.std.proofs.Math.Option.{Option, none, some}
use Rattle.rules.specs.Rows.{Wire}
use Rattle.rules.specs.Sorts.{applied, arm}
use Rattle.rules.specs.Gates.{Gate, both, mux, constant, convert, entry, output, makes}

abbrev pub Given : Type 0
Given = ℕ → ℕ → ℕ

-- the inputs of desk d, and input n of them; past the end it reads 0, which check 22 shuts out
abbrev pub of_desk : List ℕ → List ℕ → ℕ → List ℕ
of_desk one two d = cond (eqb d 1) one two

unfoldable pub inputs : List ℕ → List ℕ → Given
inputs one two d n = get_or (of_desk one two d) n 0

-- what a gate gives, where wire k is worth `value k`
unfoldable pub value_of : Given → (Wire → ℕ) → Gate → ℕ
value_of given value (both o a b new) = applied o (value a) (value b)
value_of given value (mux g a b new) = arm (value g) (value a) (value b)
value_of given value (constant v m new) = v
value_of given value (convert w m new) = value w
value_of given value (entry d n m new) = given d n
value_of given value (output w) = value w

-- a function, but v at k
abbrev pub but : ℕ → ℕ → (ℕ → ℕ) → ℕ → ℕ
but k v f i = cond (eqb i k) v (f i)

-- the wires' values, and the outputs, newest first
pub record Reading : Type 0 where
  pub value : Wire → ℕ
  pub outs : List ℕ

-- the value of a gate: an output, or that of the new wire
unfoldable pub noted : Option Wire → ℕ → Reading → Reading
noted none v r = record { value = r.value; outs = v ∷ r.outs }
noted (some new) v r = record { value = but new v r.value; outs = r.outs }

unfoldable pub plain : Given → List Gate → Reading
plain given [] = record { value = λ k. 0; outs = [] }
plain given (g ∷ gs) = noted (makes g) (value_of given (plain given gs).value g) (plain given gs)
