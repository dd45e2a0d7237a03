-- Calls of evaluation (document 01, "Order of refusals"): any lent bytes, and any end that the contract allows. The demands are
-- said of these.
use Rattle.std.specs.Prelude.{ℕ, ◌*◌, ◌≡◌, List, length, take}
use Rattle.words.specs.Words.{words, AllBytes}
use Rattle.rules.specs.Gates.{Gate, wires}
use Rattle.rules.specs.Plain.{Given, inputs}
use Rattle.rules.specs.Shares.{tape_for}
use Rattle.rules.specs.Answers.{Lent, Evaluated, gates_of}
use Rattle.evaluate.specs.Promise.{Promise}

-- every memory that was lent is bytes
abbrev pub AllBytesLent : Lent → Type 0
AllBytesLent l =
    AllBytes l.circuit
    × AllBytes l.inputs1
    × AllBytes l.inputs2
    × AllBytes l.tape
    × AllBytes l.shares1
    × AllBytes l.shares2
    × AllBytes l.outputs

-- a call of the operation: any bytes lent, and an end that its contract allows
pub record Call : Type 0 where
  pub lent : Lent
  pub answer : Evaluated
  pub one : List ℕ
  pub two : List ℕ
  pub outs : List ℕ
  -- a slice of u8 gives this; no contract has to
  pub bytes : AllBytesLent lent
  -- the contract
  pub promise : Promise lent answer one two outs

-- the call is accepted
abbrev pub Accepted : Call → Type 0
Accepted c = c.answer.number ≡ 0

-- the gates of its circuit, and the desks' inputs
abbrev pub gates_in : Call → List Gate
gates_in c = gates_of c.lent.circuit

abbrev pub given_in : Call → Given
given_in c = inputs (words c.lent.inputs1) (words c.lent.inputs2)

-- the wires' shares in the memory of desk one afterwards, and of desk two: as many words as the answer counts wires
abbrev pub desk_one_of : Call → List ℕ
desk_one_of c = take c.answer.wires (words c.one)

abbrev pub desk_two_of : Call → List ℕ
desk_two_of c = take c.answer.wires (words c.two)

-- a tape for gates: bytes, of exactly as many words as there are wires
pub record ExactTape (gs : List Gate) (t : List ℕ) : Type 0 where
  pub long : length t ≡ 4 * tape_for (wires gs)
  pub bytes : AllBytes t

-- what was lent, but with another tape
abbrev pub with_tape : List ℕ → Lent → Lent
with_tape t l = record {
  circuit = l.circuit;
  inputs1 = l.inputs1;
  inputs2 = l.inputs2;
  tape = t;
  shares1 = l.shares1;
  shares2 = l.shares2;
  outputs = l.outputs;
}
