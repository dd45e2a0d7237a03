-- What evaluation promises (document 01, "Order of refusals"): its answer by the paper's numbers, and each lent memory.
use Rattle.std.specs.Prelude.{ℕ, ◌≡◌, List, Result, Ok, Err}
use Rattle.rules.specs.Answers.{Lent, Evaluated, evaluate_answer, leaves_one, leaves_two, leaves_outs}
use Rattle.evaluate.specs.declared.Refusal.{Refusal}
use Rattle.evaluate.specs.declared.Refusal.TheVariants.{CircuitLength, GateBreaksRules, InputMissing, InputNoBool, TapeShort, MemoryShort}
use Rattle.evaluate.specs.declared.Accepted.{Accepted}

-- the paper's number of a refusal
abbrev pub refusal_number : Refusal → ℕ
refusal_number CircuitLength = 20
refusal_number (GateBreaksRules g) = 21
refusal_number (InputMissing g) = 22
refusal_number (InputNoBool g) = 23
refusal_number TapeShort = 24
refusal_number MemoryShort = 25

-- its place: the lowest failing gate, or 0
abbrev pub refusal_place : Refusal → ℕ
refusal_place CircuitLength = 0
refusal_place (GateBreaksRules g) = g
refusal_place (InputMissing g) = g
refusal_place (InputNoBool g) = g
refusal_place TapeShort = 0
refusal_place MemoryShort = 0

-- number, place and counts of an answer; a refusal has zero counts
abbrev pub answered : Result Accepted Refusal → Evaluated
answered (Ok counts) = record { number = 0; place = 0; wires = counts.wires; outputs = counts.outputs }
answered (Err why) = record { number = refusal_number why; place = refusal_place why; wires = 0; outputs = 0 }

-- what is lent
abbrev pub lent_with : List ℕ → List ℕ → List ℕ → List ℕ → List ℕ → List ℕ → List ℕ → Lent
lent_with circuit inputs1 inputs2 tape shares1 shares2 outputs = record {
  circuit = circuit;
  inputs1 = inputs1;
  inputs2 = inputs2;
  tape = tape;
  shares1 = shares1;
  shares2 = shares2;
  outputs = outputs;
}

-- of one call: the answer to what was lent, and the three memories at the end, are the rules'
pub record Promise (l : Lent) (answer : Evaluated) (one two outs : List ℕ) : Type 0 where
  pub answer_is : answer ≡ evaluate_answer l
  pub one_is : one ≡ leaves_one l
  pub two_is : two ≡ leaves_two l
  pub outs_are : outs ≡ leaves_outs l
