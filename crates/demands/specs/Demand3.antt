-- Demand 3, as docs/PROMISES.md words it: desk one's shares are the same in any two runs with one tape; for desk two the tapes
-- pair one to one so that its shares are the same; every wire's two shares join to the value that a plain reading of the gates
-- gives. Document 01, "Shares", says of which runs it speaks: those that evaluation accepts; and of which tapes the pairing is:
-- those with exactly as many words as wires.
use Rattle.std.specs.Prelude.{ℕ, ◌<◌, ◌≡◌, List, get_or}
use Rattle.words.specs.Words.{words, bytes_of}
use Rattle.rules.specs.Gates.{wires}
use Rattle.rules.specs.Plain.{plain}
use Rattle.rules.specs.Shares.{join, partner}
use Rattle.rules.specs.Answers.{evaluate_answer}
use Rattle.demands.specs.Calls.{Call, Accepted, gates_in, given_in, desk_one_of, desk_two_of, ExactTape, with_tape}

-- two accepted calls of one circuit, whatever their inputs
pub record TwoRuns (a b : Call) : Type 0 where
  pub accepted_a : Accepted a
  pub accepted_b : Accepted b
  pub same_circuit : a.lent.circuit ≡ b.lent.circuit

-- the tape with which b's inputs look to desk two as a's inputs do with the tape t
abbrev pub paired_tape : Call → Call → List ℕ → List ℕ
paired_tape a b t = bytes_of (partner (gates_in a) (given_in a) (given_in b) (words t))

-- every wire's two shares, in the memories afterwards, join to the value that a plain reading gives it
pub record Joins (c : Call) : Type 0 where
  pub all_wires : c.answer.wires ≡ (wires (gates_in c)).count
  pub each : (k : ℕ) → k < c.answer.wires
      → join ((wires (gates_in c)).sort k) (get_or (words c.one) k 0) (get_or (words c.two) k 0) ≡ (plain (given_in c) (gates_in c)).value k

-- demand 3 of two such calls
pub record Demand3 (a b : Call) : Type 0 where
  -- desk one's shares are the same with one tape
  pub desk_one : a.lent.tape ≡ b.lent.tape → desk_one_of a ≡ desk_one_of b
  -- the tapes pair one to one: there, back, and both ways round
  pub there : (t : List ℕ) → ExactTape (gates_in a) t → ExactTape (gates_in b) (paired_tape a b t)
  pub back : (t : List ℕ) → ExactTape (gates_in b) t → ExactTape (gates_in a) (paired_tape b a t)
  pub there_back : (t : List ℕ) → ExactTape (gates_in a) t → paired_tape b a (paired_tape a b t) ≡ t
  pub back_there : (t : List ℕ) → ExactTape (gates_in b) t → paired_tape a b (paired_tape b a t) ≡ t
  -- with any tape and its pair, and all else as it was lent to a and to b, evaluation accepts
  pub paired_accepted : (t : List ℕ) → ExactTape (gates_in a) t
      → ((evaluate_answer (with_tape t a.lent)).number ≡ 0) × ((evaluate_answer (with_tape (paired_tape a b t) b.lent)).number ≡ 0)
  -- and desk two's shares are the same in any two such runs
  pub desk_two : (t : List ℕ) → ExactTape (gates_in a) t
      → (a' b' : Call) → a'.lent ≡ with_tape t a.lent → b'.lent ≡ with_tape (paired_tape a b t) b.lent → desk_two_of a' ≡ desk_two_of b'
  -- each wire's shares join to its plain value
  pub joins_a : Joins a
  pub joins_b : Joins b
