-- What the lent memories hold while a circuit is evaluated, gate by gate (document 01, "Shares"; Figure 13). Only functions
-- inside the desk cite it.
use Rattle.std.specs.Prelude.{ℕ, suc, T, ◌+◌, ◌*◌, ◌≤◌, ◌<◌, ◌≡◌, List, [], reverse, length, get_or, slice_index_or}
use Rattle.words.specs.Words.{words, over, put_at, AllWords}
use Rattle.rules.specs.Sorts as rules
use Rattle.rules.specs.Gates.{Gate, gates_to, gate_count, wires, circuit_fits}
use Rattle.rules.specs.Plain.{Given, inputs}
use Rattle.rules.specs.Shares.{share_one, share_two, join, shared, shares_one, shares_two}
use Rattle.rules.specs.Answers.{Lent, FitInputs, out_count, gates_of, failing21}
use Rattle.circuit.specs.declared.sorts.Sort.{Sort}
use Rattle.circuit.specs.declared.sorts.Sort.TheVariants.{Arithmetic}
use Rattle.circuit.specs.Sorts.{meant_sort}
use Rattle.circuit.specs.Noted.{WiresNoted}
use Rattle.circuit.specs.declared.gates.Gate as code
use Rattle.circuit.specs.declared.gates.Gate.TheVariants.{Both, Mux, Constant, Convert, Input, Out}
use Rattle.evaluate.specs.declared.memories.Memories.{Memories}
use Rattle.evaluate.specs.declared.memories.Counts.{Counts}
use Rattle.evaluate.specs.declared.desks.Run.{Run}

-- what the three lent memories hold, and how many wires and outputs that is so far
pub record Contents : Type 0 where
  pub one : List ℕ
  pub two : List ℕ
  pub outs : List ℕ
  pub so_far : Counts

abbrev pub contents : Memories → Contents
contents m = record { one = m.one.now; two = m.two.now; outs = m.outs.now; so_far = m.so_far }

-- with the two shares of one wire more put at its places, by its sort, its value and its tape word
abbrev pub with_shares : Contents → rules.Sort → ℕ → ℕ → Contents
with_shares now sort v t = record {
  one = put_at now.one now.so_far.wires (share_one sort t);
  two = put_at now.two now.so_far.wires (share_two sort v t);
  outs = now.outs;
  so_far = record { wires = now.so_far.wires + 1; outputs = now.so_far.outputs };
}

-- with one output more put at its place
abbrev pub with_output : Contents → ℕ → Contents
with_output now v = record {
  one = now.one;
  two = now.two;
  outs = put_at now.outs now.so_far.outputs v;
  so_far = record { wires = now.so_far.wires; outputs = now.so_far.outputs + 1 };
}

-- before the first of both
abbrev pub Fresh : Contents → Type 0
Fresh now = (now.so_far.wires ≡ 0) × (now.so_far.outputs ≡ 0)

-- they are the same memories, whatever was written
pub record SameMemories (old new : Memories) : Type 0 where
  pub one : new.one.ghost_name ≡ old.one.ghost_name
  pub two : new.two.ghost_name ≡ old.two.ghost_name
  pub outs : new.outs.ghost_name ≡ old.outs.ghost_name

-- the sort of wire k, by the wires' sorts; past the last it is not asked
abbrev pub sort_in : List Sort → ℕ → rules.Sort
sort_in sorts k = meant_sort (slice_index_or sorts k Arithmetic)

-- the value of wire k, joined of the two share memories, by the wires' sorts
abbrev pub joined_in : List Sort → Contents → ℕ → ℕ
joined_in sorts now k = join (sort_in sorts k) (get_or (words now.one) k 0) (get_or (words now.two) k 0)

-- the inputs that a run reads
abbrev pub given_in : Run → Given
given_in run = inputs (words run.inputs.one.now) (words run.inputs.two.now)

-- after the gates gs, with the tape's words, over what was lent: a share of each wire, and each output; and so many of both
pub record Held (given : Given) (tape_words : List ℕ) (gs : List Gate) (lent now : Contents) : Type 0 where
  pub wires_so_far : now.so_far.wires ≡ (wires gs).count
  pub outs_so_far : now.so_far.outputs ≡ out_count gs
  pub one_is : now.one ≡ over (shares_one given tape_words gs) lent.one
  pub two_is : now.two ≡ over (shares_two given tape_words gs) lent.two
  pub outs_are : now.outs ≡ over (reverse (shared given tape_words gs).outs) lent.outs
  pub one_words : AllWords (shares_one given tape_words gs)
  pub two_words : AllWords (shares_two given tape_words gs)
  pub one_long : length now.one ≡ length lent.one
  pub two_long : length now.two ≡ length lent.two
  pub outs_long : length now.outs ≡ length lent.outs

-- a wire has a place in both share memories
abbrev pub HasPlaces : Contents → ℕ → Type 0
HasPlaces now k = (4 * k + 4 ≤ length now.one) × (4 * k + 4 ≤ length now.two)

-- and among the sorts
abbrev pub WireIn : List Sort → Contents → ℕ → Type 0
WireIn sorts now k = (k < length sorts) × HasPlaces now k

-- so has each wire that a gate reads
abbrev pub WiresIn : List Sort → Contents → code.Gate → Type 0
WiresIn sorts now (Both o a b new) = WireIn sorts now a.0 × WireIn sorts now b.0
WiresIn sorts now (Mux g a b new) = WireIn sorts now g.0 × (WireIn sorts now a.0 × WireIn sorts now b.0)
WiresIn sorts now (Constant v s new) = Unit {0}
WiresIn sorts now (Convert w s new) = WireIn sorts now w.0
WiresIn sorts now (Input r new) = Unit {0}
WiresIn sorts now (Out w) = WireIn sorts now w.0

-- what a run was lent, with memories that hold this
abbrev pub lent_to : Run → Contents → Lent
lent_to run lent = record {
  circuit = run.circuit.now;
  inputs1 = run.inputs.one.now;
  inputs2 = run.inputs.two.now;
  tape = run.tape.now;
  shares1 = lent.one;
  shares2 = lent.two;
  outputs = lent.outs;
}

-- a run passes checks 20 to 23, and its wires' sorts are noted
pub record Allowed (run : Run) : Type 0 where
  pub fits : T (circuit_fits run.circuit.now)
  pub keeps : failing21 (words run.circuit.now) ≡ []
  pub noted : WiresNoted (gates_of run.circuit.now) (record { items = run.sorts.now })
  pub inputs : FitInputs run.circuit.now run.inputs.one.now run.inputs.two.now

-- a run's circuit passes check 21, its wires' sorts are noted, and tape and memory are enough
pub record Ready (run : Run) (now : Contents) : Type 0 where
  pub keeps : failing21 (words run.circuit.now) ≡ []
  pub few : gate_count (words run.circuit.now) ≤ 3000
  pub noted : WiresNoted (gates_of run.circuit.now) (record { items = run.sorts.now })
  pub tape_long : 4 * (wires (gates_of run.circuit.now)).count ≤ length run.tape.now
  pub one_long : 4 * (wires (gates_of run.circuit.now)).count ≤ length now.one
  pub two_long : 4 * (wires (gates_of run.circuit.now)).count ≤ length now.two
  pub outs_long : 4 * out_count (gates_of run.circuit.now) ≤ length now.outs

-- and gate i is the next, after so many wires and outputs
pub record Before (run : Run) (now : Contents) (i : ℕ) : Type 0 where
  pub ready : Ready run now
  pub within : i < gate_count (words run.circuit.now)
  pub wires_so_far : now.so_far.wires ≡ (wires (gates_to (words run.circuit.now) i)).count
  pub outs_so_far : now.so_far.outputs ≡ out_count (gates_to (words run.circuit.now) i)

-- gate i takes memories that hold the gates before it to memories that hold it too
abbrev pub Turned : Run → ℕ → Contents → Contents → Type 0
Turned run i now now' =
    (lent : Contents) → Held (given_in run) (words run.tape.now) (gates_to (words run.circuit.now) i) lent now
    → Held (given_in run) (words run.tape.now) (gates_to (words run.circuit.now) (suc i)) lent now'

-- at the end they hold all gates, over what was lent
pub record Done (run : Run) (lent now : Contents) : Type 0 where
  pub one_is : now.one ≡ over (shares_one (given_in run) (words run.tape.now) (gates_of run.circuit.now)) lent.one
  pub two_is : now.two ≡ over (shares_two (given_in run) (words run.tape.now) (gates_of run.circuit.now)) lent.two
  pub outs_are : now.outs ≡ over (reverse (shared (given_in run) (words run.tape.now) (gates_of run.circuit.now)).outs) lent.outs
