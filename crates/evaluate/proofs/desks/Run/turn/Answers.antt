-- `Run::turn` runs the next gate: it keeps the rules, and its wire or its output has its place.
use Rattle.std.proofs.Common.{◌≡◌, true, false, sym, ◌∙◌, arith}
use mathlib.Core.Option.{some}
use Rattle.words.specs.Words.{words}
use Rattle.rules.specs.Gates.{gate_at}
use Rattle.circuit.specs.Gates.{meant, makes_wire}
use Rattle.circuit.proofs.GateLaws.{gates_in_lem}
use Rattle.evaluate.specs.Held.{contents}
use Rattle.evaluate.proofs.TurnLaws.{NewWireIn, gate_there, meant_some, gate_wires_in, new_wire_in, new_output_in, turned_wire, turned_output}
use Rattle.evaluate.proofs.desks.Run.turn.Goals.{After-unwrap-gate, Then-makes_wire, Else-makes_wire}
use Rattle.evaluate.proofs.desks.Run.turn.Goals as goal

-- the gate is gate i,
read : (c : After-unwrap-gate) → some (meant c.unwrap-gate.result) ≡ gate_at (words c.args.self.now.circuit.now) c.args.i
read c = meant_some c.unwrap-gate.ensures c.gate_at.ensures

-- which makes a wire or none,
makes : (c : Then-makes_wire) → makes_wire c.unwrap-gate.result ≡ true
makes c = sym c.makes_wire.ensures ∙ c.if-makes_wire.true

makes-no : (c : Else-makes_wire) → makes_wire c.unwrap-gate.result ≡ false
makes-no c = sym c.makes_wire.ensures ∙ c.if-makes_wire.false

-- and a new wire has its place
wire_in : (c : Then-makes_wire) → NewWireIn c.args.self.now (contents c.args.memories.now) c.args.memories.now.so_far.wires
wire_in c = new_wire_in c.requires _ (meant_some c.unwrap-gate.ensures c.gate_at.ensures) (makes c)

pub gate_at-requires : goal.gate_at-requires
gate_at-requires c = omega (arith, c.requires.within, gates_in_lem c.args.self.now.circuit.now)

pub unwrap-gate-requires : goal.unwrap-gate-requires
unwrap-gate-requires c = gate_there c.requires _ c.gate_at.ensures

pub value-v-requires : goal.value-v-requires
value-v-requires c = gate_wires_in c.requires _ (read (goal.at.value-v-requires c).After-unwrap-gate)

pub bounds-self-new : goal.bounds-self-new
bounds-self-new c = (wire_in (goal.at.bounds-self-new c).Then-makes_wire).places.0

pub get-requires : goal.get-requires
get-requires c = (wire_in (goal.at.get-requires c).Then-makes_wire).tape_word

pub deal-requires : goal.deal-requires
deal-requires c = (wire_in (goal.at.deal-requires c).Then-makes_wire).places.1

pub put_out-requires : goal.put_out-requires
put_out-requires c =
    let step = goal.at.put_out-requires c in new_output_in c.requires _ (read step.After-unwrap-gate) (makes-no step.Else-makes_wire)

pub returns-then-makes_wire-clause-turned : goal.returns-then-makes_wire-clause-turned
returns-then-makes_wire-clause-turned c =
    let step = goal.at.returns-then-makes_wire-clause-turned c in
    turned_wire c.requires _ (read step.After-unwrap-gate) (makes step.Then-makes_wire)
    c.value-v.result c.get.result c.value-v.type_inv c.get.type_inv c.get.ensures c.value-v.ensures c.deal.ensures.dealt

pub returns-else-makes_wire-clause-turned : goal.returns-else-makes_wire-clause-turned
returns-else-makes_wire-clause-turned c =
    let step = goal.at.returns-else-makes_wire-clause-turned c in
    turned_output c.requires _ (read step.After-unwrap-gate) (makes-no step.Else-makes_wire)
    c.value-v.result c.value-v.ensures c.put_out.ensures.put
