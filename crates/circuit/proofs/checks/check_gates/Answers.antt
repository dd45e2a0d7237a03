-- `checks::check_gates` is check 21 of the rules.
use Rattle.std.proofs.Common.{rules, arith}
use Rattle.circuit.proofs.GateLaws.{gates_in_lem, gates_at_most}
use Rattle.circuit.proofs.PassLaws.{passed_none, passed_wires, passed_breaks, passed_next, passed_in, passed_all}
use Rattle.circuit.proofs.checks.check_gates.Goals as goal

pub loop-i-init : goal.loop-i-init
loop-i-init c = passed_none c.args.circuit.now c.clear.ensures c.new-inputs.ensures

pub overflow_cast-i : goal.overflow_cast-i
overflow_cast-i c = omega (arith, gates_at_most c.args.circuit.now c.requires, c.loop-i-test.true)

pub kept_gate-requires : goal.kept_gate-requires
kept_gate-requires c = omega (arith, gates_in_lem c.args.circuit.now, c.loop-i-test.true)

pub note_wire-requires : goal.note_wire-requires
note_wire-requires c = omega (arith, passed_wires c.loop-i.invariant, gates_at_most c.args.circuit.now c.requires, c.loop-i-test.true)

pub returns : goal.returns
returns c = passed_all c.loop-i.invariant (omega (arith, c.loop-i-test.false, c.loop-i.auto.i-end))

pub returns-in_err-gate : goal.returns-in_err-gate
returns-in_err-gate c =
    let passed = c.loop-i.invariant in
    let lowest =
    passed_breaks passed (rw c.gate_count-i-end.ensures at c.loop-i-test.true)
    (rw c.in_err-gate.ensures.ok_part at c.kept_gate.ensures _ passed.wires_noted passed.inputs_noted) in
    search rules

pub note_input_of-requires : goal.note_input_of-requires
note_input_of-requires c =
    let passed = c.loop-i.invariant in
    passed_in passed c.in_ok-gate.gate
    (rw c.in_ok-gate.ensures.ok_part at c.kept_gate.ensures _ passed.wires_noted passed.inputs_noted)

pub loop-i-preserved : goal.loop-i-preserved
loop-i-preserved c =
    let passed = c.loop-i.invariant in
    passed_next passed (rw c.in_ok-gate.ensures.ok_part at c.kept_gate.ensures _ passed.wires_noted passed.inputs_noted)
    (c.note_wire.ensures _ passed.wires_noted) (c.note_input_of.ensures _ passed.inputs_noted)
