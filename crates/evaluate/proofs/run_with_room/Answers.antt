-- `run_with_room`: each way out is a line of the paper's table.
use Rattle.std.proofs.Common.{◌≡◌, sym, ◌∙◌, arith}
use Rattle.evaluate.specs.Held.{contents, lent_to}
use Rattle.evaluate.proofs.AnswerLaws.{room, promise_24, promise_25, promise_accepted, few_gates, wires_or_outs, enough_is, ready_to_run}
use Rattle.evaluate.proofs.run_with_room.Goals.{After-have_room}
use Rattle.evaluate.proofs.run_with_room.Goals as goal

-- the code's test of the memories is the check's
enough : (c : After-have_room) → c.have_room.result ≡ room (lent_to c.args.run.now (contents c.args.memories.now))
enough c = c.have_room.ensures ∙ enough_is (contents c.args.memories.now) c.requires.allowed c.if-run-wires.false c.gate_count.ensures

pub overflow_sub-outputs : goal.overflow_sub-outputs
overflow_sub-outputs c = omega (arith, c.gate_count.ensures, wires_or_outs (contents c.args.memories.now) c.requires.allowed)

pub returns-then-run-wires-clause-promise : goal.returns-then-run-wires-clause-promise
returns-then-run-wires-clause-promise c = promise_24 (contents c.args.memories.now) c.requires.allowed c.if-run-wires.true

pub returns-then-not-have_room-clause-promise : goal.returns-then-not-have_room-clause-promise
returns-then-not-have_room-clause-promise c =
    promise_25 (contents c.args.memories.now) c.requires.allowed c.if-run-wires.false
    (sym (enough (goal.at.returns-then-not-have_room-clause-promise c).After-have_room) ∙ c.if-not-have_room.true)

pub all_gates-requires-clause-ready : goal.all_gates-requires-clause-ready
all_gates-requires-clause-ready c =
    ready_to_run (contents c.args.memories.now) c.requires.allowed c.if-run-wires.false
    (sym (enough (goal.at.all_gates-requires-clause-ready c).After-have_room) ∙ c.if-not-have_room.false)

pub overflow_cast-result : goal.overflow_cast-result
overflow_cast-result c =
    let lent = contents c.args.memories.now in omega (arith, wires_or_outs lent c.requires.allowed, few_gates lent c.requires.allowed)

pub overflow_cast-result-2 : goal.overflow_cast-result-2
overflow_cast-result-2 c = omega (arith, c.gate_count.ensures, few_gates (contents c.args.memories.now) c.requires.allowed)

pub returns-clause-promise : goal.returns-clause-promise
returns-clause-promise c =
    rw c.gate_count.ensures (promise_accepted (contents c.args.memories.now) c.requires.allowed c.if-run-wires.false
    (sym (enough (goal.at.returns-clause-promise c).After-have_room) ∙ c.if-not-have_room.false) c.all_gates.ensures.done)
