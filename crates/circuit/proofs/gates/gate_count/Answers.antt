-- `gates::gate_count` is how many gates the circuit's words have.
use Rattle.std.proofs.Common.{sym}
use Rattle.circuit.proofs.GateLaws.{gates_in_lem}
use Rattle.circuit.proofs.gates.gate_count.Goals as goal

pub returns : goal.returns
returns c = sym (gates_in_lem c.args.circuit.now)
