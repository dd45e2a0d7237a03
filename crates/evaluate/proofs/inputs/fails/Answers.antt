-- `inputs::fails`: gate i is one of the circuit.
use Rattle.std.proofs.Common.{arith}
use Rattle.circuit.proofs.GateLaws.{gates_in_lem}
use Rattle.evaluate.proofs.inputs.fails.Goals as goal

pub gate_at-requires : goal.gate_at-requires
gate_at-requires g c = omega (arith, c.requires.within, gates_in_lem c.args.circuit.now)
