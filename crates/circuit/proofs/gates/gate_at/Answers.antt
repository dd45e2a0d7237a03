-- `gates::gate_at` is gate i of the circuit's words.
use Rattle.std.proofs.Common.{◌*◌, ◌∙◌, add-zero}
use Rattle.rules.specs.Gates.{gate_at, gate_word}
use Rattle.circuit.proofs.gates.gate_at.Goals as goal

pub returns : goal.returns
unfolding gate_at gate_word
returns c = c.gate_of.ensures ∙ cc (add-zero (5 * c.args.i))
