-- `Inputs::get` reads a word of the desk's inputs.
use Rattle.evaluate.proofs.InputLaws.{word_there, none_past}
use Rattle.evaluate.proofs.inputs.Inputs.get.Goals as goal

pub returns-then-k-bytes : goal.returns-then-k-bytes
returns-then-k-bytes c = word_there _ _ c.args.read.desk c.args.read.number c.of_desk-bytes.ensures c.if-k-bytes.true c.get.ensures

pub returns-else-k-bytes : goal.returns-else-k-bytes
returns-else-k-bytes c = none_past _ _ c.args.read.desk c.args.read.number c.of_desk-bytes.ensures c.if-k-bytes.false
