-- `labels::pass` follows the rules of all rows, one after the other.
use Rattle.std.proofs.Common.{arith}
use Rattle.names.proofs.LabelLaws.{followed_on}
use Rattle.names.proofs.labels.pass.Goals as goal

pub loop-i-preserved : goal.loop-i-preserved
loop-i-preserved c = followed_on (omega arith) (omega arith) c.loop-i.invariant c.follow-made.ensures
