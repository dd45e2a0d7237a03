-- `labels::label` marks the secret rows: each pass but the last makes a mark.
use Rattle.names.proofs.LabelLaws.{marking_next}
use Rattle.names.proofs.labels.label.Goals as goal

pub loop-preserved : goal.loop-preserved
loop-preserved c = marking_next c.loop.invariant c.pass.ensures
