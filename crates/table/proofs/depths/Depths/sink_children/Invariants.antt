-- The loop's invariant: the first children of the row are noted.
use Rattle.table.proofs.DepthLaws.{SunkTo}
use Rattle.table.proofs.depths.Depths.sink_children.Given as goal

abbrev pub invariant-loop-child : goal.invariant-loop-child
invariant-loop-child l = SunkTo l.fn.self l.self l.fn.row.0 l.child-index
