-- The loop's invariant: the first children of the row are counted.
use Rattle.table.proofs.TallyLaws.{CountedTo}
use Rattle.table.proofs.uses.Tally.count_children.Given as goal

abbrev pub invariant-loop-child : goal.invariant-loop-child
invariant-loop-child l = CountedTo l.fn.self l.self l.fn.row.0 l.child-index
