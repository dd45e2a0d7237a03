-- `Depths::sink_children` notes the children in the three words of the row one after the other.
use Rattle.std.proofs.Common.{arith, rules, ap, ◌∙◌}
use Rattle.table.specs.Shapes.{children}
use Rattle.table.proofs.DepthLaws.{in_table, one_more_fits, can_next, sinks_next, sunk_none, children-noted}
use Rattle.table.proofs.depths.Depths.sink_children.Goals as goal

pub overflow_add-depth : goal.overflow_add-depth
overflow_add-depth c = omega (arith, one_more_fits c.requires.0 c.requires.1)

pub row_words-requires : goal.row_words-requires
row_words-requires c = in_table c.requires.0 c.requires.1

pub loop-child-init : goal.loop-child-init
loop-child-init c = sunk_none _ _ (search rules)

pub sink_child-requires : goal.sink_child-requires
sink_child-requires c =
    can_next c.requires.0 c.requires.1 c.loop-child.child-index c.loop-child-test.true (c.children-child-items.ensures ∙ ap children c.row_words.ensures)

pub loop-child-preserved : goal.loop-child-preserved
loop-child-preserved c =
    sinks_next c.requires.0 c.requires.1 c.loop-child.child-index c.loop-child-test.true c.loop-child.invariant
    (c.children-child-items.ensures ∙ ap children c.row_words.ensures) c.sink_child.ensures.0 c.sink_child.ensures.1

pub returns : goal.returns
returns c = (c.loop-child.invariant.same, children-noted c.requires.0 c.requires.1 c.loop-child.invariant (omega arith))
