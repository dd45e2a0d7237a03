-- `Tally::count_children` counts the children in the three words of the row one after the other.
use Rattle.std.proofs.Common.{arith, rules, refl, ap, ◌∙◌}
use Rattle.table.specs.Shapes.{children}
use Rattle.table.proofs.TallyLaws.{in_table, can_next, counted_next, row_tallied}
use Rattle.table.proofs.uses.Tally.count_children.Goals as goal

pub row_words-requires : goal.row_words-requires
row_words-requires c = in_table c.requires.0 c.args.row.0 c.requires.1

pub loop-child-init : goal.loop-child-init
loop-child-init c = record { same = refl; long = search rules; are = c.requires.0.are }

pub count_child-requires : goal.count_child-requires
count_child-requires c =
    can_next c.requires.0 c.requires.1 c.loop-child.invariant c.loop-child-test.true (c.children-child-items.ensures ∙ ap children c.row_words.ensures)

pub loop-child-preserved : goal.loop-child-preserved
loop-child-preserved c =
    counted_next c.requires.0 c.requires.1 c.loop-child.invariant c.loop-child-test.true
    (c.children-child-items.ensures ∙ ap children c.row_words.ensures) c.count_child.ensures.0 c.count_child.ensures.1

pub returns : goal.returns
returns c = (c.loop-child.invariant.same, row_tallied c.requires.0 c.requires.1 c.loop-child.invariant (omega arith))
