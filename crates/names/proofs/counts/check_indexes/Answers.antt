-- `counts::check_indexes` finds the lowest row that fails check 8.
use Rattle.std.proofs.Common.{sym, ◌∙◌, arith}
use Rattle.rules.specs.Counts.{count, check8}
use Rattle.rules.specs.Answers.{failing8}
use Rattle.names.proofs.NotedLaws.{noted_start, row_few, noted_breaks, noted_more, noted_all}
use Rattle.names.proofs.counts.check_indexes.Goals as goal

pub loop-i-init : goal.loop-i-init
loop-i-init c = noted_start check8 count 0 c.args.named.now.table.now

pub returns-then-not-counted : goal.returns-then-not-counted
unfolding failing8
returns-then-not-counted c = noted_breaks c.args.named.now.passes c.loop-i.invariant (omega arith) (sym c.counted.ensures ∙ c.if-not-counted.true)

pub bounds-counts-i : goal.bounds-counts-i
bounds-counts-i c = row_few c.args.named.now.table.now c.args.named.now.passes c.loop-i.i (omega arith)

pub loop-i-preserved : goal.loop-i-preserved
loop-i-preserved c =
    noted_more c.args.named.now.passes c.loop-i.invariant (omega arith) (sym c.counted.ensures ∙ c.if-not-counted.false) c.count_at.result c.count_at.ensures

pub returns : goal.returns
unfolding failing8
returns c = noted_all c.args.named.now.passes c.loop-i.invariant (omega arith)
