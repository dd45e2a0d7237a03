-- `checks::check_shapes` finds the lowest row that fails check 2.
use Rattle.std.proofs.Common.{arith, rules}
use Rattle.words.specs.Words.{words}
use Rattle.rules.specs.Rows.{row_shaped}
use Rattle.rules.specs.Answers.{failing2}
use Rattle.rows.specs.Passed.{In}
use Rattle.rows.proofs.Table.{rows_in_lem}
use Rattle.table.proofs.LoopLaws.{finds_lowest}
use Rattle.table.proofs.checks.check_shapes.Goals as goal

pub lowest_failing-requires : goal.lowest_failing-requires
lowest_failing-requires c r below =
    let there : In c.args.table.now r.0 = rows_in_lem c.args.table.now c.requires r.0 (omega arith) in
    search rules

pub returns : goal.returns
unfolding failing2
returns c =
    rw (← c.row_count-n.ensures)
    (finds_lowest c.lowest_failing.ensures (row_shaped (words c.args.table.now) c.row_count-n.result) (λ r b below is. search rules))
