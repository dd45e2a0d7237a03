-- `Tally::lowest_misused` finds the lowest row that fails check 3.
use Rattle.std.proofs.Common.{◌≤◌, rules}
use Rattle.words.specs.Words.{words}
use Rattle.rules.specs.Rows.{used_once}
use Rattle.rules.specs.Answers.{rows_of, failing3}
use Rattle.table.proofs.LoopLaws.{finds_lowest}
use Rattle.table.proofs.TallyLaws.{few, used_once_lem}
use Rattle.table.proofs.uses.Tally.lowest_misused.Goals as goal

pub lowest_failing-requires : goal.lowest_failing-requires
lowest_failing-requires c r below = let most : rows_of c.args.self.now.table.now ≤ 1024 = few c.requires in search rules

pub returns : goal.returns
unfolding failing3
returns c =
    rw (← c.row_count-n.ensures)
    (finds_lowest c.lowest_failing.ensures (used_once (words c.args.self.now.table.now) c.row_count-n.result)
    (λ r b below is. let passes = used_once_lem c.requires c.row_count-n.ensures r.0 below in search rules))
