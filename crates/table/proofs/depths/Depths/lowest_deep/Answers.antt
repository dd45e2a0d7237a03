-- `Depths::lowest_deep` finds the lowest row that fails check 4.
use Rattle.std.proofs.Common.{arith, rules}
use Rattle.rules.specs.Sites.{check4}
use Rattle.rules.specs.Answers.{failing4}
use Rattle.rows.specs.ByRow.{site_at}
use Rattle.table.proofs.LoopLaws.{finds_lowest, finds_by_rows}
use Rattle.table.proofs.DepthLaws.{depth_passes}
use Rattle.table.proofs.depths.Depths.lowest_deep.Goals as goal

pub returns : goal.returns
unfolding failing4
returns c =
    finds_by_rows c.args.self.now.table.now c.requires.passes check4 _
    (rw (← c.row_count.ensures)
    (finds_lowest c.lowest_failing.ensures (λ r. check4 (site_at c.args.self.now.table.now r))
    (λ r b below is. let passes = depth_passes c.requires r.0 (omega arith) in search rules)))
