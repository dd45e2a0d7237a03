-- `depths::check_depths` finds the lowest row that fails check 4.
use Rattle.std.proofs.Common.{arith, refl}
use Rattle.table.proofs.DepthLaws.{rows_between, sinking_none}
use Rattle.table.proofs.depths.check_depths.Goals as goal

pub overflow_sub-noted : goal.overflow_sub-noted
overflow_sub-noted c = omega (arith, rows_between c.args.table.now c.requires)

pub bounds-noted-row_count : goal.bounds-noted-row_count
bounds-noted-row_count c = omega (arith, rows_between c.args.table.now c.requires)

pub sink_all-requires : goal.sink_all-requires
sink_all-requires c = sinking_none c.requires c.row_count.result c.row_count.ensures refl
