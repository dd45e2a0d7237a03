-- `row::row_count` is the number of rows, sixteen bytes each.
use Rattle.std.proofs.Common.{arith}
use Rattle.rows.proofs.Table.{rows_whole, rows_few}
use Rattle.table.proofs.row.row_count.Goals as goal

pub overflow_cast-result : goal.overflow_cast-result
overflow_cast-result c = omega (arith, rows_whole c.args.table.now c.requires, rows_few c.args.table.now c.requires)

pub returns : goal.returns
returns c = omega (arith, rows_whole c.args.table.now c.requires)
