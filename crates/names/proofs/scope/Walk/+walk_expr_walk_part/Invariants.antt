-- An expression in a row stands at a lower row: the measure of `Walk::walk_part` lies between those of the two rows.
use Rattle.std.proofs.Common.{◌+◌, ◌*◌}
use Rattle.names.proofs.SweepLaws.{part_measure}
use Rattle.names.proofs.scope.Walk.+walk_expr_walk_part.Given as goal

abbrev pub decreases-walk_expr : goal.decreases-walk_expr
decreases-walk_expr l = 2 * l.row.0 + 1

abbrev pub decreases-walk_part : goal.decreases-walk_part
decreases-walk_part l = part_measure l.word l.field
