-- Each statement in a statement stands at a lower row, so the row is the measure.
use Rattle.names.proofs.scope.Walk.+walk_statement.Given as goal

abbrev pub decreases-walk_statement : goal.decreases-walk_statement
decreases-walk_statement l = l.row.0
