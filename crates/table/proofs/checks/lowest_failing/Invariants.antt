-- The loop's invariant: each row below i passes.
use Rattle.std.proofs.Common.{◌<◌, true}
use Rattle.table.specs.declared.row.Row.{Row}
use Rattle.table.proofs.checks.lowest_failing.Given as goal

abbrev pub invariant-loop-i : goal.invariant-loop-i
invariant-loop-i g l = (r : Row) → r.0 < l.i → goal.F-post g l.passes r true
