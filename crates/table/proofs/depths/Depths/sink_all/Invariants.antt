-- The loop's invariant: the children of each row from i on are noted.
use Rattle.std.proofs.Common.{◌≡◌}
use Rattle.table.specs.Depths.{Sinking}
use Rattle.table.proofs.depths.Depths.sink_all.Given as goal

abbrev pub invariant-loop-i : goal.invariant-loop-i
invariant-loop-i l = (l.self.table ≡ l.fn.self.table) × Sinking l.self l.i
