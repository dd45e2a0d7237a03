-- The loop's invariant: the places of the first i rows are counted.
use Rattle.std.proofs.Common.{◌≡◌}
use Rattle.table.specs.Uses.{Tallied}
use Rattle.table.proofs.uses.Tally.count_all.Given as goal

abbrev pub invariant-loop-i : goal.invariant-loop-i
invariant-loop-i l = (l.self.table ≡ l.fn.self.table) × Tallied l.self l.i
