-- The loop's invariant: the first i rows pass check 8, and their counts are noted.
use Rattle.rules.specs.Counts.{count, check8}
use Rattle.names.proofs.NotedLaws.{Noted}
use Rattle.names.proofs.counts.check_indexes.Given as goal

abbrev pub invariant-loop-i : goal.invariant-loop-i
invariant-loop-i l = Noted check8 count 0 l.named.table.now l.counts l.i
