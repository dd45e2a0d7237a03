-- The loop's invariant: the rules of the first i rows have been followed.
use Rattle.names.specs.Labels.{Followed}
use Rattle.names.proofs.labels.pass.Given as goal

abbrev pub invariant-loop-i : goal.invariant-loop-i
invariant-loop-i l = Followed l.named.table.now l.named.binders.now l.initial.secret l.secret 0 l.i l.made
