-- The loop's invariant: every mark is in each set in which the rules hold. Each pass but the last makes a mark.
use Rattle.std.proofs.Common.{◌-◌}
use Rattle.rules.specs.Answers.{rows_of}
use Rattle.names.specs.Labels.{marks}
use Rattle.names.proofs.LabelLaws.{Marking}
use Rattle.names.proofs.labels.label.Given as goal

abbrev pub invariant-loop : goal.invariant-loop
invariant-loop l = Marking l.named.table.now l.named.binders.now l.secret

abbrev pub decreases-loop : goal.decreases-loop
decreases-loop l = rows_of l.named.table.now - marks l.secret (rows_of l.named.table.now)
