-- The loop's invariant: the first i rows pass check 6, and their types and the inputs that they read are noted.
use Rattle.words.specs.Words.{words}
use Rattle.rules.specs.Types.{type_e, check6}
use Rattle.table.specs.declared.meaning.Ty.TheVariants.{Uint}
use Rattle.table.specs.Meaning.{as_type}
use Rattle.names.specs.Types.{InputsSeen}
use Rattle.names.proofs.NotedLaws.{Noted}
use Rattle.names.proofs.types.check_types.Given as goal

abbrev pub invariant-loop-i : goal.invariant-loop-i
invariant-loop-i l = record {
  types : Noted (check6 (words l.named.table.now)) (λ sc e. as_type (type_e sc e)) Uint l.named.table.now l.types l.i;
  inputs : InputsSeen l.named.table.now l.inputs.sorts l.i;
}
