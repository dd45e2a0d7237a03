-- The loop's invariant: the memories hold the first i gates over what was lent.
use Rattle.evaluate.specs.Held.{SameMemories, contents}
use Rattle.evaluate.proofs.TurnLaws.{Running}
use Rattle.evaluate.proofs.desks.Run.all_gates.Given as goal

abbrev pub invariant-loop-i : goal.invariant-loop-i
invariant-loop-i l = record {
  same : SameMemories l.initial.memories l.memories;
  running : Running l.self (contents l.initial.memories) (contents l.memories) l.i;
}
