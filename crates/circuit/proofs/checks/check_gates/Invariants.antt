-- The loop's invariant: the first i gates keep the rules, and what they make and read is noted.
use Rattle.circuit.proofs.PassLaws.{Passed}
use Rattle.circuit.proofs.checks.check_gates.Given as goal

abbrev pub invariant-loop-i : goal.invariant-loop-i
invariant-loop-i l = Passed l.circuit l.sorts l.inputs.sorts l.i
