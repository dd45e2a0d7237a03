-- `check_inputs` is checks 22 and 23, each by its test of an input.
use Rattle.std.proofs.Common.{arith, rules}
use Rattle.words.specs.Words.{words}
use Rattle.rules.specs.Answers.{failing22, failing23}
use Rattle.evaluate.specs.InputChecks.{Found, input_there, input_fits}
use Rattle.evaluate.proofs.InputLaws.{found_below}
use Rattle.evaluate.proofs.check_inputs.Goals.{After-lowest_failing, After-lowest_failing-2, In-Some, In-Some-lowest_failing}
use Rattle.evaluate.proofs.check_inputs.Goals as goal

-- what each search finds
found_22 : (c : After-lowest_failing) → Found (input_there c.args.inputs.now) (words c.args.circuit.now) c.lowest_failing.result
found_22 c = c.lowest_failing.ensures _ (λ read r answer. search rules)

found_23 : (c : After-lowest_failing-2) → Found (input_fits c.args.inputs.now) (words c.args.circuit.now) c.lowest_failing-2.result
found_23 c = c.lowest_failing-2.ensures _ (λ read r answer. search rules)

pub overflow_cast-result : goal.overflow_cast-result
overflow_cast-result c =
    omega (arith, found_below _ _ c.requires (rw c.in-Some.is at (found_22 (goal.at.overflow_cast-result c).After-lowest_failing)))

pub returns-in-Some-clause-err : goal.returns-in-Some-clause-err
unfolding failing22
returns-in-Some-clause-err c = rw c.in-Some.is at (found_22 (goal.at.returns-in-Some-clause-err c).After-lowest_failing)

pub overflow_cast-result-in-Some-lowest_failing : goal.overflow_cast-result-in-Some-lowest_failing
overflow_cast-result-in-Some-lowest_failing c =
    omega (
      arith,
      found_below _ _ c.requires
          (rw c.in-Some-lowest_failing.is at (found_23 (goal.at.overflow_cast-result-in-Some-lowest_failing c).After-lowest_failing-2)),
    )

pub returns-in-Some-lowest_failing-clause-err : goal.returns-in-Some-lowest_failing-clause-err
unfolding failing22 failing23
returns-in-Some-lowest_failing-clause-err c =
    let step = goal.at.returns-in-Some-lowest_failing-clause-err c in
    (rw c.in_default.is at (found_22 step.After-lowest_failing), rw c.in-Some-lowest_failing.is at (found_23 step.After-lowest_failing-2))

pub returns-clause-ok : goal.returns-clause-ok
unfolding failing22 failing23
returns-clause-ok c =
    let step = goal.at.returns-clause-ok c in
    record {
      no_22 = rw c.in_default.is at (found_22 step.After-lowest_failing);
      no_23 = rw c.in_default-lowest_failing.is at (found_23 step.After-lowest_failing-2);
    }
