-- `evaluate`: each way out is a line of the paper's table.
use Rattle.std.proofs.Common.{◌≡◌, Err, sym, ◌∙◌, rules}
use Rattle.rules.proofs.Basics.{of_true}
use Rattle.evaluate.specs.declared.Refusal.TheVariants.{GateBreaksRules}
use Rattle.evaluate.proofs.AnswerLaws.{promise_20, promise_21, promise_inputs}
use Rattle.evaluate.proofs.evaluate.Goals as goal

pub returns-then-not-fits : goal.returns-then-not-fits
returns-then-not-fits c = promise_20 _ (sym c.fits.ensures ∙ c.if-not-fits.true)

pub returns-in_err-check_gates : goal.returns-in_err-check_gates
returns-in_err-check_gates c =
    let is : c.from_residual.result ≡ Err (GateBreaksRules c.in_err-check_gates.field-0.0.gate) = search rules in
    rw is (promise_21 _ (sym c.fits.ensures ∙ c.if-not-fits.false) c.in_err-check_gates.ensures)

pub returns-in_err-check_inputs : goal.returns-in_err-check_inputs
returns-in_err-check_inputs c =
    let is : c.from_residual-in_err-check_inputs.result ≡ Err c.in_err-check_inputs.field-0.0 = search rules in
    rw is (promise_inputs _ (of_true _ (sym c.fits.ensures ∙ c.if-not-fits.false)) c.in_ok-check_gates.ensures.0 _ c.in_err-check_inputs.ensures.err)
