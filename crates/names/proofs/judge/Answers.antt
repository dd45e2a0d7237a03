-- `judge` is the verdict of checks 1 to 8, of any bytes.
use Rattle.std.proofs.Common.{refl, sym, ◌∙◌, rules}
use Rattle.names.specs.declared.Refusal.TheVariants.{Length}
use Rattle.names.proofs.JudgeLaws.{unfit, fit, judged_refused, none_refused, judged_step}
use Rattle.names.proofs.judge.Goals as goal

pub returns-then-not-fits : goal.returns-then-not-fits
returns-then-not-fits c =
    judged_refused c.args.table.now c.args.secret.now 0 Length tt (unfit c.args.table.now (sym c.fits.ensures ∙ c.if-not-fits.true)) refl

pub returns-in_err-map_err : goal.returns-in_err-map_err
returns-in_err-map_err c =
    judged_step c.args.table.now c.args.secret.now 1 (λ row why is. search rules) c.check_shapes.result c.map_err.result c.check_shapes.ensures c.map_err.ensures.cases
    (search (rules, none_refused, fit)) c.in_err-map_err.was c.from_residual.result c.from_residual.ensures.1

pub returns-in_err-map_err-2 : goal.returns-in_err-map_err-2
returns-in_err-map_err-2 c =
    judged_step c.args.table.now c.args.secret.now 2 (λ row why is. search rules) c.check_uses.result c.map_err-2.result c.check_uses.ensures c.map_err-2.ensures.cases
    (search (rules, none_refused, fit)) c.in_err-map_err-2.was c.from_residual-in_err-map_err-2.result c.from_residual-in_err-map_err-2.ensures.1

pub returns-in_err-map_err-3 : goal.returns-in_err-map_err-3
returns-in_err-map_err-3 c =
    judged_step c.args.table.now c.args.secret.now 3 (λ row why is. search rules) c.check_depths.result c.map_err-3.result c.check_depths.ensures c.map_err-3.ensures.cases
    (search (rules, none_refused, fit)) c.in_err-map_err-3.was c.from_residual-in_err-map_err-3.result c.from_residual-in_err-map_err-3.ensures.1
