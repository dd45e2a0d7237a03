-- `judge_names` is the verdict of checks 5 to 8, of a table that passes the first four.
use Rattle.std.proofs.Common.{rules}
use Rattle.names.proofs.DeclareLaws.{declares_knows}
use Rattle.names.proofs.JudgeLaws.{none_refused, judged_step, judged_last}
use Rattle.names.proofs.judge_names.Goals as goal

pub invariant_of-named-clause-knows : goal.invariant_of-named-clause-knows
invariant_of-named-clause-knows c = declares_knows c.check_names.ensures.1

pub returns-in_err-map_err : goal.returns-in_err-map_err
returns-in_err-map_err c =
    judged_step c.args.table.now c.args.secret.now 4 (λ row why is. search rules) c.check_names.result c.map_err.result c.check_names.ensures.0 c.map_err.ensures.cases
    c.requires c.in_err-map_err.was c.from_residual.result c.from_residual.ensures.1

pub returns-in_err-map_err-2 : goal.returns-in_err-map_err-2
returns-in_err-map_err-2 c =
    judged_step c.args.table.now c.args.secret.now 5 (λ row why is. search rules) c.check_types.result c.map_err-2.result c.check_types.ensures c.map_err-2.ensures.cases
    (search rules) c.in_err-map_err-2.was c.from_residual-in_err-map_err-2.result c.from_residual-in_err-map_err-2.ensures.1

pub returns-in_err-map_err-3 : goal.returns-in_err-map_err-3
returns-in_err-map_err-3 c =
    judged_step c.args.table.now c.label.new.secret 6 (λ row why is. search rules) c.check_public.result c.map_err-3.result c.check_public.ensures c.map_err-3.ensures.cases
    (search (rules, none_refused)) c.in_err-map_err-3.was c.from_residual-in_err-map_err-3.result c.from_residual-in_err-map_err-3.ensures.1

pub returns : goal.returns
returns c =
    judged_last c.args.table.now c.label.new.secret 7 (λ row why is. search rules) c.check_indexes.result c.map_err-4.result c.check_indexes.ensures
    c.map_err-4.ensures.cases (search (rules, none_refused)) (λ last. search (rules, none_refused)) c.label.ensures
