-- `labels::check_public` finds the lowest row that fails check 7.
use Rattle.std.proofs.Common.{arith, rules}
use Rattle.rules.specs.Labels.{check7}
use Rattle.rules.specs.Answers.{secret_in, failing7}
use Rattle.rows.specs.Passed.{In}
use Rattle.rows.specs.ByRow.{site_at}
use Rattle.rows.proofs.Table.{rows_in_lem}
use Rattle.table.proofs.LoopLaws.{finds_lowest, finds_by_rows}
use Rattle.names.proofs.NoteLaws.{passes_one, passes_three}
use Rattle.names.proofs.PublicLaws.{public_at_row}
use Rattle.names.proofs.labels.check_public.Goals as goal

pub lowest_failing-requires : goal.lowest_failing-requires
lowest_failing-requires c r below =
    let there : In c.args.table.now r.0 = rows_in_lem c.args.table.now (passes_one c.args.table.now c.requires.0) r.0 (omega arith) in
    search rules

pub returns : goal.returns
unfolding failing7
returns c =
    let table = c.args.table.now in
    let test = check7 (secret_in table) in
    finds_by_rows table (passes_three table c.requires.0) test c.lowest_failing.result
    (rw (← c.row_count.ensures)
    (finds_lowest c.lowest_failing.ensures (λ r. test (site_at table r))
    (λ r b below is. let at_row = public_at_row table c.args.secret.now c.requires.0 c.requires.1 r.0 (omega arith) in search rules)))
