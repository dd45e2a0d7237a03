-- `checks::fits` is check 1 of the rules: a table has a word for each four bytes.
use Rattle.std.proofs.Common.{rules}
use Rattle.words.proofs.Words.{words-length}
use Rattle.rules.specs.Rows.{table_fits}
use Rattle.table.proofs.checks.fits.Goals as goal

pub returns-then-n-eq0 : goal.returns-then-n-eq0
unfolding table_fits
returns-then-n-eq0 c = let n = words-length c.args.table.now in search rules

pub returns-else-n-eq0 : goal.returns-else-n-eq0
unfolding table_fits
returns-else-n-eq0 c = let n = words-length c.args.table.now in search rules
