-- `checks::fits` is check 20 of the rules.
use Rattle.std.proofs.Common.{rules}
use Rattle.words.proofs.Words.{words-length}
use Rattle.rules.specs.Gates.{circuit_fits}
use Rattle.circuit.proofs.checks.fits.Goals as goal

pub returns-then-n-eq0 : goal.returns-then-n-eq0
unfolding circuit_fits
returns-then-n-eq0 c = rw (words-length c.args.circuit.now) (search rules)

pub returns-else-n-eq0 : goal.returns-else-n-eq0
unfolding circuit_fits
returns-else-n-eq0 c = rw (words-length c.args.circuit.now) (search rules)
