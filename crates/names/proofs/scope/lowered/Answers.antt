-- `scope::lowered` is the lowest of the failing rows and one row more.
use Rattle.std.proofs.Common.{arith, ◌≡◌, min}
use Rattle.std.specs.Prelude.{MatchOption}
use Rattle.std.proofs.lemmas.Grind.{common_steps}
use Rattle.names.proofs.SweepLaws.{lowest_more}
use Rattle.names.proofs.scope.lowered.Goals as goal

pub returns : goal.returns
returns c =
    let smaller : MatchOption c.args.lowest (c.map_or.result ≡ c.args.row) (λ other. c.map_or.result.0 ≡ min other.0 c.args.row.0) = grind (arith, common_steps) in
    lowest_more c.args.lowest c.args.row c.map_or.result smaller
