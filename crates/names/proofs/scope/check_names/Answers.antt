-- `scope::check_names` is the walk over the last row with an empty stack, which is the walk over the program.
use Rattle.std.proofs.Common.{refl, arith, rules, ◌≡◌}
use Rattle.std.specs.Prelude.{Ok, Err, MatchOption}
use Rattle.rules.specs.Answers.{failing5}
use Rattle.names.specs.Declares.{Declares}
use Rattle.names.proofs.DeclareLaws.{rows_there, can_walk_all, finds_all, declares_all, finds_of_lowest}
use Rattle.names.proofs.scope.check_names.Goals as goal

pub overflow_sub-last : goal.overflow_sub-last
overflow_sub-last c = omega (arith, rows_there c.args.table.now c.requires)

pub walk_statement-requires : goal.walk_statement-requires
walk_statement-requires c = can_walk_all c.args.table.now c.requires refl c.new.ensures c.row_count.result c.row_count.ensures

pub returns : goal.returns
returns c =
    let table = c.args.table.now in
    let n = c.row_count.result in
    let lowest = c.walk_statement.new.self.lowest in
    let finds = finds_all table c.requires refl c.new.ensures n c.row_count.ensures refl c.walk_statement.ensures in
    let declares : Declares table c.walk_statement.new.self.binders.now =
    declares_all table c.requires refl c.new.ensures n c.row_count.ensures refl c.walk_statement.ensures c.told-binders in
    let answer : MatchOption lowest (c.map_or.result ≡ Ok tt) (λ row. c.map_or.result ≡ Err row) = search rules in
    (finds_of_lowest (failing5 table) lowest c.map_or.result answer finds, search rules)
