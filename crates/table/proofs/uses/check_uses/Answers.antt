-- `uses::check_uses` finds the lowest row that fails check 3: the counters start at 0.
use Rattle.std.proofs.Common.{refl}
use Rattle.table.proofs.TallyLaws.{tallied_none}
use Rattle.table.proofs.uses.check_uses.Goals as goal

pub count_all-requires : goal.count_all-requires
count_all-requires c = tallied_none c.requires refl
