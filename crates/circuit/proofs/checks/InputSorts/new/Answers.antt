-- `checks::InputSorts::new` notes no input.
use Rattle.circuit.proofs.CheckLaws.{unread}
use Rattle.circuit.proofs.checks.InputSorts.new.Goals as goal

pub returns : goal.returns
returns c = unread
