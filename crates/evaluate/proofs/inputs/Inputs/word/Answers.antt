-- `Inputs::word` reads the rules' input.
use Rattle.std.proofs.lemmas.Option.{unwrap_or-slice_get}
use Rattle.rules.specs.Plain.{inputs}
use Rattle.evaluate.specs.InputChecks.{desk_words}
use Rattle.evaluate.proofs.inputs.Inputs.word.Goals as goal

pub returns : goal.returns
unfolding inputs
returns c = rw (c.unwrap_or.ensures, c.get.ensures) (unwrap_or-slice_get (desk_words c.args.self.now c.args.read.desk) c.args.read.number 0)
