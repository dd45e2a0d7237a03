-- `get` returns word i of the bytes.
use Rattle.std.proofs.Common.{◌∙◌, sym}
use Rattle.words.proofs.LittleEndian.{joined_le}
use Rattle.words.proofs.Words.{words_at}
use Rattle.words.proofs.get.Goals as goal

pub returns : goal.returns
returns c = c.from_le_bytes.ensures ∙ joined_le _ _ _ _ ∙ sym (words_at c.args.b.now c.args.i c.requires)
