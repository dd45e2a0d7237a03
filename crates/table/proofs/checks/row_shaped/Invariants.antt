-- The loop's invariant: the first words of the row fit.
use Rattle.words.specs.Words.{words}
use Rattle.table.proofs.RowShapeLaws.{FitTo}
use Rattle.table.proofs.checks.row_shaped.Given as goal

abbrev pub invariant-loop-word : goal.invariant-loop-word
invariant-loop-word l = FitTo (words l.table) l.row.0 l.word-index
