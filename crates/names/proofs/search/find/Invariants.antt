-- The loop's invariant: the rows of the scope after those that are left do not bind the name.
use Rattle.std.proofs.Common.{◌≡◌, length}
use Rattle.words.specs.Words.{words}
use Rattle.names.specs.Stack.{Stacked, found_in}
use Rattle.names.proofs.search.find.Given as goal

abbrev pub invariant-loop-row : goal.invariant-loop-row
invariant-loop-row l =
    record { same : found_in (words l.table) l.entries l.name ≡ found_in (words l.table) l.scope l.name; inside : Stacked l.table l.entries }

abbrev pub decreases-loop-row : goal.decreases-loop-row
decreases-loop-row l = length l.entries
