-- `search::find` passes a row that does not bind the name.
use Rattle.std.proofs.Common.{[], ◌∷◌, ◌∙◌}
use Rattle.words.specs.Words.{words}
use Rattle.rows.specs.Passed.{In}
use Rattle.names.proofs.SearchLaws.{found_before, All-front}
use Rattle.names.proofs.search.find.Goals as goal

pub loop-row-preserved : goal.loop-row-preserved
loop-row-preserved c =
    let table = c.args.table.now in
    let older = c.in-Some.older.now in
    let row = c.in-Some.field-0-0.now in
    let entries = c.in-Some.ensures.cases.0 in
    let passed = found_before (words table) older row c.args.name entries (λ e. c.if-word_at-name.false (c.word_at.ensures ∙ e)) in
    record {
      same = passed ∙ c.loop-row.invariant.same;
      inside = All-front (λ row. In table row.0) older (row ∷ []) (rw entries at c.loop-row.invariant.inside);
    }
