-- `checks::row_shaped` is check 2 of a row: each of its words fits the field of the row's shape.
use Rattle.std.proofs.Common.{arith, rules, refl, sym, ap, ◌∙◌, ◌≡◌}
use Rattle.words.specs.Words.{words}
use Rattle.rules.specs.Rows.{kind_at, is_stmt}
use Rattle.table.specs.Shapes.{fields}
use Rattle.table.proofs.RowShapeLaws.{sort_stmt, fits_next, fits_not, fits_all}
use Rattle.table.proofs.checks.row_shaped.Goals as goal

pub returns-then-not-fits_field : goal.returns-then-not-fits_field
returns-then-not-fits_field c =
    sym (fits_not (words c.args.table.now) c.args.row.0 _ _ (c.fields-word-items.ensures ∙ ap fields c.row_words-read.ensures) c.loop-word.word-index
    c.loop-word-test.true c.loop-word.invariant (sym c.fits_field.ensures ∙ c.if-not-fits_field.true) c.args.n)

pub loop-word-preserved : goal.loop-word-preserved
loop-word-preserved c =
    fits_next (words c.args.table.now) c.args.row.0 _ _ (c.fields-word-items.ensures ∙ ap fields c.row_words-read.ensures) c.loop-word.word-index
    c.loop-word-test.true c.loop-word.invariant (sym c.fits_field.ensures ∙ c.if-not-fits_field.false)

pub returns-then-eq : goal.returns-then-eq
returns-then-eq c =
    let k = kind_at (words c.args.table.now) c.args.row.0 in
    let all = fits_all (words c.args.table.now) c.args.row.0 c.loop-word.word-index c.loop-word.invariant (omega arith) c.args.n in
    let st : c.eq.result ≡ is_stmt k = rw (c.eq.ensures, c.row_words-read.ensures) (sort_stmt _ refl refl k) in search rules

pub returns-else-eq : goal.returns-else-eq
returns-else-eq c =
    let k = kind_at (words c.args.table.now) c.args.row.0 in
    let all = fits_all (words c.args.table.now) c.args.row.0 c.loop-word.word-index c.loop-word.invariant (omega arith) c.args.n in
    let st : c.eq.result ≡ is_stmt k = rw (c.eq.ensures, c.row_words-read.ensures) (sort_stmt _ refl refl k) in search rules
