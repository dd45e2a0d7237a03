-- `Walk::walk_expr` looks at a row and the expressions in it; `Walk::walk_part` at the expression in a word.
use Rattle.std.proofs.Common.{◌≡◌, arith}
use Rattle.std.proofs.lemmas.Grind.{common_steps}
use Rattle.table.specs.declared.shapes.Field.TheVariants.{Child}
use Rattle.table.specs.declared.shapes.Sort.TheVariants.{Expr}
use Rattle.names.proofs.SweepLaws.{look_in, part_on, parts, looked_heads, looked_part, looked_other}
use Rattle.names.proofs.scope.Walk.+walk_expr_walk_part.Goals as goal

pub walk_expr-row_words-read-requires : goal.walk_expr-row_words-read-requires
walk_expr-row_words-read-requires t c = look_in c.requires

pub walk_expr-walk_part-requires : goal.walk_expr-walk_part-requires
walk_expr-walk_part-requires t c =
    let (a, b, c') = parts c.requires c.row_words-read.ensures in
    (omega (arith, a.lower, c.decreases), part_on c.look.ensures _ _ a.can)

pub walk_expr-walk_part-requires-2 : goal.walk_expr-walk_part-requires-2
walk_expr-walk_part-requires-2 t c =
    let (a, b, c') = parts c.requires c.row_words-read.ensures in
    (omega (arith, b.lower, c.decreases), part_on c.walk_part.ensures _ _ (part_on c.look.ensures _ _ b.can))

pub walk_expr-walk_part-requires-3 : goal.walk_expr-walk_part-requires-3
walk_expr-walk_part-requires-3 t c =
    let (a, b, c') = parts c.requires c.row_words-read.ensures in
    (omega (arith, c'.lower, c.decreases), part_on c.walk_part-2.ensures _ _ (part_on c.walk_part.ensures _ _ (part_on c.look.ensures _ _ c'.can)))

pub walk_expr-returns : goal.walk_expr-returns
walk_expr-returns t c =
    looked_heads c.args.row.0 c.row_words-read.ensures c.look.ensures c.walk_part.ensures c.walk_part-2.ensures c.walk_part-3.ensures

pub walk_part-walk_expr-requires : goal.walk_part-walk_expr-requires
walk_part-walk_expr-requires t c =
    let is : c.args.field ≡ Child Expr = grind (arith, common_steps) in
    let can = rw is at c.requires in
    let above = rw is at c.decreases in
    (omega (arith, above), can.0)

pub walk_part-returns-then-eq : goal.walk_part-returns-then-eq
walk_part-returns-then-eq t c =
    let is : c.args.field ≡ Child Expr = grind (arith, common_steps) in
    rw is (looked_part c.args.word (rw is at c.requires) c.walk_expr.ensures)

pub walk_part-returns-else-eq : goal.walk_part-returns-else-eq
walk_part-returns-else-eq t c = looked_other c.args.self.now c.args.field c.args.word (λ is. grind (arith, common_steps))
