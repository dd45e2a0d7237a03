-- `shapes::shape_of` is the rules' shape of a kind: the constant table is theirs, line by line.
use Rattle.rules.specs.Rows.{kinds}
use Rattle.table.proofs.ShapeLaws.{shape_found}
use Rattle.table.proofs.shapes.shape_of.Goals as goal

pub returns : goal.returns
unfolding kinds
returns c = rw (c.unwrap_or.ensures, c.copied.ensures) (shape_found c.get.result c.args.kind c.get.ensures.lookup.0 c.get.ensures.lookup.1)
