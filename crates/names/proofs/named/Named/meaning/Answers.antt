-- `Named::meaning`: a row of the table lies in its bytes.
use Rattle.std.proofs.Common.{arith}
use Rattle.rows.proofs.Table.{rows_in_lem}
use Rattle.names.proofs.NoteLaws.{passes_one}
use Rattle.names.proofs.named.Named.meaning.Goals as goal

pub meaning_at-requires : goal.meaning_at-requires
meaning_at-requires c =
    let named = c.args.self.now in
    rows_in_lem named.table.now (passes_one named.table.now named.passes) _ (omega (arith, c.requires))
