-- `types::check_types` finds the lowest row that fails check 6.
use Rattle.std.proofs.Common.{◌<◌, sym, ◌∙◌, arith}
use Rattle.words.specs.Words.{words}
use Rattle.rules.specs.Types.{type_e, check6}
use Rattle.rules.specs.Answers.{rows_of, failing6}
use Rattle.table.specs.declared.meaning.Ty.TheVariants.{Uint}
use Rattle.table.specs.Meaning.{as_type}
use Rattle.names.proofs.NoteLaws.{passes_two}
use Rattle.names.proofs.NotedLaws.{noted_start, row_few, noted_breaks, noted_more, noted_all}
use Rattle.names.proofs.InputLaws.{read_in, seen_none, seen_next, passing_clash}
use Rattle.names.proofs.types.check_types.Goals as goal

pub loop-i-init : goal.loop-i-init
loop-i-init c =
    let table = c.args.named.now.table.now in
    record {
      types = noted_start (check6 (words table)) (λ sc e. as_type (type_e sc e)) Uint table;
      inputs = seen_none table c.new-inputs.result.sorts c.new-inputs.ensures;
    }

pub returns-then-not-typed : goal.returns-then-not-typed
unfolding failing6
returns-then-not-typed c = noted_breaks c.args.named.now.passes c.loop-i.invariant.types (omega arith) (sym c.typed.ensures ∙ c.if-not-typed.true)

pub bounds-types-i : goal.bounds-types-i
bounds-types-i c = row_few c.args.named.now.table.now c.args.named.now.passes c.loop-i.i (omega arith)

pub note_read-requires : goal.note_read-requires
note_read-requires c =
    let named = c.args.named.now in
    rw c.meaning.ensures (read_in named.table.now (passes_two named.table.now named.passes) c.loop-i.i (omega arith))

pub loop-i-preserved : goal.loop-i-preserved
loop-i-preserved c =
    let named = c.args.named.now in
    let table = named.table.now in
    let more : c.loop-i.i < rows_of table = omega arith in
    let passes = sym c.typed.ensures ∙ c.if-not-typed.false in
    record {
      types = noted_more named.passes c.loop-i.invariant.types more passes c.type_at.result c.type_at.ensures;
      inputs = rw (c.note_read.ensures, c.meaning.ensures)
          (seen_next table (passes_two table named.passes) c.loop-i.i more c.loop-i.inputs.sorts c.loop-i.invariant.inputs c.loop-i.inputs.sized
          (passing_clash table named.passes c.loop-i.i more passes));
    }

pub returns : goal.returns
unfolding failing6
returns c = noted_all c.args.named.now.passes c.loop-i.invariant.types (omega arith)
