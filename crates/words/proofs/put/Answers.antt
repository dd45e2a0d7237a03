-- `put` sets the four bytes of word i.
use Rattle.std.proofs.Common.{arith, ◌≡◌, ◌*◌, ◌-◌, ◌+◌}
use Rattle.words.proofs.LittleEndian.{copy_four}
use Rattle.words.proofs.put.Goals as goal

pub returns : goal.returns
returns c =
    let four : 4 * c.args.i + 4 - 4 * c.args.i ≡ 4 = omega arith in
    rw (four, c.copy_from_slice.ensures.after, c.to_le_bytes.ensures) (copy_four (4 * c.args.i) c.args.b.now _ _ _ _ c.requires)
