-- `walk_marks::without_bit` meets its contract. Assumes nothing.
use Rattle.walk_marks.proofs.Bits.{bit_cleared, weight}
use Rattle.walk_marks.proofs.without_bit.Goals as goal

pub returns : goal.returns
returns c = rw (weight c.args.i c.requires) (bit_cleared 32 c.args.w c.args.i c.requires)
