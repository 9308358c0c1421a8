-- `walk_marks::with_bit` meets its contract. Assumes nothing.
use Rattle.walk_marks.proofs.Bits.{bit_set, weight}
use Rattle.walk_marks.proofs.with_bit.Goals as goal

pub returns : goal.returns
returns c = rw (weight c.args.i c.requires) (bit_set 32 c.args.w c.args.i c.requires)
