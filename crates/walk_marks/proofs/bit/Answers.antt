-- `walk_marks::bit` meets its contract. Assumes nothing.
use mathlib.Core.Path.{sym}
use Rattle.walk_marks.proofs.Bits.{bit_at}
use Rattle.walk_marks.proofs.bit.Goals as goal

pub returns : goal.returns
returns c = sym (bit_at 32 c.args.w c.args.i c.requires)
