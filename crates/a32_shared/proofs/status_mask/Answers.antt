-- `arm::status_mask` meets its contract. Assumes nothing.
use Rattle.std.proofs.Common.{arith}
use Rattle.word.specs.Layout.{joined_small}
use Rattle.a32_shared.proofs.status_mask.Goals as goal

pub overflow_cast-result : goal.overflow_cast-result
overflow_cast-result c = record { fits = rw c.bits_then.ensures (omega (arith, joined_small c.args.w 22 1 16 4)) }
