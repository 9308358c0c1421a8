-- `rows::leads::unconditional` meets its contract. Assumes nothing.
use Rattle.std.proofs.Common.{arith}
use Rattle.manual_rows.proofs.Leading.{lead, to_hints_and_simd, is_upper}
use Rattle.manual_rows.proofs.leads.unconditional.Goals as goal

pub returns-then-op1-lt128 : goal.returns-then-op1-lt128
returns-then-op1-lt128 c = lead (to_hints_and_simd _ (omega arith)) c.hints_and_simd.ensures

pub unconditional_upper-requires : goal.unconditional_upper-requires
unconditional_upper-requires c = is_upper _ (omega arith)
