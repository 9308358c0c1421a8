-- `row::is_row` meets its contract. Assumes nothing.
use native.Mathlib.Omega.{arith}
use Rattle.insn_row.proofs.Sizes.{row_size}
use Rattle.insn_row.proofs.is_row.Goals as goal

pub has_insn-requires : goal.has_insn-requires
has_insn-requires c = omega (arith, c.if-row-ge-ROW.true, row_size c.args.i (omega arith))
