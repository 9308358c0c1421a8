-- `row::put_row` meets its contract. Assumes nothing.
use Rattle.std.proofs.Common.{arith}
use Rattle.text.proofs.Settled.{fits, no_room}
use Rattle.insn_row.specs.Row.{row_of}
use Rattle.insn_row.proofs.Sizes.{row_size}
use Rattle.insn_row.proofs.put_row.Goals as goal

pub put_insn-requires : goal.put_insn-requires
put_insn-requires c = omega (arith, c.if-out-ge-ROW.true, row_size c.args.i (omega arith))

pub returns-then-out-ge-ROW : goal.returns-then-out-ge-ROW
returns-then-out-ge-ROW c =
    let both = fits (omega (arith, c.if-out-ge-ROW.true, row_size c.args.i (omega arith))) c.put_insn.ensures in
    record { value = both.0; out_after = both.1 }

pub returns-else-out-ge-ROW : goal.returns-else-out-ge-ROW
returns-else-out-ge-ROW c =
    let both = no_room (row_of c.args.i) {out = c.args.out.now} (omega (arith, c.if-out-ge-ROW.false, row_size c.args.i (omega arith))) in
    record { value = both.0; out_after = both.1 }
