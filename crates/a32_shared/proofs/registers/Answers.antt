-- `a32_shared::registers` meets its contract. Assumes nothing.
use Rattle.std.proofs.Common.{◌∙◌, ap, arith}
use Rattle.insn.specs.Answer.{insn_of}
use Rattle.a32_shared.specs.Row.{cond_of, reg_of}
use Rattle.a32_shared.proofs.Filled.{one_more}
use Rattle.a32_shared.proofs.registers.Goals as goal

pub loop-n-preserved : goal.loop-n-preserved
loop-n-preserved g c =
    c.with-i.ensures
    ∙ rw (c.loop-n.invariant, c.op_at.ensures)
    (ap (insn_of c.args.addr c.args.name (cond_of c.args.w) c.args.flow)
    (one_more (reg_of c.args.w) c.args.lows c.loop-n.n (omega arith) (omega arith)))
