-- `manual_rows::leads::msr_and_hints` meets its contract. Assumes nothing.
use Rattle.std.proofs.Common.{arith}
use Rattle.manual_rows.proofs.Leading.{lead, to_msr, to_msr_some, msr_number}
use Rattle.manual_rows.proofs.leads.msr_and_hints.Goals as goal
use Rattle.manual_rows.proofs.leads.msr_and_hints.Goals.{else-op-eq0-via-then-op-eq0+else-op1-eq0, else-op-eq0-via-else-op-eq0}

pub returns-else-op-eq0 : goal.returns-else-op-eq0
returns-else-op-eq0 c =
    elim c.else-op-eq0.branch [
      | else-op-eq0-via-then-op-eq0+else-op1-eq0 w ↦
          lead (to_msr_some _ (omega (arith, w.if-op-eq0.true, c.column-op.ensures)) (rw c.column-op1.ensures.0 at w.if-op1-eq0.false)) msr_number
      | else-op-eq0-via-else-op-eq0 w ↦
          lead (to_msr _ (omega (arith, w.if-op-eq0.false, c.column-op.ensures))) msr_number
    ]
