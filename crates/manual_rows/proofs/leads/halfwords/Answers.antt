-- `manual_rows::leads::halfwords` meets its contract. Assumes nothing.
use Rattle.std.proofs.Common.{arith}
use Rattle.manual_rows.proofs.Leading.{lead, half_to_unprivileged, half_to_extra, half_to_extra_above}
use Rattle.manual_rows.proofs.leads.halfwords.Goals as goal
use Rattle.manual_rows.proofs.leads.halfwords.Goals.{else-op1-lt16-via-then-op1-lt16+else-op1-eq1, else-op1-lt16-via-else-op1-lt16}

pub returns-then-op1-eq1 : goal.returns-then-op1-eq1
returns-then-op1-eq1 c =
    lead (half_to_unprivileged _ c.requires.0 c.requires.1 (omega arith) (omega arith))
    c.unprivileged.ensures

pub returns-else-op1-lt16 : goal.returns-else-op1-lt16
returns-else-op1-lt16 c =
    let is = c.column-op1.ensures in
    elim c.else-op1-lt16.branch [
      | else-op1-lt16-via-then-op1-lt16+else-op1-eq1 w ↦
          lead
          (half_to_extra _ c.requires.0 c.requires.1 (omega (arith, is, w.if-op1-lt16.true)) (omega (arith, is, w.if-op1-eq1.false)))
          c.extra.ensures
      | else-op1-lt16-via-else-op1-lt16 w ↦
          lead (half_to_extra_above _ c.requires.0 c.requires.1 (omega (arith, is, w.if-op1-lt16.false))) c.extra.ensures
    ]
