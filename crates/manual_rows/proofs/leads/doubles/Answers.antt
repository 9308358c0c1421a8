-- `manual_rows::leads::doubles` meets its contract. Assumes nothing.
use Rattle.std.proofs.Common.{arith}
use Rattle.manual_rows.proofs.Leading.{lead, double_to_unprivileged, double_to_extra_last, double_to_extra, double_to_extra_above}
use Rattle.manual_rows.proofs.leads.doubles.Goals as goal
use Rattle.manual_rows.proofs.leads.doubles.Goals.{else-op1-lt16-via-then-op1-lt16+then-op1-eq1+else-op1-eq1-2, else-op1-lt16-via-then-op1-lt16+else-op1-eq1, else-op1-lt16-via-else-op1-lt16}

pub returns-then-op1-eq1-2 : goal.returns-then-op1-eq1-2
returns-then-op1-eq1-2 c =
    lead (double_to_unprivileged _ c.requires.0 c.requires.1
    c.requires.2 c.requires.3 (omega arith) (omega arith) (omega arith))
    c.unprivileged.ensures

pub returns-else-op1-lt16 : goal.returns-else-op1-lt16
returns-else-op1-lt16 c =
    let is = c.column-op1.ensures in
    let asked = c.requires in
    elim c.else-op1-lt16.branch [
      | else-op1-lt16-via-then-op1-lt16+then-op1-eq1+else-op1-eq1-2 w ↦
          lead
          (double_to_extra_last _ asked.0 asked.1 asked.2 asked.3 (omega (arith, is, w.if-op1-lt16.true)) (omega (arith, is, w.if-op1-eq1.true))
          (omega (arith, is, w.if-op1-eq1-2.false)))
          c.extra.ensures
      | else-op1-lt16-via-then-op1-lt16+else-op1-eq1 w ↦
          lead
          (double_to_extra _ asked.0 asked.1 asked.2 asked.3 (omega (arith, is, w.if-op1-lt16.true)) (omega (arith, is, w.if-op1-eq1.false)))
          c.extra.ensures
      | else-op1-lt16-via-else-op1-lt16 w ↦
          lead (double_to_extra_above _ asked.0 asked.1 asked.2 asked.3 (omega (arith, is, w.if-op1-lt16.false))) c.extra.ensures
    ]
