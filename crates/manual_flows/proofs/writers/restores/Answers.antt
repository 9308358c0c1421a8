-- `manual_flows::writers::restores` meets its contract. Assumes nothing.
use Rattle.std.proofs.Common.{◌∙◌}
use Rattle.manual_flows.proofs.Letters.{restored, not_restored}
use Rattle.manual_flows.proofs.writers.restores.Goals as goal

pub returns-then-table_row-eq-MOV_REGISTER : goal.returns-then-table_row-eq-MOV_REGISTER
returns-then-table_row-eq-MOV_REGISTER c = c.to_register.ensures ∙ restored _ _ c.table_row.ensures c.if-table_row-eq-MOV_REGISTER.true

pub returns-else-table_row-eq-MOV_REGISTER : goal.returns-else-table_row-eq-MOV_REGISTER
returns-else-table_row-eq-MOV_REGISTER c = not_restored _ _ c.table_row.ensures c.if-table_row-eq-MOV_REGISTER.false
