-- `rows::leads::table_row` meets its contract. Assumes nothing.
use Rattle.std.proofs.Common.{arith}
use Rattle.manual_rows.proofs.Leading.{lead, to_unconditional, to_data_processing, to_load_store, to_load_store_index, to_media}
use Rattle.manual_rows.proofs.Leading.{to_branch_and_block, to_coprocessor}
use Rattle.manual_rows.proofs.leads.table_row.Goals as goal

pub returns-then-cond-eq15 : goal.returns-then-cond-eq15
returns-then-cond-eq15 c = lead (to_unconditional _ (omega arith)) c.unconditional.ensures

pub returns-then-op1-lt2 : goal.returns-then-op1-lt2
returns-then-op1-lt2 c = lead (to_data_processing _ (λ e. omega arith) (omega arith)) c.data_processing.ensures

pub returns-then-op1-eq2 : goal.returns-then-op1-eq2
returns-then-op1-eq2 c = lead (to_load_store _ (λ e. omega arith) (omega arith)) c.load_store.ensures

pub returns-then-op-eq0 : goal.returns-then-op-eq0
returns-then-op-eq0 c = lead (to_load_store_index _ (λ e. omega arith) (omega arith) (omega arith)) c.load_store-then-op-eq0.ensures

pub returns-then-op1-eq3 : goal.returns-then-op1-eq3
returns-then-op1-eq3 c = lead (to_media _ (λ e. omega arith) (omega arith) (omega arith)) c.media.ensures

pub returns-then-op1-lt6 : goal.returns-then-op1-lt6
returns-then-op1-lt6 c = lead (to_branch_and_block _ (λ e. omega arith) (omega arith) (omega arith)) c.branch_and_block.ensures

pub returns : goal.returns
returns c = lead (to_coprocessor _ (λ e. omega arith) (omega arith)) c.coprocessor.ensures
