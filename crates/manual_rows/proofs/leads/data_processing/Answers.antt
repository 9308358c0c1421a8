-- `rows::leads::data_processing` meets its contract. Assumes nothing.
use Rattle.std.proofs.Common.{arith}
use Rattle.manual_rows.proofs.Leading.{lead, to_hints}
use Rattle.manual_rows.proofs.leads.data_processing.Goals as goal

pub returns-then-is_hint : goal.returns-then-is_hint
returns-then-is_hint c = lead (to_hints _ (omega arith) (cc)) c.msr_and_hints.ensures
