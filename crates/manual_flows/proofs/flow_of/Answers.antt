-- `manual_flows::flow_of` meets its contract. Assumes nothing.
use Rattle.manual_flows.proofs.Letters.{unknown_is, known_is}
use Rattle.manual_flows.proofs.flow_of.Goals as goal

pub returns-then-opens : goal.returns-then-opens
returns-then-opens c addr = unknown_is _ _ c.brassdozen_manual_row-n.ensures addr (cc)

pub returns-else-opens : goal.returns-else-opens
returns-else-opens c addr = known_is _ _ c.brassdozen_manual_row-n.ensures addr (cc) (c.number.ensures addr)
