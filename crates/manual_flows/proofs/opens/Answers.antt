-- `manual_flows::opens` meets its contract. Assumes nothing.
use Rattle.std.proofs.Common.{ap, ◌∙◌}
use Rattle.manual_tables.specs.Titles.{title_at}
use Rattle.manual_flows.specs.Opens.{destinations, opens_by}
use Rattle.manual_flows.specs.Opens as O
use Rattle.manual_flows.proofs.Letters.{some_letter, kind_is}
use Rattle.manual_flows.proofs.opens.Goals as goal

pub overflow_sub-n : goal.overflow_sub-n
overflow_sub-n c = unfold title_at in some_letter destinations _ c.requires

pub returns : goal.returns
returns c = unfold title_at O.opens in c.opens_by.ensures ∙ ap (opens_by _) (kind_is destinations _ c.requires)
