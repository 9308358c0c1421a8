-- `manual_flows::number` meets its contract. Assumes nothing.
use Rattle.std.proofs.Common.{ap, ◌∙◌, ℕ}
use Rattle.manual_tables.specs.Titles.{title_at}
use Rattle.manual_flows.specs.Flows.{writers, control_number, control_by, control_as}
use Rattle.manual_flows.proofs.Letters.{some_letter, kind_is}
use Rattle.manual_flows.proofs.number.Goals as goal

pub overflow_sub-n : goal.overflow_sub-n
overflow_sub-n c = unfold title_at in some_letter writers _ c.requires

pub returns : goal.returns
returns c addr = unfold title_at control_as in
    c.number_by.ensures addr ∙ ap (λ (k : ℕ). control_number (control_by c.args.w addr k)) (kind_is writers _ c.requires)
