-- `walk::marked_len` meets its contract. Assumes nothing.
use Rattle.section.proofs.Accepted.{is_opening}
use Rattle.walk.proofs.marked_len.Goals as goal

pub records_len-requires : goal.records_len-requires
records_len-requires c = rw (is_opening c.args.section.now c.opened.ensures) c.requires

pub returns : goal.returns
returns c = rw (← (is_opening c.args.section.now c.opened.ensures), ← c.leads_at-leads.ensures) c.records_len.ensures
