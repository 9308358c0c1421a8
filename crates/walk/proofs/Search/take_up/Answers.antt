-- `walk::Search::take_up` meets its contract. Assumes nothing.
use native.Mathlib.Omega.{arith}
use Rattle.section.proofs.Accepted.{is_opening, opened}
use Rattle.walk_steps.specs.Steps.{steps_of}
use Rattle.walk.proofs.Search.take_up.Goals as goal

pub unset-requires : goal.unset-requires
unset-requires c = omega (arith, c.requires, (opened c.args.section.now).few)

pub follow_both-requires : goal.follow_both-requires
follow_both-requires c =
    let s = c.args.section.now in
    rw (is_opening s c.opened.ensures) (c.requires, (opened s).few)

pub returns : goal.returns
unfolding steps_of
returns c =
    rw (c.unset.ensures, c.leads_at-leads.ensures, is_opening c.args.section.now c.opened.ensures) at c.follow_both.ensures
