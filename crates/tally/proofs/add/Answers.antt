-- `tally::add` meets its contract. Assumes nothing.
use Rattle.std.proofs.Common.{◌≤◌, length, rules, ◌∙◌}
use Rattle.std.proofs.lemmas.Result.{err_from_is_err_and}
use Rattle.section.proofs.Refused.{refused_by, accepted_where}
use Rattle.tally.specs.Kinds.{COUNTS}
use Rattle.tally.specs.Tally.{own_of, add_of}
use Rattle.tally.proofs.Answers.{of_tally}
use Rattle.tally.proofs.add.Goals as goal

pub returns-in_err-add_to : goal.returns-in_err-add_to
unfolding add_of
returns-in_err-add_to c =
    let counts = c.args.tally.counts in
    let long : COUNTS ≤ length counts = search rules in
    let p = err_from_is_err_and c.from_residual.result c.from_residual.ensures.1 in
    rw (p.1, p.2) (refused_by _ _ c.in_err-add_to.field-0.0 (c.in_err-add_to.ensures.value ∙ of_tally (own_of c.args.section.now) counts long))

pub returns : goal.returns
unfolding add_of
returns c =
    let counts = c.args.tally.counts in
    let long : COUNTS ≤ length counts = search rules in
    let taken = c.in_ok-add_to.ensures in
    rw (taken.counts_after, ← taken.value) (accepted_where _ _ (taken.value ∙ of_tally (own_of c.args.section.now) counts long))
