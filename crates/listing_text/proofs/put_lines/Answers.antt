-- `listing_text::put_lines` meets its contract. The loop's invariant: the lines of the places before the reader's are written, and their words that
-- are named, and those that are data, are counted. Assumes nothing.
use mathlib.Core.Path.{refl, sym, ◌∙◌}
use mathlib.Core.List.{[]}
use native.Mathlib.Omega.{arith}
use Rattle.text.proofs.Writing.{none, ◌then◌}
use Rattle.section.proofs.Fold.{goes_on, ends}
use Rattle.section.proofs.Yielded.{stands}
use Rattle.listing_text.specs.Listing.{add_line, named_here, data_here, adding}
use Rattle.listing_text.proofs.Grow.{one_named, one_data, next_fits, count_small}
use Rattle.listing_text.proofs.put_lines.Goals as goal

pub loop-here-init : goal.loop-here-init
loop-here-init c =
    let start = c.places-here-items.ensures in
    rw c.into_iter-here-iterator.ensures.into_iter_gives
    (start.0, refl, rw start.1 (none _ _), rw start.1 refl, rw start.1 refl)

pub put_here-lines-requires-clause-named_bound : goal.put_here-lines-requires-clause-named_bound
put_here-lines-requires-clause-named_bound c =
    let now = c.loop-here in
    let section = c.args.section.now in
    let place = now.here-iterator.place in
    let found = rw now.invariant.0 at c.in-Some.ensures.steps.1 in
    let some = stands section place (rw now.invariant.0 at c.in-Some.ensures.steps.0) found in (
      omega (arith, now.invariant.3, count_small section place found some named_here one_named),
      omega (arith, now.invariant.4, count_small section place found some data_here one_data),
    )

pub put_here-lines-requires-clause-room : goal.put_here-lines-requires-clause-room
put_here-lines-requires-clause-room c =
    let now = c.loop-here in
    let section = c.args.section.now in
    let place = now.here-iterator.place in
    let found = rw now.invariant.0 at c.in-Some.ensures.steps.1 in
    let some = stands section place (rw now.invariant.0 at c.in-Some.ensures.steps.0) found in
    omega (arith, c.requires, now.invariant.1, now.invariant.2.ends, next_fits section place found some)

pub loop-here-preserved : goal.loop-here-preserved
loop-here-preserved c =
    let put = c.put_here-lines in
    let now = c.loop-here in
    let section = c.args.section.now in
    let place = now.here-iterator.place in
    let found = rw now.invariant.0 at c.in-Some.ensures.steps.1 in
    let some = stands section place (rw now.invariant.0 at c.in-Some.ensures.steps.0) found in (
      rw c.in-Some.ensures.steps.2 now.invariant.0,
      put.auto.out ∙ now.invariant.1,
      rw (goes_on section place found refl some add_line []) (now.invariant.2 then put.ensures.put),
      put.ensures.named_value.0 ∙ rw now.invariant.3 (sym (goes_on section place found refl some (adding named_here) 0)),
      put.ensures.named_value.1 ∙ rw now.invariant.4 (sym (goes_on section place found refl some (adding data_here) 0)),
    )

pub returns-clause-put : goal.returns-clause-put
returns-clause-put c =
    let now = c.loop-here in
    let found = rw now.invariant.0 at c.in-None.ensures.steps.1 in
    rw (ends c.args.section.now now.here-iterator.place found refl add_line []) at now.invariant.2

pub returns-clause-named_value : goal.returns-clause-named_value
returns-clause-named_value c =
    let now = c.loop-here in
    let found = rw now.invariant.0 at c.in-None.ensures.steps.1 in
    now.invariant.3 ∙ ends c.args.section.now now.here-iterator.place found refl (adding named_here) 0

pub returns-clause-pool_value : goal.returns-clause-pool_value
returns-clause-pool_value c =
    let now = c.loop-here in
    let found = rw now.invariant.0 at c.in-None.ensures.steps.1 in
    now.invariant.4 ∙ ends c.args.section.now now.here-iterator.place found refl (adding data_here) 0
