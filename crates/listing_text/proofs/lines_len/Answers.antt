-- `listing_text::lines_len` meets its contract. The loop's invariant: what the lines of the places before the reader's take is added up, and their
-- words that are named, and those that are data, are counted. Assumes nothing.
use mathlib.Core.Path.{refl, ap, sym, ◌∙◌}
use mathlib.Core.List.{List, []}
use Prim.Native.Nat.{ℕ}
use native.Mathlib.Omega.{arith}
use lib.ListN.{length, length-append}
use Rattle.section.proofs.Fold.{goes_on, ends}
use Rattle.section.proofs.Yielded.{stands}
use Rattle.listing_text.specs.Listing.{add_line, named_here, data_here, adding}
use Rattle.listing_text.proofs.Grow.{one_named, one_data, count_small, lines_small}
use Rattle.listing_text.proofs.lines_len.Goals as goal

pub loop-here-init : goal.loop-here-init
loop-here-init c =
    let start = c.places-here-items.ensures in
    rw c.into_iter-here-iterator.ensures.into_iter_gives (start.0, rw start.1 refl, rw start.1 refl, rw start.1 refl)

pub add_here-lines-requires : goal.add_here-lines-requires
add_here-lines-requires c =
    let now = c.loop-here in
    let section = c.args.section.now in
    let place = now.here-iterator.place in
    let found = rw now.invariant.0 at c.in-Some.ensures.steps.1 in
    let some = stands section place (rw now.invariant.0 at c.in-Some.ensures.steps.0) found in (
      omega (arith, now.invariant.2, count_small section place found some named_here one_named),
      omega (arith, now.invariant.3, count_small section place found some data_here one_data),
      omega (arith, now.invariant.1, lines_small section place found some),
    )

pub loop-here-preserved : goal.loop-here-preserved
loop-here-preserved c =
    let added = c.add_here-lines in
    let now = c.loop-here in
    let section = c.args.section.now in
    let place = now.here-iterator.place in
    let found = rw now.invariant.0 at c.in-Some.ensures.steps.1 in
    let some = stands section place (rw now.invariant.0 at c.in-Some.ensures.steps.0) found in (
      rw c.in-Some.ensures.steps.2 now.invariant.0,
      rw (goes_on section place found refl some add_line []) (simp length-append (omega (arith, added.ensures.at_value, now.invariant.1))),
      added.ensures.named_value.0 ∙ rw now.invariant.2 (sym (goes_on section place found refl some (adding named_here) 0)),
      added.ensures.named_value.1 ∙ rw now.invariant.3 (sym (goes_on section place found refl some (adding data_here) 0)),
    )

pub returns-clause-at_value : goal.returns-clause-at_value
returns-clause-at_value c =
    let now = c.loop-here in
    let found = rw now.invariant.0 at c.in-None.ensures.steps.1 in
    now.invariant.1 ∙ ap (λ (text : List ℕ). length text) (ends c.args.section.now now.here-iterator.place found refl add_line [])

pub returns-clause-named_value : goal.returns-clause-named_value
returns-clause-named_value c =
    let now = c.loop-here in
    let found = rw now.invariant.0 at c.in-None.ensures.steps.1 in
    now.invariant.2 ∙ ends c.args.section.now now.here-iterator.place found refl (adding named_here) 0

pub returns-clause-pool_value : goal.returns-clause-pool_value
returns-clause-pool_value c =
    let now = c.loop-here in
    let found = rw now.invariant.0 at c.in-None.ensures.steps.1 in
    now.invariant.3 ∙ ends c.args.section.now now.here-iterator.place found refl (adding data_here) 0
