-- `tally::count_all` meets its contract. The loop's invariant: what the reader has given is counted, and the rest of the section is left to it.
-- Assumes nothing.
use Rattle.std.proofs.Common.{◌≡◌, ◌∙◌, refl, ap}
use Rattle.section.specs.Section.{places_of, left_of}
use Rattle.section.specs.declared.reader.Reader.{Reader}
use Rattle.section.proofs.Given.{gives_next, gave_all, steps_on}
use Rattle.tally.proofs.Folded.{counting, counted}
use Rattle.tally.proofs.count_all.Goals as goal

pub loop-here-init : goal.loop-here-init
loop-here-init c =
    let start = c.places-here-items.ensures in
    (refl, ap (λ (r : Reader). left_of r.bytes.now r.place) c.into_iter-here-iterator.ensures.into_iter_gives ∙ rw (start.0, start.1) refl)

pub loop-here-preserved : goal.loop-here-preserved
loop-here-preserved c =
    let now = c.loop-here in (
      c.count_here.ensures
          ∙ ap (λ l. counting l c.in-Some.here) now.invariant.0
          ∙ steps_on counting c.args.counts.now now.yielded c.in-Some.here,
      gives_next _ _ _ now.invariant.1 _ _ c.in-Some.ensures.steps.0,
    )

pub returns : goal.returns
returns c =
    let now = c.loop-here in
    let all : now.yielded ≡ places_of c.args.section.now = gave_all _ _ _ now.invariant.1 c.in-None.ensures.steps.0.0 in
    rw (c.count_here-2.ensures, now.invariant.0, all) (counted c.args.section.now c.args.counts.now)
