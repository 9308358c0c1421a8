-- `section::read` meets its contract. Assumes nothing.
use mathlib.Core.Path.{sym, ap, ◌∙◌}
use Prim.Native.Nat.{◌+◌, ◌<◌}
use native.Mathlib.Omega.{arith}
use Rattle.section.specs.Section.{opening_of, here_at}
use Rattle.section.specs.declared.Here.{Here}
use Rattle.section.specs.declared.Opened.{Opened}
use Rattle.section.proofs.Places.{how_many_lem, before_end, steps_before, steps_at_end}
use Rattle.section.proofs.read.Goals as goal

pub returns-then-place-opened : goal.returns-then-place-opened
returns-then-place-opened c =
    let s = c.args.bytes.now in
    let place = c.args.place in
    let is = c.requires in
    let inside : place < (opening_of s).count = omega (arith, c.if-place-opened.true, ap (λ (o : Opened). o.count) is) in
    let there = c.here_at.ensures ∙ ap (λ (o : Opened). here_at s o place) is ∙ sym (before_end s (omega (arith, how_many_lem s))) in
    ap (λ (here : Here). record { here = here; after = place + 1 }) there ∙ steps_before s place inside

pub returns-else-place-opened : goal.returns-else-place-opened
returns-else-place-opened c =
    steps_at_end c.args.bytes.now c.args.place (omega (arith, c.if-place-opened.false, ap (λ (o : Opened). o.count) c.requires))
