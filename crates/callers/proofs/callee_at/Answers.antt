-- `callers::callee_at` meets its contract. Assumes nothing.
use mathlib.Core.Path.{ap, sym, ◌∙◌}
use native.Mathlib.Omega.{arith}
use Prim.Native.Nat.{◌<◌}
use Rattle.section.specs.Section.{opening_of}
use Rattle.section.specs.Replaced.{with_word}
use Rattle.section.specs.declared.Opened.{Opened}
use Rattle.section.specs.declared.Step.{Step}
use Rattle.section.proofs.Replaced.{new_there}
use Rattle.callers.specs.Calls.{callee_here}
use Rattle.callers.proofs.callee_at.Goals as goal

pub returns : goal.returns
returns c =
    let args = c.args in
    let inside : args.place < (opening_of args.section.now).count = omega (arith, c.requires.1, ap (λ (o : Opened). o.count) c.requires.0) in
    c.callee_here.ensures
    ∙ ap callee_here (c.with_word.ensures ∙ ap (λ (found : Step). with_word args.word found.here) c.read.ensures
    ∙ sym (new_there args.section.now args.place args.word inside (omega (arith, c.ranges.word))))
