-- `walk_marks::first` meets its contract. Assumes nothing.
use Rattle.std.proofs.Common.{arith}
use Rattle.walk_marks.proofs.Looking.{first_nowhere}
use Rattle.walk_marks.proofs.Marks.{length_marks}
use Rattle.walk_marks.proofs.first.Goals as goal

pub loop-at-init : goal.loop-at-init
loop-at-init c =
    (omega arith, omega (arith, c.requires.0, length_marks c.args.marks.now), λ q l h. absurd (let z : ⊥ = omega arith in z))

pub returns : goal.returns
returns c =
    let kept = c.loop-at.invariant in
    first_nowhere kept.0 kept.2 (omega (arith, c.loop-at-test.false, kept.1, length_marks c.args.marks.now))
