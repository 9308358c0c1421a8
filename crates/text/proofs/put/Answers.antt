-- `text::put` meets its contract. The loop's invariant: what was passed is written. Assumes nothing.
use mathlib.Core.Path.{refl}
use native.Mathlib.Omega.{arith}
use Rattle.text.proofs.Writing.{nothing, more}
use Rattle.text.proofs.put.Goals as goal

pub loop-i-init : goal.loop-i-init
loop-i-init g c = record { ends = refl; holds = nothing _ _ }

pub loop-i-preserved : goal.loop-i-preserved
loop-i-preserved g c =
    let now = c.loop-i in
    let x = c.index-text-i in
    rw (← x.is) at (more x.result _ now.i now.invariant (omega arith) (omega (arith, now.auto.out)))
