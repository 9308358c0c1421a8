-- `walk::put_out` meets its contract. Assumes nothing.
use mathlib.Core.Path.{ap}
use mathlib.Core.Bool.{Bool}
use native.Mathlib.Omega.{arith}
use lib.ListN.{length, length-append}
use Rattle.text.proofs.Writing.{◌then◌}
use Rattle.walk.specs.Report.{three_of, ways_out}
use Rattle.walk.proofs.put_out.Goals as goal

pub put_three-at-requires : goal.put_three-at-requires
unfolding ways_out
put_three-at-requires c = let pre = c.requires in (omega (arith, simp length-append at pre.0), pre.1)

pub put_three-at-requires-2 : goal.put_three-at-requires-2
unfolding ways_out
put_three-at-requires-2 c =
    let pre = c.requires in
    (rw c.runs_off-off.ensures (omega (arith, simp length-append at pre.0)), pre.1)

pub put_three-requires : goal.put_three-requires
unfolding ways_out
put_three-requires c =
    let same = ap (λ (b : Bool). length (three_of b c.args.place 4 0)) c.runs_off-off.ensures in
    (rw (c.is_some.ensures, c.stop_number.ensures) (omega (arith, same, simp length-append at c.requires.0)), c.requires.1)

pub returns : goal.returns
returns c = unfold ways_out in
    c.put_three-at.ensures
    then rw c.runs_off-off.ensures at c.put_three-at-2.ensures
    then rw (c.is_some.ensures, c.stop_number.ensures) at c.put_three.ensures
