-- `walk::put_in` meets its contract. Assumes nothing.
use mathlib.Core.Path.{◌≡◌, refl}
use Rattle.walk_steps.specs.Leads.{target_addr}
use Rattle.walk_steps.specs.Steps.{leaves}
use native.Mathlib.Omega.{arith}
use lib.ListN.{length, length-append}
use Rattle.text.proofs.Writing.{◌then◌}
use Rattle.walk.specs.Report.{three_of, ways_in}
use Rattle.walk.proofs.put_in.Goals as goal

pub put_three-at-requires : goal.put_three-at-requires
unfolding ways_in
put_three-at-requires c = let pre = c.requires in (omega (arith, simp length-append at pre.0), pre.1)

pub put_three-at-requires-2 : goal.put_three-at-requires-2
unfolding ways_in
put_three-at-requires-2 c =
    let pre = c.requires in
    (rw (c.leaves-out_of.ensures, c.target_addr-to.ensures) (omega (arith, simp length-append at pre.0)), pre.1)

pub put_three-requires : goal.put_three-requires
unfolding ways_in
put_three-requires c =
    let same : length (three_of c.leaves-out_of.result c.args.place 1 c.target_addr-to.result)
    ≡ length (three_of (leaves c.args.opened c.args.leads) c.args.place 1 (target_addr c.args.leads.to)) =
    rw (c.leaves-out_of.ensures, c.target_addr-to.ensures) refl in
    (rw (c.enters_thumb.ensures, c.target_addr-to.ensures) (omega (arith, same, simp length-append at c.requires.0)), c.requires.1)

pub returns : goal.returns
returns c = unfold ways_in in
    c.put_three-at.ensures
    then rw (c.leaves-out_of.ensures, c.target_addr-to.ensures) at c.put_three-at-2.ensures
    then rw (c.enters_thumb.ensures, c.target_addr-to.ensures) at c.put_three.ensures
