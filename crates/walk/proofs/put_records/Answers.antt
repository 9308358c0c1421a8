-- `walk::put_records` meets its contract. Assumes nothing.
use native.Mathlib.Omega.{arith}
use lib.ListN.{length-append}
use Rattle.text.proofs.Writing.{◌then◌}
use Rattle.walk.specs.Report.{records_from}
use Rattle.walk.proofs.put_records.Goals as goal

pub put_in-at-requires : goal.put_in-at-requires
unfolding records_from
put_in-at-requires c = let pre = c.requires in (omega (arith, simp length-append at pre.0), pre.1)

pub put_out-requires : goal.put_out-requires
unfolding records_from
put_out-requires c =
    let pre = c.requires in
    (omega (arith, simp length-append at pre.0), pre.1, pre.2)

pub returns : goal.returns
returns c = unfold records_from in c.put_in-at.ensures then c.put_out.ensures
