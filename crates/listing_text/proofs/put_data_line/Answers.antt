-- `listing_text::put_data_line` meets its contract. Assumes nothing.
use native.Mathlib.Omega.{arith}
use lib.ListN.{length-append}
use Rattle.text.proofs.Writing.{◌then◌}
use Rattle.listing_text.specs.Listing.{data_line}
use Rattle.listing_text.proofs.put_data_line.Goals as goal

pub put_hex-at-requires-clause-room : goal.put_hex-at-requires-clause-room
unfolding data_line
put_hex-at-requires-clause-room c = omega (arith, simp length-append at c.requires)

pub put_one-at-requires : goal.put_one-at-requires
unfolding data_line
put_one-at-requires c = omega (arith, simp length-append at c.requires)

pub put_hex-at-requires-2-clause-room : goal.put_hex-at-requires-2-clause-room
unfolding data_line
put_hex-at-requires-2-clause-room c = omega (arith, simp length-append at c.requires)

pub put-requires : goal.put-requires
unfolding data_line
put-requires c = omega (arith, simp length-append at c.requires)

pub returns : goal.returns
returns c = unfold data_line in
    c.put_hex-at.ensures then c.put_one-at.ensures then c.put_hex-at-2.ensures then c.put.ensures
