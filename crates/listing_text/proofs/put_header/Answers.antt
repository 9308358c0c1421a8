-- `listing_text::put_header` meets its contract. Assumes nothing.
use native.Mathlib.Omega.{arith}
use lib.ListN.{length-append}
use Rattle.text.proofs.Writing.{◌then◌}
use Rattle.listing_text.specs.Listing.{header_of}
use Rattle.listing_text.proofs.put_header.Goals as goal

pub put-at-requires : goal.put-at-requires
unfolding header_of
put-at-requires c = omega (arith, simp length-append at c.requires)

pub put_decimal-at-requires : goal.put_decimal-at-requires
unfolding header_of
put_decimal-at-requires c = omega (arith, simp length-append at c.requires)

pub put_one-at-requires : goal.put_one-at-requires
unfolding header_of
put_one-at-requires c = omega (arith, simp length-append at c.requires)

pub put_hex-at-requires-clause-room : goal.put_hex-at-requires-clause-room
unfolding header_of
put_hex-at-requires-clause-room c = omega (arith, simp length-append at c.requires)

pub put_one-at-requires-2 : goal.put_one-at-requires-2
unfolding header_of
put_one-at-requires-2 c = omega (arith, simp length-append at c.requires)

pub put_decimal-at-requires-2 : goal.put_decimal-at-requires-2
unfolding header_of
put_decimal-at-requires-2 c = omega (arith, simp length-append at c.requires)

pub put_one-requires : goal.put_one-requires
unfolding header_of
put_one-requires c = omega (arith, simp length-append at c.requires)

pub returns : goal.returns
returns c = unfold header_of in
    c.put-at.ensures
    then c.put_decimal-at.ensures
    then c.put_one-at.ensures
    then c.put_hex-at.ensures
    then c.put_one-at-2.ensures
    then c.put_decimal-at-2.ensures
    then c.put_one.ensures
