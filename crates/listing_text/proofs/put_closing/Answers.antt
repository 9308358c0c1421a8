-- `listing_text::put_closing` meets its contract. Assumes nothing.
use native.Mathlib.Omega.{arith}
use lib.ListN.{length-append}
use Rattle.text.proofs.Writing.{◌then◌}
use Rattle.listing_text.specs.Listing.{closing_of}
use Rattle.listing_text.proofs.put_closing.Goals as goal

pub put_count-at-requires : goal.put_count-at-requires
unfolding closing_of
put_count-at-requires c = simp length-append (omega (arith, simp length-append at c.requires.room))

pub put_count-at-requires-2 : goal.put_count-at-requires-2
unfolding closing_of
put_count-at-requires-2 c =
    simp length-append
    (omega (
      arith,
      simp length-append at c.put_count-at.ensures.ends,
      c.put_count-at.auto.out,
      simp length-append at c.requires.room,
    ))

pub put_count-at-requires-3 : goal.put_count-at-requires-3
unfolding closing_of
put_count-at-requires-3 c =
    simp length-append
    (omega (
      arith,
      simp length-append at c.put_count-at-2.ensures.ends,
      c.put_count-at-2.auto.out,
      simp length-append at c.put_count-at.ensures.ends,
      c.put_count-at.auto.out,
      simp length-append at c.requires.room,
    ))

pub put_last_count-at-requires : goal.put_last_count-at-requires
unfolding closing_of
put_last_count-at-requires c =
    omega (
      arith,
      simp length-append at c.put_count-at-3.ensures.ends,
      c.put_count-at-3.auto.out,
      simp length-append at c.put_count-at-2.ensures.ends,
      c.put_count-at-2.auto.out,
      simp length-append at c.put_count-at.ensures.ends,
      c.put_count-at.auto.out,
      simp length-append at c.requires.room,
    )

pub put_one-requires : goal.put_one-requires
unfolding closing_of
put_one-requires c =
    omega (
      arith,
      c.put_last_count-at.ensures.ends,
      c.put_last_count-at.auto.out,
      simp length-append at c.put_count-at-3.ensures.ends,
      c.put_count-at-3.auto.out,
      simp length-append at c.put_count-at-2.ensures.ends,
      c.put_count-at-2.auto.out,
      simp length-append at c.put_count-at.ensures.ends,
      c.put_count-at.auto.out,
      simp length-append at c.requires.room,
    )

pub returns : goal.returns
returns c = unfold closing_of in
    c.put_count-at.ensures
    then c.put_count-at-2.ensures
    then c.put_count-at-3.ensures
    then c.put_last_count-at.ensures
    then c.put_one.ensures
