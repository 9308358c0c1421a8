-- `line::put_answered` meets its contract. Assumes nothing.
use native.Mathlib.Omega.{arith}
use lib.ListN.{length-append}
use Rattle.text.proofs.Writing.{◌then◌}
use Rattle.line_spelling.specs.Line.{line_text}
use Rattle.line.proofs.put_answered.Goals as goal

pub put_address-at-requires : goal.put_address-at-requires
put_address-at-requires c = unfold line_text in omega (arith, simp length-append at c.requires)

pub put_one-at-requires : goal.put_one-at-requires
put_one-at-requires c = unfold line_text in omega (arith, simp length-append at c.requires)

pub put_hex-at-requires-clause-room : goal.put_hex-at-requires-clause-room
unfolding line_text
put_hex-at-requires-clause-room c = omega (arith, simp length-append at c.requires)

pub put_one-at-requires-2 : goal.put_one-at-requires-2
unfolding line_text
put_one-at-requires-2 c =
    omega (
      arith,
      simp length-append at c.requires,
    )

pub put_answer-at-requires : goal.put_answer-at-requires
unfolding line_text
put_answer-at-requires c =
    omega (
      arith,
      simp length-append at c.requires,
    )

pub put_one-requires : goal.put_one-requires
unfolding line_text
put_one-requires c =
    omega (
      arith,
      simp length-append at c.requires,
    )

pub returns : goal.returns
returns c = unfold line_text in
    c.put_address-at.ensures
    then c.put_one-at.ensures
    then c.put_hex-at.ensures
    then c.put_one-at-2.ensures
    then c.put_answer-at.ensures
    then c.put_one.ensures
