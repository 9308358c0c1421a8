-- `operands::put_index` meets its contract. Assumes nothing.
use native.Mathlib.Omega.{arith}
use lib.ListN.{length-append}
use Rattle.text.proofs.Writing.{◌then◌}
use Rattle.line_spelling.specs.Line.{index_text}
use Rattle.line_operands.proofs.put_index.Goals as goal

pub put_one-requires : goal.put_one-requires
put_one-requires c = unfold index_text in rw c.in-None.is at c.requires

pub put_register-at-requires : goal.put_register-at-requires
unfolding index_text
put_register-at-requires c =
    omega (arith, simp (c.in-Some.is, length-append) at c.requires)

pub put_one-at-requires : goal.put_one-at-requires
put_one-at-requires c = unfold index_text in
    omega (arith, simp (c.in-Some.is, length-append) at c.requires)

pub put_decimal-requires : goal.put_decimal-requires
put_decimal-requires c = unfold index_text in
    omega (arith, simp (c.in-Some.is, length-append) at c.requires)

pub returns-in-None : goal.returns-in-None
returns-in-None c = unfold index_text in rw c.in-None.is c.put_one.ensures

pub returns-in-Some : goal.returns-in-Some
returns-in-Some c = unfold index_text in
    rw c.in-Some.is
    (c.put_register-at.ensures then c.put_one-at.ensures then c.put_decimal.ensures)
