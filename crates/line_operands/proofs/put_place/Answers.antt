-- `line_operands::put_place` meets its contract. Assumes nothing.
use native.Mathlib.Omega.{arith}
use Rattle.text.proofs.Writing.{none, ◌then◌}
use Rattle.line_spelling.specs.Line.{place_text}
use Rattle.line_operands.proofs.Used.{used}
use Rattle.line_operands.proofs.put_place.Goals as goal

pub put_one-at-requires : goal.put_one-at-requires
put_one-at-requires c = omega (arith, rw (used c.args.operand c.in_default.not-Empty) at c.requires)

pub put_operand-requires : goal.put_operand-requires
put_operand-requires c = omega (arith, rw (used c.args.operand c.in_default.not-Empty) at c.requires)

pub returns-in-Empty : goal.returns-in-Empty
returns-in-Empty c = unfold place_text in rw c.in-Empty.is (none _ _)

pub returns-in_default : goal.returns-in_default
returns-in_default c = rw (used c.args.operand c.in_default.not-Empty) (c.put_one-at.ensures then c.put_operand.ensures)
