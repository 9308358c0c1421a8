-- `operands::put_operand` meets its contract, case by case. Assumes nothing.
use borrow.Author.Rules.{rules}
use mir.Syntax.{w64}
use mir.ValLaws.{to_z-of_z}
use Rattle.text.proofs.Writing.{none, ◌then◌}
use Rattle.line_spelling.specs.Line.{operand_text}
use Rattle.line_operands.proofs.put_operand.Goals as goal

pub returns-in-Empty : goal.returns-in-Empty
returns-in-Empty c = unfold operand_text in rw c.in-Empty.is (none _ _)

pub returns-in-Shifted : goal.returns-in-Shifted
returns-in-Shifted c = unfold operand_text in
    rw c.in-Shifted.is
    (c.put_register-at.ensures
    then c.put_one-at.ensures
    then c.put_shift-at.ensures
    then c.put_one-at-in-Shifted.ensures
    then c.put_decimal.ensures)

pub returns-in-ShiftBy : goal.returns-in-ShiftBy
returns-in-ShiftBy c = unfold operand_text in
    rw c.in-ShiftBy.is
    (c.put_shift-at-in-ShiftBy.ensures then c.put_one-at-in-ShiftBy.ensures then c.put_register-in-ShiftBy.ensures)

pub returns-in-SaturateShift : goal.returns-in-SaturateShift
returns-in-SaturateShift c = unfold operand_text in
    rw c.in-SaturateShift.is
    (c.put_shift-at-in-SaturateShift.ensures then c.put_one-at-in-SaturateShift.ensures then c.put_decimal-in-SaturateShift.ensures)

pub returns-in-Rotate : goal.returns-in-Rotate
returns-in-Rotate c = unfold operand_text in
    rw c.in-Rotate.is
    (c.put-at.ensures then c.put_decimal-in-Rotate.ensures)

pub returns-in-Count : goal.returns-in-Count
returns-in-Count c = unfold operand_text in
    rw c.in-Count.is
    (c.put_one-at-in-Count.ensures
    then rw (to_z-of_z w64 c.in-Count.v (search rules)) at c.put_signed.ensures)

pub returns-in-Number : goal.returns-in-Number
returns-in-Number c = unfold operand_text in
    rw c.in-Number.is
    (c.put_one-at-in-Number.ensures then c.put_decimal-in-Number.ensures)

pub returns-in-WriteBack : goal.returns-in-WriteBack
returns-in-WriteBack c = unfold operand_text in
    rw c.in-WriteBack.is
    (c.put_register-at-in-WriteBack.ensures then c.put_one.ensures)

pub returns-in-List : goal.returns-in-List
returns-in-List c = unfold operand_text in
    rw c.in-List.is
    (c.put_one-at-in-List.ensures then c.put_hex-at.ensures then c.put_one-in-List.ensures)

pub returns-in-Address : goal.returns-in-Address
returns-in-Address c = unfold operand_text in
    rw c.in-Address.is
    (c.put_one-at-in-Address.ensures then c.put_hex.ensures)
