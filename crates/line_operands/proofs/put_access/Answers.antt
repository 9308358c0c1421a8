-- `operands::put_access` meets its contract. Assumes nothing.
use Rattle.text.proofs.Writing.{◌then◌}
use Rattle.line_operands.proofs.put_access.Goals as goal

pub returns : goal.returns
returns c =
    c.put_one-at.ensures
    then c.put_mode-at.ensures
    then c.put_one-at-2.ensures
    then c.put_decimal-at.ensures
    then c.put_one.ensures
