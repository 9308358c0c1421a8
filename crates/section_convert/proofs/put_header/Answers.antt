-- `section_convert::put_header` meets its contract. Assumes nothing.
use Rattle.text.proofs.Writing.{◌then◌}
use Rattle.section_convert.proofs.put_header.Goals as goal

pub returns : goal.returns
returns c = c.put-at.ensures then c.put-at-2.ensures then c.put.ensures
