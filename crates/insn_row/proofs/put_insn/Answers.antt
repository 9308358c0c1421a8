-- `insn_row::put_insn` meets its contract. Assumes nothing.
use Rattle.text.proofs.Writing.{◌then◌}
use Rattle.insn_row.proofs.put_insn.Goals as goal

pub returns : goal.returns
returns c = rw c.first.ensures at c.put-at.ensures then c.put_places.ensures
