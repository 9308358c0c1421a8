-- `callers_index::put_last` meets its contract. Assumes nothing.
use Rattle.text.proofs.Writing.{none}
use Rattle.callers_index.proofs.put_last.Goals as goal

pub returns-in-Kept : goal.returns-in-Kept
returns-in-Kept c = rw c.in-Kept.is (none _ _)
