-- `callers_index::put_caller` meets its contract. Assumes nothing.
use borrow.Author.Tests.{ne_eqb}
use Rattle.text.proofs.Writing.{none}
use Rattle.callers_index.proofs.put_caller.Goals as goal

pub returns-else-e-target : goal.returns-else-e-target
returns-else-e-target c = simp (ne_eqb _ _ c.if-e-target.false) (none _ _)
