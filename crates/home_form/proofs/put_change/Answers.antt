-- `home_form::put_change` meets its contract. Assumes nothing.
use borrow.Author.Tests.{eq-eqb}
use Rattle.text.proofs.Writing.{none}
use Rattle.home_form.proofs.put_change.Goals as goal

pub returns-then-change : goal.returns-then-change
returns-then-change c = simp (eq-eqb _ _ c.if-change.true) (none _ _)
