-- `listing_text::put_last_count` meets its contract. Assumes nothing.
use borrow.Author.Tests.{eq-eqb, ne_eqb}
use Rattle.text.proofs.Writing.{none, ◌then◌}
use Rattle.listing_text.proofs.put_last_count.Goals as goal

pub returns-then-version-eq2 : goal.returns-then-version-eq2
returns-then-version-eq2 c =
    simp (eq-eqb _ _ c.if-version-eq2.true) (c.put_one-at.ensures then c.put_count.ensures)

pub returns-else-version-eq2 : goal.returns-else-version-eq2
returns-else-version-eq2 c = simp (ne_eqb _ _ c.if-version-eq2.false) (none _ _)
