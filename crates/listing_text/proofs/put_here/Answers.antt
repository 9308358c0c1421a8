-- `listing_text::put_here` meets its contract. Assumes nothing.
use Rattle.text.proofs.Writing.{none}
use Rattle.listing_text.proofs.put_here.Goals as goal

pub returns-in-End-clause-put : goal.returns-in-End-clause-put
returns-in-End-clause-put c = rw c.in-End.is (none _ _)
