-- `listing_text::put_refusal` meets its contract. Assumes nothing.
use Rattle.text.proofs.Writing.{◌then◌}
use Rattle.listing_text.proofs.put_refusal.Goals as goal

pub returns : goal.returns
returns c = rw c.number.ensures at c.put_refused-at.ensures then c.put_one.ensures
