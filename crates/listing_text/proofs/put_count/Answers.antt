-- `listing_text::put_count` meets its contract. Assumes nothing.
use Rattle.text.proofs.Writing.{◌then◌}
use Rattle.listing_text.proofs.put_count.Goals as goal

pub returns : goal.returns
returns c =
    c.put_decimal-at.ensures then c.put.ensures
