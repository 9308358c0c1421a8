-- `walk_marks::unset` meets its contract. Assumes nothing.
use Rattle.walk_marks.proofs.Marks.{marking}
use Rattle.walk_marks.proofs.unset.Goals as goal

pub returns : goal.returns
returns c = marking _ _ _ _ c.requires c.without_bit.ensures
