-- `walk_marks::set` meets its contract. Assumes nothing.
use Rattle.walk_marks.proofs.Marks.{marking}
use Rattle.walk_marks.proofs.set.Goals as goal

pub returns : goal.returns
returns c = marking _ _ _ _ c.requires c.with_bit.ensures
