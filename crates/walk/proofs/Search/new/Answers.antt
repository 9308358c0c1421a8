-- `walk::Search::new` meets its contract. Assumes nothing.
use Rattle.walk_marks.proofs.Marks.{no_marks}
use Rattle.walk.proofs.Search.new.Goals as goal

pub returns : goal.returns
returns c = (no_marks 128, no_marks 128)
