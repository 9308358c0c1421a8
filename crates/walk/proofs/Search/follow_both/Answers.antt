-- `walk::Search::follow_both` meets its contract. Assumes nothing.
use Rattle.walk.proofs.Following.{both_followed}
use Rattle.walk.proofs.Search.follow_both.Goals as goal

pub returns : goal.returns
returns c =
    both_followed (rw c.next_place.ensures at c.follow.ensures) (rw c.target_place.ensures at c.follow-2.ensures)
