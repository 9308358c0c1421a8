-- `walk::Search::next` meets its contract. Assumes nothing.
use native.Mathlib.Omega.{arith}
use Rattle.walk_marks.proofs.Marks.{length_marks}
use Rattle.walk.proofs.Following.{next_here}
use Rattle.walk.proofs.Search.next.Goals as goal

pub returns-then-at-lt4096 : goal.returns-then-at-lt4096
returns-then-at-lt4096 c =
    next_here c.first-at.ensures (omega (arith, c.if-at-lt4096.true, length_marks c.args.self.now.waiting))
