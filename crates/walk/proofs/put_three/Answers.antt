-- `walk::put_three` meets its contract. Assumes nothing.
use Prim.Native.Nat.{◌+◌, ◌≤◌}
use lib.ListN.{length}
use Rattle.text.proofs.Writing.{none, three_put}
use Rattle.walk.proofs.Following.{unset, isset}
use Rattle.walk.proofs.put_three.Goals as goal

room : (c : goal.Else-not-there) → c.args.at + 3 ≤ length c.args.out.now
room c = rw (isset c.args.there c.if-not-there.false-raw) at c.requires.0

pub returns-then-not-there : goal.returns-then-not-there
returns-then-not-there c = simp (unset c.args.there c.if-not-there.true-raw) (none _ _)

pub returns : goal.returns
returns c = simp (isset c.args.there c.if-not-there.false-raw) (three_put _ _ _ _ _ (room c))
