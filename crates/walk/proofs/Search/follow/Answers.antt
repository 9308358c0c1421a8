-- `walk::Search::follow` meets its contract. Assumes nothing.
use mathlib.Core.Path.{sym, ◌∙◌}
use Prim.Native.Nat.{◌<◌}
use native.Mathlib.Omega.{arith}
use Rattle.walk_marks.proofs.Marks.{length_marks}
use Rattle.walk.proofs.Following.{marked}
use Rattle.walk.proofs.Search.follow.Goals as goal

pub returns : goal.returns
returns c =
    let q = c.in-Some.q in
    let reached = c.args.self.now.reached in
    let waiting = c.args.self.now.waiting in
    let few : q < 4096 = rw c.in-Some.is at c.requires in
    rw c.in-Some.is
    (marked _ _ q (omega (arith, few, length_marks reached)) (omega (arith, few, length_marks waiting)) (sym c.get.ensures ∙ c.if-get.false)
    c.set.ensures
    c.set-2.ensures)
