-- `rule_search::layer` meets its contract. The loop's invariant: the nodes of the layer before `x` are taken up. Assumes nothing.
use mathlib.Core.Path.{◌≡◌, ◌∙◌}
use mathlib.Core.List.{[]}
use Prim.Native.Nat.{◌+◌, ◌<◌}
use native.Mathlib.Omega.{arith}
use lib.ListN.{length}
use Rattle.rule_search.specs.Search.{far, reached_in}
use Rattle.rule_search.proofs.Entering.{relent}
use Rattle.rule_search.proofs.Layers.{one_taken, level_end, none_taken, more_taken}
use Rattle.rule_search.proofs.Spreading.{count_below}
use Rattle.rule_search.proofs.Reached.layer.Goals as goal

pub spread_at-new-requires : goal.spread_at-new-requires
spread_at-new-requires c =
    let pre = c.requires in
    let now = c.loop-x in (
      (relent pre.0.0 now.invariant.0.2 now.invariant.0.3, pre.0.1),
      omega (arith, c.loop-x-test.true, now.invariant.0.2),
      omega (arith, pre.1, count_below c.args.self.now.dist.now, pre.0.0.dist_room, pre.0.0.few),
    )

pub loop-x-preserved : goal.loop-x-preserved
loop-x-preserved c =
    let now = c.loop-x in
    let pre = c.requires in
    let a = c.args in
    let at = c.spread_at-new in
    let was = now.invariant.0 in
    let same = at.ensures.same in
    let small : a.d + 1 < far = omega (arith, pre.1, count_below a.self.now.dist.now, pre.0.0.dist_room, pre.0.0.few) in (
      (same.0 ∙ was.0, same.1 ∙ was.1, same.2 ∙ was.2, same.3 ∙ was.3),
      more_taken (reached_in a.self.now.dist.now) now.new now.invariant.1 (at.ensures.noted []),
      λ entries l.
          let (level, all) = now.invariant.2 entries l in
          (one_taken small (at.ensures.noted entries) level, λ e. none_taken all (at.ensures.noted entries) e),
    )

pub returns-clause-noted : goal.returns-clause-noted
returns-clause-noted c =
    let now = c.loop-x in
    let pre = c.requires in
    let a = c.args in
    let all : now.x ≡ length now.self.dist.now = omega (arith, c.loop-x-test.false, now.auto.x-end, now.invariant.0.2) in
    let small : a.d < far = omega (arith, pre.1, count_below a.self.now.dist.now, pre.0.0.dist_room, pre.0.0.few) in
    λ entries. record {
      next = λ l. level_end (reached_in a.self.now.dist.now) small pre.1 now.invariant.1 (now.invariant.2 entries l).1 (rw all at (now.invariant.2 entries l).0);
      more = now.invariant.1;
      none = λ e l. (now.invariant.2 entries l).1 e;
    }
