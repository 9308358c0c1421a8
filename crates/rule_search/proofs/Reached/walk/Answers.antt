-- `rule_search::Reached::walk` meets its contract. The loop's invariant: layer `d` is to be taken up, and where nothing was new, it has no node.
-- The measure: each layer has a node, or is the last. Assumes nothing.
use mathlib.Core.Path.{◌≡◌, refl}
use mathlib.Core.List.{[]}
use native.Mathlib.Omega.{arith}
use Rattle.std.specs.Int.{from_bool}
use Rattle.rule_search.proofs.Entering.{relent}
use Rattle.rule_search.proofs.Layers.{layer_first, measured, fewer}
use Rattle.rule_search.proofs.Spreading.{count_below}
use Rattle.rule_search.proofs.Reached.walk.Goals as goal

pub loop-more-init : goal.loop-more-init
loop-more-init c =
    let none = c.requires.none in
    let same = c.begin-more.ensures.same in
    let first = c.begin-more.ensures.noted in (
      same,
      relent c.requires.lent.0 same.2 same.3,
      layer_first none first,
      λ e. let one : from_bool c.begin-more.result ≡ 1 = rw e refl in omega (arith, first.more, one),
      λ e y h. absurd (none y (first.none e y h)),
    )

pub overflow_add-d : goal.overflow_add-d
overflow_add-d c =
    let now = c.loop-more in
    omega (arith, now.invariant.3 c.loop-more-test.true, count_below now.self.dist.now, now.invariant.1.dist_room, now.invariant.1.few)

pub loop-more-smaller : goal.loop-more-smaller
loop-more-smaller c =
    let passed = c.layer-more in
    fewer passed.ensures.same.2 c.loop-more-test.true (passed.ensures.noted [])

pub returns-clause-measured : goal.returns-clause-measured
returns-clause-measured c = measured (c.loop-more.invariant.4 c.loop-more-test.false) c.loop-more.invariant.2
