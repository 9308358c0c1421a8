-- `rule_returns::round` meets its contract. The loop's invariant: the marks from `i` on are worked on. Assumes nothing.
use Prim.Native.Nat.{◌*◌}
use native.Mathlib.Omega.{arith}
use lib.ListN.{length}
use Rattle.rule_returns.proofs.Rounds.{better_for, one_further}
use Rattle.rule_returns.proofs.round.Goals as goal

pub loop-i-preserved : goal.loop-i-preserved
loop-i-preserved c =
    let now = c.loop-i in
    λ entries. one_further (4 * length c.args.program.flags.now) now.i _ (omega (arith, c.loop-i-test.true)) (now.invariant entries) (c.learn-new.ensures entries)

pub returns : goal.returns
returns c = λ entries. better_for (λ j h. (omega (arith, c.loop-i-test.false), h)) (c.loop-i.invariant entries)
