-- `rule_returns::settle` meets its contract. The loop's invariant: what the table says holds. The measure: each round sets a mark. Assumes nothing.
use mathlib.Core.Path.{◌≡◌}
use mathlib.Core.List.{[]}
use lib.ListN.{length}
use Rattle.std.specs.Prelude.{replicate}
use Rattle.rule_returns.proofs.Filling.{filled}
use Rattle.rule_returns.proofs.Rounds.{none_said, all_closed, fewer}
use Rattle.rule_returns.proofs.settle.Goals as goal

pub loop-init : goal.loop-init
loop-init c =
    let zeros : c.fill.new.self ≡ replicate (length c.args.known.now) 0 = c.fill.ensures.after (λ y e. e) in
    λ entries. none_said _ _ (λ j. rw zeros (filled (length c.args.known.now) 0 j))

pub loop-smaller : goal.loop-smaller
loop-smaller c = fewer c.loop.known c.round.new.known c.round.auto.known c.loop-test.true (c.round.ensures [])

pub loop-preserved : goal.loop-preserved
loop-preserved c = λ entries. (c.round.ensures entries).sound (c.loop.invariant entries)

pub returns : goal.returns
returns c =
    let program = c.args.program in
    λ entries.
    let passed = c.round.ensures entries in record {
      sound = passed.sound (c.loop.invariant entries);
      closed = all_closed program.flags.now program.targets.now program.further.now entries passed c.loop-test.false;
    }
