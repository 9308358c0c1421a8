-- `a32_digest::State::places` meets its contract. Assumes nothing.
use Rattle.std.proofs.Common.{arith}
use Rattle.insn.proofs.Places.{one_more}
use Rattle.a32_digest.specs.Numbers.{operand_numbers}
use Rattle.a32_digest.proofs.Joined.{joined}
use Rattle.a32_digest.proofs.State.places.Goals as goal

pub loop-place-preserved : goal.loop-place-preserved
loop-place-preserved c =
    let loop = c.loop-place in
    rw (one_more operand_numbers c.args.ops loop.place-index (omega arith), joined)
    (simp (c.operand-s.ensures, loop.invariant))
