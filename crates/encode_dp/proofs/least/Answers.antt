-- `dp_words::least` meets its contract. The invariant: what is left to try gives what all gives. Assumes nothing.
use Rattle.std.proofs.Common.{sym, ◌∙◌}
use Rattle.encode_dp.proofs.Turned.{found, missed}
use Rattle.encode_dp.proofs.least.Goals as goal

pub returns-then-byte-lt256 : goal.returns-then-byte-lt256
returns-then-byte-lt256 c =
    sym (found c.loop-r.r c.args.v c.turned_left-byte.result c.loop-r-test.true
    c.turned_left-byte.ensures c.if-byte-lt256.true)
    ∙ c.loop-r.invariant

pub loop-r-preserved : goal.loop-r-preserved
loop-r-preserved c =
    sym (missed c.loop-r.r c.args.v c.turned_left-byte.result c.loop-r-test.true
    c.turned_left-byte.ensures c.if-byte-lt256.false)
    ∙ c.loop-r.invariant
