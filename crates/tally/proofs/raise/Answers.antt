-- `tally::raise` meets its contract. Assumes nothing.
use Rattle.std.proofs.Common.{arith}
use Rattle.tally.proofs.Places.{raises}
use Rattle.tally.proofs.raise.Goals as goal

pub returns : goal.returns
returns c =
    raises c.args.place c.requires.1 c.args.counts.now c.requires.0
    (λ i. omega (arith, c.slice_known-1.given i))
