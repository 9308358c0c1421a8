-- `tally::check` meets its contract. Assumes nothing.
use Rattle.std.proofs.Common.{refl, arith}
use Rattle.tally.proofs.Answers.{too_short, too_many, goes_in}
use Rattle.tally.proofs.check.Goals as goal

pub returns-then-counts-lt-COUNTS : goal.returns-then-counts-lt-COUNTS
returns-then-counts-lt-COUNTS c = too_short _ _ refl c.if-counts-lt-COUNTS.true

pub returns-then-counts-ge-MOST_SECTIONS : goal.returns-then-counts-ge-MOST_SECTIONS
returns-then-counts-ge-MOST_SECTIONS c = too_many _ _ refl c.if-counts-lt-COUNTS.false c.if-counts-ge-MOST_SECTIONS.true

pub returns : goal.returns
returns c = goes_in _ _ refl c.if-counts-lt-COUNTS.false (omega arith)
