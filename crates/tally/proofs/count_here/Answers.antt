-- `tally::count_here` meets its contract. Assumes nothing.
use Rattle.tally.specs.Steps.{at}
use Rattle.tally.proofs.Steps.{in_turn, data_adds}
use Rattle.tally.proofs.count_here.Goals as goal

pub returns-in-Data : goal.returns-in-Data
returns-in-Data c =
    rw (c.in-Data.is, c.raise-in-Data.ensures, c.raise.ensures) (in_turn (at 1) (at 2) data_adds _)
