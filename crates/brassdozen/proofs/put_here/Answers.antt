-- `brassdozen::put_here` meets its contract. Assumes nothing.
use Rattle.brassdozen.proofs.Placed.{none_written}
use Rattle.brassdozen.proofs.put_here.Goals as goal

pub returns-in-End-clause-out_after : goal.returns-in-End-clause-out_after
returns-in-End-clause-out_after c = rw c.in-End.is (none_written _)
