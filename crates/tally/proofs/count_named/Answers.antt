-- `tally::count_named` meets its contract. Assumes nothing.
use Rattle.std.proofs.Common.{◌+◌}
use Rattle.insn.specs.Numbers.{flow_number}
use Rattle.tally.specs.Steps.{at}
use Rattle.tally.proofs.Adding.{plus_plus}
use Rattle.tally.proofs.count_named.Goals as goal

pub returns : goal.returns
returns c =
    rw (c.raise-2.ensures, c.raise.ensures, c.number.ensures)
    (plus_plus (at (5 + flow_number c.args.insn.flow)) (at (13 + c.args.insn.name)) c.args.counts.now)
