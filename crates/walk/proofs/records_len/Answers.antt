-- `walk::records_len` meets its contract. Assumes nothing.
use mathlib.Core.Path.{ap}
use Rattle.walk.specs.Report.{three}
use native.Mathlib.Omega.{arith}
use Rattle.walk.proofs.Records.{length_records}
use Rattle.walk.proofs.records_len.Goals as goal

pub returns : goal.returns
returns c =
    omega (
      arith,
      length_records c.args.opened c.args.place c.args.leads,
      ap three c.leaves.ensures,
      ap three c.runs_off.ensures,
      ap three c.enters_thumb.ensures,
      ap three c.is_some.ensures,
    )
