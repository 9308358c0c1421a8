-- `insn_row::has` meets its contract. The loop's invariant: the row has the numbers passed. Assumes nothing.
use mathlib.Core.Bool.{true}
use lib.ListN.{take}
use Rattle.insn_row.specs.Row.{Told}
use Rattle.insn_row.proofs.has.Given as goal

abbrev pub invariant-loop-n : goal.invariant-loop-n
invariant-loop-n g l = Told l.row l.at (take l.n l.numbers) true
