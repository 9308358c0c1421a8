-- `row::has_places` meets its contract. The loop's invariant: the row has the places passed. Assumes nothing.
use mathlib.Core.Bool.{true}
use lib.ListN.{take}
use Rattle.insn_row.specs.Row.{places_row, Told}
use Rattle.insn_row.proofs.has_places.Given as goal

abbrev pub invariant-loop-n : goal.invariant-loop-n
invariant-loop-n l = Told l.row 5 (places_row (take l.n l.i.ops)) true
