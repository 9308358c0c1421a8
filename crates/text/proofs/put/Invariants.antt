-- `text::put` meets its contract. The loop's invariant: what was passed is written. Assumes nothing.
use Prim.Native.Nat.{◌+◌}
use lib.ListN.{take}
use Rattle.text.specs.Put.{Put}
use Rattle.text.proofs.put.Given as goal

abbrev pub invariant-loop-i : goal.invariant-loop-i
invariant-loop-i g l = Put l.initial.out l.at (take l.i l.text) (l.at + l.i) l.out
