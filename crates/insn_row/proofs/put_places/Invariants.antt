-- `row::put_places` meets its contract. The loop's invariant: the places passed are written. Assumes nothing.
use mathlib.Core.Path.{◌≡◌}
use lib.ListN.{length, take}
use Rattle.text.specs.Put.{Put}
use Rattle.insn_row.specs.Row.{places_row}
use Rattle.insn_row.proofs.put_places.Given as goal

abbrev pub invariant-loop-n : goal.invariant-loop-n
invariant-loop-n l = (length l.out ≡ length l.initial.out) × Put l.initial.out l.at-2 (places_row (take l.n l.i.ops)) l.at l.out
