-- `callers_index::put_callers` meets its contract.
-- The loop's invariant: the callers among the entries passed are written. Assumes nothing.
use mathlib.Core.Path.{◌≡◌}
use mathlib.Core.List.{List, ◌++◌}
use Prim.Native.Nat.{ℕ}
use lib.ListN.{length, drop}
use Rattle.text.specs.Put.{Put}
use Rattle.callers_index.specs.Entries.{entries_of, callers_of}
use Rattle.callers_index.proofs.put_callers.Given as goal

abbrev pub invariant-loop-i : goal.invariant-loop-i
invariant-loop-i l = (length l.out ≡ length l.initial.out)
    × ((done : List ℕ) × Put l.initial.out 0 done l.at l.out
    × (done ++ callers_of l.target (drop l.i (entries_of l.index l.count)) ≡ callers_of l.target (entries_of l.index l.count)))
