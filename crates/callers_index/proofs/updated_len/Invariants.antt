-- `callers_index::updated_len` meets its contract.
-- The loop's invariant: those of the entries passed that stay are counted. Assumes nothing.
use mathlib.Core.Path.{◌≡◌}
use Prim.Native.Nat.{◌+◌, ◌≤◌}
use lib.ListN.{length, drop}
use Rattle.callers_index.specs.Entries.{entries_of, remove_of}
use Rattle.callers_index.proofs.updated_len.Given as goal

abbrev pub invariant-loop-i : goal.invariant-loop-i
invariant-loop-i l = (l.n ≤ l.initial.n + l.i)
    × (l.n + length (remove_of l.caller (drop l.i (entries_of l.index l.count))) ≡ l.initial.n + length (remove_of l.caller (entries_of l.index l.count)))
