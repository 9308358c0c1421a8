-- `callers_index::callers_len` meets its contract.
-- The loop's invariant: the callers among the entries passed are counted. Assumes nothing.
use mathlib.Core.Path.{◌≡◌}
use Prim.Native.Nat.{◌+◌, ◌≤◌}
use lib.ListN.{length, drop}
use Rattle.callers_index.specs.Entries.{entries_of, callers_of}
use Rattle.callers_index.proofs.callers_len.Given as goal

abbrev pub invariant-loop-i : goal.invariant-loop-i
invariant-loop-i l = (l.n ≤ l.i) × (l.n + length (callers_of l.target (drop l.i (entries_of l.index l.count))) ≡ length (callers_of l.target (entries_of l.index l.count)))
