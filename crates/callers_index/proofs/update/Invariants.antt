-- `callers_index::update` meets its contract.
-- The loop's invariant: the update is made of the entries passed (`Half`). Assumes nothing.
use mathlib.Core.Path.{◌≡◌}
use Prim.Native.Nat.{◌*◌, ◌≤◌}
use lib.ListN.{length, drop}
use Rattle.callers_index.specs.Entries.{entries_of}
use Rattle.callers_index.proofs.Updating.{Half}
use Rattle.callers_index.proofs.update.Given as goal

abbrev pub invariant-loop-i : goal.invariant-loop-i
invariant-loop-i l = (length l.index ≡ length l.initial.index) × (l.moving.at ≤ 2 * l.i)
    × Half l.initial.index l.caller l.initial.moving.ahead (entries_of l.initial.index l.count) l.moving.ahead (drop l.i (entries_of l.initial.index l.count)) l.moving.at l.index
