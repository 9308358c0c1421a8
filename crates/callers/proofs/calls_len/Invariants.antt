-- `callers::calls_len` meets its contract.
-- The loop's invariant: the calls before the reader's place are counted. Assumes nothing.
use mathlib.Core.Path.{◌≡◌}
use mathlib.Core.List.{[]}
use Prim.Native.Nat.{◌≤◌}
use lib.ListN.{length}
use Rattle.section.proofs.Fold.{upto}
use Rattle.callers.specs.Calls.{add_here}
use Rattle.callers.proofs.calls_len.Given as goal

abbrev pub invariant-loop-here : goal.invariant-loop-here
invariant-loop-here l =
    (l.here-iterator.bytes.now ≡ l.section)
    × (l.n ≡ length (upto add_here [] l.section l.here-iterator.place))
    × (l.n ≤ l.here-iterator.place)
