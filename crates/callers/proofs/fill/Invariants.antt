-- `callers::fill` meets its contract.
-- The loop's invariant: the calls before the reader's place are written. Assumes nothing.
use mathlib.Core.Path.{◌≡◌}
use mathlib.Core.List.{[]}
use lib.ListN.{length}
use Rattle.text.specs.Text.{written}
use Rattle.section.proofs.Fold.{upto}
use Rattle.callers_index.specs.Entries.{numbers_of}
use Rattle.callers.specs.Calls.{add_here}
use Rattle.callers.proofs.fill.Given as goal

abbrev pub invariant-loop-here : goal.invariant-loop-here
invariant-loop-here l =
    (l.here-iterator.bytes.now ≡ l.section)
    × (length l.index ≡ length l.initial.index)
    × (l.n ≡ length (upto add_here [] l.section l.here-iterator.place))
    × (l.index ≡ written l.initial.index 0 (numbers_of (upto add_here [] l.section l.here-iterator.place)))
