-- `tally::count_all` meets its contract. The loop's invariant: what the reader has given is counted, and the rest of the section is left to it.
-- Assumes nothing.
use Rattle.std.proofs.Common.{◌≡◌, ◌++◌}
use mathlib.Core.List.{foldl}
use Rattle.section.specs.Section.{places_of, left_of}
use Rattle.tally.proofs.Folded.{counting}
use Rattle.tally.proofs.count_all.Given as goal

abbrev pub invariant-loop-here : goal.invariant-loop-here
invariant-loop-here l =
    (l.counts ≡ foldl counting l.initial.counts l.yielded)
    × (l.yielded ++ left_of l.here-iterator.bytes.now l.here-iterator.place ≡ places_of l.section)
