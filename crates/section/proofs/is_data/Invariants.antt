-- `section::is_data` meets its contract. The loop's invariant: no range before `i` has the place. Assumes nothing.
use mathlib.Core.Path.{◌≡◌}
use lib.ListN.{drop}
use Rattle.section.specs.Ranges.{is_data}
use Rattle.section.specs.Section.{ranges_of}
use Rattle.section.proofs.is_data.Given as goal

abbrev pub invariant-loop-i : goal.invariant-loop-i
invariant-loop-i l = is_data (ranges_of l.bytes l.i-end) l.place ≡ is_data (drop l.i (ranges_of l.bytes l.i-end)) l.place
