-- `section::do_rules_hold` meets its contract. The loop's invariant: the ranges from `i` on decide, after place `from`. Assumes nothing.
use mathlib.Core.Path.{◌≡◌}
use lib.ListN.{drop}
use Rattle.section.specs.Ranges.{in_order}
use Rattle.section.specs.Section.{ranges_of}
use Rattle.section.proofs.do_rules_hold.Given as goal

abbrev pub invariant-loop-i : goal.invariant-loop-i
invariant-loop-i l = in_order l.count 0 (ranges_of l.bytes l.ranges) ≡ in_order l.count l.from (drop l.i (ranges_of l.bytes l.ranges))
