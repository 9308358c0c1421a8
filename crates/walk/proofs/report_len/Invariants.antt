-- `walk::report_len` meets its contract. The loop's invariant: the numbers of the places before `place` are counted. Assumes nothing.
use mathlib.Core.Path.{◌≡◌}
use lib.ListN.{length}
use Rattle.walk_marks.specs.Marks.{marks_of}
use Rattle.walk.specs.Report.{records_before}
use Rattle.walk.proofs.report_len.Given as goal

abbrev pub invariant-loop-place : goal.invariant-loop-place
invariant-loop-place l = l.len ≡ length (records_before l.section (marks_of l.reached) l.place)
