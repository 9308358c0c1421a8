-- `walk::put_report` meets its contract. The loop's invariant: the records of the places before `place` are written. Assumes nothing.
use Rattle.text.specs.Put.{Put}
use Rattle.walk_marks.specs.Marks.{marks_of}
use Rattle.walk.specs.Report.{records_before}
use Rattle.walk.proofs.put_report.Given as goal

abbrev pub invariant-loop-place : goal.invariant-loop-place
invariant-loop-place l = Put l.initial.out 0 (records_before l.section (marks_of l.reached) l.place) l.at l.out
