-- The loop's invariant: from `place` up to `at` no place is marked.
use Rattle.std.proofs.Common.{◌-◌, ◌≤◌, length}
use Rattle.walk_marks.specs.Looking.{NoneFrom}
use Rattle.walk_marks.specs.Marks.{marks_of}
use Rattle.walk_marks.proofs.first.Given as goal

abbrev pub invariant-loop-at : goal.invariant-loop-at
invariant-loop-at l = (l.place ≤ l.at) × (l.at ≤ length (marks_of l.marks)) × NoneFrom (marks_of l.marks) l.place l.at

abbrev pub decreases-loop-at : goal.decreases-loop-at
decreases-loop-at l = length (marks_of l.marks) - l.at
