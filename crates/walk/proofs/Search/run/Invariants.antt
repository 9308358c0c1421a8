-- `walk::Search::run` meets its contract. Its loop takes up a place that waits, and looks for the next one; the invariant is `Searched`.
-- Assumes nothing.
use Prim.Native.Nat.{◌-◌}
use Rattle.walk_marks.specs.Marks.{marks_of}
use Rattle.walk_steps.specs.Steps.{steps_of}
use Rattle.walk.specs.Search.{Next}
use Rattle.walk.proofs.Searched.{Searched}
use Rattle.walk.proofs.Search.run.Given as goal

abbrev pub invariant-loop-at : goal.invariant-loop-at
invariant-loop-at l =
    Next (marks_of l.self.waiting) l.at
    × Searched (steps_of l.section) l.entry (marks_of l.self.reached) (marks_of l.self.waiting) l.words

abbrev pub decreases-loop-at : goal.decreases-loop-at
decreases-loop-at l = 4096 - l.words
