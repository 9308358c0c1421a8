-- `rule_returns::round` meets its contract. The loop's invariant: the marks from `i` on are worked on. Assumes nothing.
use mathlib.Core.List.{List}
use Prim.Native.Nat.{ℕ, ◌*◌, ◌≤◌, ◌<◌}
use lib.ListN.{length}
use Rattle.walk_marks.specs.Marks.{marks_of}
use Rattle.rule_places.specs.Coded.{coded}
use Rattle.rule_returns.specs.Table.{Better}
use Rattle.rule_returns.proofs.round.Given as goal

abbrev pub invariant-loop-i : goal.invariant-loop-i
invariant-loop-i l = (entries : List ℕ)
    → Better (coded l.program entries) (λ j. (l.i ≤ j) × (j < 4 * length l.program.flags.now)) (marks_of l.initial.known) (marks_of l.known) l.new
