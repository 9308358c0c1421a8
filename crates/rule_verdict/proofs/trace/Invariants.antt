-- `rule_verdict::trace` meets its contract. The loop's invariant: the places from `i` on are written, and `y` is the node before them.
-- Assumes nothing.
use mathlib.Core.Path.{◌≡◌}
use Prim.Native.Nat.{ℕ, ◌+◌, ◌/◌, ◌-◌, ◌≤◌, ◌<◌}
use lib.ListN.{get_or}
use Rattle.rule_verdict.specs.Parts.{back}
use Rattle.rule_verdict.proofs.trace.Given as goal

abbrev pub invariant-loop-i : goal.invariant-loop-i
invariant-loop-i l = (l.y ≡ back l.from l.x (l.d + 1 - l.i)) × ((j : ℕ) → l.i ≤ j → j ≤ l.d → get_or l.way j 0 ≡ back l.from l.x (l.d - j) / 2)
    × ((j : ℕ) → l.d < j → get_or l.way j 0 ≡ get_or l.initial.way j 0)
