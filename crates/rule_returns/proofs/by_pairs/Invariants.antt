-- `rule_returns::by_pairs` meets its contract. The loop's invariant: no pair before `i` leads there. Assumes nothing.
use mathlib.Core.Path.{◌≡◌}
use mathlib.Core.Bool.{true}
use Prim.Native.Nat.{ℕ, ◌+◌, ◌*◌, ◌<◌}
use lib.ListN.{get_or}
use Rattle.walk_marks.specs.Marks.{marks_of}
use Rattle.rule_returns.specs.Table.{leads_to}
use Rattle.rule_returns.proofs.by_pairs.Given as goal

abbrev pub invariant-loop-i : goal.invariant-loop-i
invariant-loop-i l = (j : ℕ) → j < l.i → get_or l.further (2 * j) 0 ≡ l.p → leads_to (marks_of l.known) l.calls (get_or l.further (2 * j + 1) 0) l.v l.p l.u ≡ true → ⊥
