-- `rule_returns::settle` meets its contract. The loop's invariant: what the table says holds. The measure: each round sets a mark. Assumes nothing.
use mathlib.Core.List.{List}
use Prim.Native.Nat.{ℕ}
use Rattle.walk_marks.specs.Marks.{marks_of}
use Rattle.rule_runs.specs.Summaries.{Ever, Within}
use Rattle.rule_places.specs.Coded.{coded}
use Rattle.rule_returns.specs.Table.{Table}
use Rattle.rule_returns.proofs.Rounds.{unlearnt}
use Rattle.rule_returns.proofs.settle.Given as goal

abbrev pub invariant-loop : goal.invariant-loop
invariant-loop l = (entries : List ℕ)
    → Within (Table (marks_of l.known)) (Ever (coded l.program entries))

abbrev pub decreases-loop : goal.decreases-loop
decreases-loop l = unlearnt l.known
