-- `rule_search::layer` meets its contract. The loop's invariant: the nodes of the layer before `x` are taken up. Assumes nothing.
use mathlib.Core.Path.{◌≡◌}
use mathlib.Core.Bool.{false}
use mathlib.Core.List.{List}
use Prim.Native.Nat.{ℕ, ◌+◌, ◌≤◌, ◌<◌}
use Rattle.std.specs.Int.{from_bool}
use Rattle.walk_marks.specs.Marks.{marks_of}
use Rattle.rule_places.specs.Coded.{coded}
use Rattle.rule_returns.specs.Table.{Table}
use Rattle.rule_search.specs.Search.{StepTo, StartAt, far, dst, reached_in, Layer, Level, SameLists}
use Rattle.rule_search.proofs.Reached.layer.Given as goal

abbrev pub invariant-loop-x : goal.invariant-loop-x
invariant-loop-x l = SameLists l.initial.self l.self
    × (reached_in l.initial.self.dist.now + from_bool l.new ≤ reached_in l.self.dist.now)
    × ((entries : List ℕ)
    → Layer (StartAt (coded l.program entries)) (StepTo (coded l.program entries) (Table (marks_of l.known))) l.d l.initial.self.dist.now l.initial.self.from.now
    → Level (StartAt (coded l.program entries)) (StepTo (coded l.program entries) (Table (marks_of l.known))) l.d l.x l.self.dist.now l.self.from.now
    × (l.new ≡ false → (y : ℕ) → dst l.self.dist.now y < far → dst l.self.dist.now y ≤ l.d))
