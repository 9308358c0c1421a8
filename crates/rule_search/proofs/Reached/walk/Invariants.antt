-- `rule_search::Reached::walk` meets its contract. The loop's invariant: layer `d` is to be taken up, and where nothing was new, it has no node.
-- The measure: each layer has a node, or is the last. Assumes nothing.
use mathlib.Core.Path.{◌≡◌}
use mathlib.Core.Bool.{true, false}
use Prim.Native.Nat.{ℕ, ◌+◌, ◌*◌, ◌-◌, ◌<◌}
use lib.ListN.{length}
use Rattle.std.specs.Int.{from_bool}
use Rattle.walk_marks.specs.Marks.{marks_of}
use Rattle.rule_places.specs.Coded.{coded}
use Rattle.rule_returns.specs.Table.{Table}
use Rattle.rule_search.specs.Search.{StepTo, StartAt, far, dst, reached_in, Layer, Lent, SameLists}
use Rattle.rule_search.proofs.Reached.walk.Given as goal

abbrev pub invariant-loop-more : goal.invariant-loop-more
invariant-loop-more l = SameLists l.fn.self l.self × Lent l.program.flags.now l.self.dist.now l.self.from.now
    × Layer (StartAt (coded l.program l.program.entries.now)) (StepTo (coded l.program l.program.entries.now) (Table (marks_of l.known))) l.d l.self.dist.now l.self.from.now
    × (l.more ≡ true → l.d < reached_in l.self.dist.now) × (l.more ≡ false → (y : ℕ) → dst l.self.dist.now y < far → dst l.self.dist.now y < l.d)

abbrev pub decreases-loop-more : goal.decreases-loop-more
decreases-loop-more l = 2 * (length l.self.dist.now - reached_in l.self.dist.now) + from_bool l.more
