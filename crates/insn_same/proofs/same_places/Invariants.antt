-- `same::same_places` meets its contract. The loop's invariant: the places passed are the same, so the rest decides. Assumes nothing.
use mathlib.Core.Path.{◌≡◌}
use lib.ListN.{drop}
use Rattle.insn_same.specs.Same.{same_places}
use Rattle.insn_same.proofs.same_places.Given as goal

abbrev pub invariant-loop-n : goal.invariant-loop-n
invariant-loop-n l = (same_places l.a l.b ≡ same_places (drop l.n l.a) (drop l.n l.b))
