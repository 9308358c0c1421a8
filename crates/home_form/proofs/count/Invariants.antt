-- `home_form::count` meets its contract.
-- The loop's invariant: the changes before `place` are counted. Assumes nothing.
use mathlib.Core.Path.{◌≡◌}
use lib.ListN.{length}
use Rattle.home_form.specs.Home.{gathered}
use Rattle.home_form.specs.Changes.{changes_at, unindexed_among}
use Rattle.home_form.proofs.count.Given as goal

abbrev pub invariant-loop-place : goal.invariant-loop-place
invariant-loop-place l = (l.changes ≡ length (gathered (changes_at l.section) l.place))
    × (l.unindexed ≡ unindexed_among (gathered (changes_at l.section) l.place))
