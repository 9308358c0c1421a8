-- `home_form::rewrite` meets its contract.
-- The loop's invariant: the words before `place` are at home, and those that changed are listed. Assumes nothing.
use mathlib.Core.Path.{◌≡◌}
use lib.ListN.{length}
use Rattle.text.specs.Put.{Put}
use Rattle.home_form.specs.Home.{gathered}
use Rattle.home_form.specs.Changes.{changes_at, numbers_of}
use Rattle.home_form.proofs.Rewriting.{rewritten}
use Rattle.home_form.proofs.rewrite.Given as goal

abbrev pub invariant-loop-place : goal.invariant-loop-place
invariant-loop-place l = (l.section ≡ rewritten l.initial.section l.place) × (length l.section ≡ length l.initial.section) × (length l.list ≡ length l.initial.list)
    × Put l.initial.list 0 (numbers_of (gathered (changes_at l.initial.section) l.place)) l.at l.list
