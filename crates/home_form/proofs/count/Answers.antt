-- `home_form::count` meets its contract.
-- The loop's invariant: the changes before `place` are counted. Assumes nothing.
use mathlib.Core.Path.{◌≡◌, ap, ◌∙◌}
use mathlib.Core.List.{List}
use Prim.Native.Nat.{ℕ}
use native.Mathlib.Numerals.{add-one}
use native.Mathlib.Omega.{arith}
use lib.ListN.{length, length-append}
use Rattle.section.specs.Section.{opening_of}
use Rattle.section.specs.declared.Opened.{Opened}
use Rattle.section.specs.declared.Step.{Step}
use Rattle.section.proofs.Accepted as accepted
use Rattle.home_form.specs.Home.{gathered}
use Rattle.home_form.specs.Changes.{listed, changes_at, changes_of, unindexed_among}
use Rattle.home_form.specs.declared.Change.{Change}
use Rattle.home_form.proofs.Gathered.{at_most_one, few_unindexed, few_changes, unindexed_append, read_there}
use Rattle.home_form.proofs.count.Goals as goal

pub overflow_add-changes : goal.overflow_add-changes
overflow_add-changes c =
    let now = c.loop-place in
    let s = c.args.section.now in
    record {
      fits = omega (
        arith,
        now.invariant.0,
        few_changes s now.place,
        (accepted.opened s).few,
        c.one-changes.ensures,
        at_most_one c.change_at-change.result,
      );
    }

pub overflow_add-unindexed : goal.overflow_add-unindexed
overflow_add-unindexed c =
    let now = c.loop-place in
    let s = c.args.section.now in
    let change = c.change_at-change.result in
    record {
      fits = omega (
        arith,
        now.invariant.1,
        few_unindexed (gathered (changes_at s) now.place),
        few_changes s now.place,
        (accepted.opened s).few,
        c.one_unindexed-unindexed.ensures,
        few_unindexed (listed change),
        at_most_one change,
      );
    }

pub loop-place-preserved : goal.loop-place-preserved
loop-place-preserved c =
    let now = c.loop-place in
    let s = c.args.section.now in
    let before = gathered (changes_at s) now.place in
    let same = read_there s now.place (ap (λ (found : Step). found.here) c.read.ensures) c.change_at-change.ensures in (
      rw (add-one now.place)
          (omega (arith, now.invariant.0, c.one-changes.ensures, ap (λ (l : List Change). length l) same, length-append before (changes_at s now.place))),
      rw (add-one now.place)
          (omega (arith, now.invariant.1, c.one_unindexed-unindexed.ensures, ap unindexed_among same, unindexed_append before (changes_at s now.place))),
    )

pub returns : goal.returns
unfolding changes_of
returns c =
    let now = c.loop-place in
    let s = c.args.section.now in
    let end : now.place ≡ (opening_of s).count = omega (arith, ap (λ (o : Opened). o.count) c.requires) in
    cc (
      now.invariant.0 ∙ ap (λ (n : ℕ). length (gathered (changes_at s) n)) end,
      now.invariant.1 ∙ ap (λ (n : ℕ). unindexed_among (gathered (changes_at s) n)) end,
    )
