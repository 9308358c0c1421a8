-- `walk::Search::run` meets its contract. Its loop takes up a place that waits, and looks for the next one; the invariant is `Searched`.
-- Assumes nothing.
use mathlib.Core.Path.{◌≡◌, sym, ap, ◌∙◌}
use mathlib.Core.Bool.{Bool, true, false}
use mathlib.Core.List.{List}
use Prim.Native.Nat.{ℕ, ◌<◌}
use native.Mathlib.Omega.{arith}
use lib.ListN.{length, set, replicate}
use Rattle.section.specs.Section.{opening_of}
use Rattle.section.proofs.Accepted.{opened}
use Rattle.walk_marks.specs.Marks.{Marked, marks_of}
use Rattle.walk_marks.proofs.Marks.{length_marks}
use Rattle.walk_steps.specs.Steps.{steps_of}
use Rattle.walk.specs.Search.{Next}
use Rattle.walk.proofs.Inside.{steps_inside}
use Rattle.walk.proofs.Searched.{Searched, begun, entry_waits, took, waits_inside, some_left, finished}
use Rattle.walk.proofs.Search.run.Goals as goal

-- a store that was empty, with the entry
entered : {m m' : List Bool} (entry : ℕ) → m ≡ replicate 4096 false → m' ≡ set m entry true → m' ≡ set (replicate 4096 false) entry true
entered entry e s = s ∙ ap (λ (m : List Bool). set m entry true) e

-- in a turn a place waits, and so fewer words are taken up than there are marks
module _ (reached waiting : List ℕ) (r : length reached ≡ 128) (w : length waiting ≡ 128) (at : ℕ) (next : Next (marks_of waiting) at)
    (turn : at < 4096) where
  waits : Marked (marks_of waiting) at
  waits = next.waits (omega (arith, turn, w, length_marks waiting))

  module _ (s : List ℕ) (entry words : ℕ) (found : Searched (steps_of s) entry (marks_of reached) (marks_of waiting) words) where
    few : words < 4096
    few = omega (arith, some_left _ _ (steps_inside s) entry found at waits, r, length_marks reached)

    inside : entry < (opening_of s).count → at < (opening_of s).count
    inside starts = waits_inside _ _ (steps_inside s) entry found waits starts

pub loop-at-init : goal.loop-at-init
loop-at-init c =
    let args = c.args in
    let made = c.begin in
    let pre = c.requires in
    let starts : args.entry < 4096 = omega (arith, pre.entry_inside, (opened args.section.now).few) in
    let reached = entered args.entry pre.none.0 made.ensures.reached_after in
    let waiting = entered args.entry pre.none.1 made.ensures.waiting_after in (
      entry_waits _ 4096 starts waiting,
      begun _ _ (steps_inside args.section.now) _ 4096 starts reached (waiting ∙ sym reached),
    )

pub begin-requires : goal.begin-requires
begin-requires c = omega (arith, c.requires.entry_inside, (opened c.args.section.now).few)

pub take_up-requires : goal.take_up-requires
take_up-requires c =
    let now = c.loop-at in
    inside now.self.reached now.self.waiting now.self.full.0 now.self.full.1 now.at now.invariant.0 (omega arith) _ _ _ now.invariant.1 c.requires.entry_inside

pub overflow_add-words : goal.overflow_add-words
overflow_add-words c =
    let now = c.loop-at in
    record {
      fits = omega (arith, few now.self.reached now.self.waiting now.self.full.0 now.self.full.1 now.at now.invariant.0 (omega arith) _ _ _ now.invariant.1);
    }

pub loop-at-smaller : goal.loop-at-smaller
loop-at-smaller c =
    let now = c.loop-at in
    omega (arith, few now.self.reached now.self.waiting now.self.full.0 now.self.full.1 now.at now.invariant.0 (omega arith) _ _ _ now.invariant.1)

pub loop-at-preserved : goal.loop-at-preserved
loop-at-preserved c =
    let now = c.loop-at in
    let s = c.args.section.now in (
      c.next-at.ensures,
      took _ _ (steps_inside s) _ now.invariant.1
          (waits now.self.reached now.self.waiting now.self.full.0 now.self.full.1 now.at now.invariant.0 (omega arith))
          (omega (arith, (opened s).few, now.self.full.0, length_marks now.self.reached)) c.take_up.ensures,
    )

pub returns : goal.returns
returns c =
    let now = c.loop-at in
    let none = now.invariant.0.none (omega (arith, c.loop-at-test.false, now.self.full.1, length_marks now.self.waiting)) in
    finished _ _ (steps_inside c.args.section.now) _ now.invariant.1 none
