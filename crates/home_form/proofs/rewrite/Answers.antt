-- `home_form::rewrite` meets its contract.
-- The loop's invariant: the words before `place` are at home, and those that changed are listed. Assumes nothing.
use mathlib.Core.Path.{◌≡◌, refl, sym, ap, ◌∙◌}
use mathlib.Core.List.{List}
use Prim.Native.Nat.{ℕ, ◌<◌, ◌≤◌}
use native.Mathlib.Omega.{arith}
use Rattle.std.specs.Prelude.{Result, Ok}
use Rattle.word.specs.Refusal.{refused_with}
use Rattle.word.specs.declared.refusal.Refusal.{Refusal}
use Rattle.section.proofs.Accepted.{same_refusal}
use Rattle.text.specs.Text.{written}
use Rattle.text.proofs.Writing.{none}
use Rattle.section.specs.Section.{opened_of, opening_of, opened_in}
use Rattle.section.specs.declared.Opened.{Opened}
use Rattle.section.specs.declared.Step.{Step}
use Rattle.home_form.specs.Home.{gathered}
use Rattle.home_form.specs.Changes.{changes_at, changes_of, numbers_of}
use Rattle.home_form.proofs.Rewriting.{rewritten, none_yet, all_done, opened_same, rewrites, lists, fits}
use Rattle.home_form.proofs.rewrite.Goals as goal

module _ (s : List ℕ) {o : Opened} (is : opened_of s ≡ Ok o) where
  opening : o ≡ opening_of s
  opening = sym (ap opened_in is)

  -- where the loop goes on the section is opened to the same, and there is a word
  still : {now : List ℕ} (place : ℕ) → now ≡ rewritten s place → place ≤ (opening_of s).count → o ≡ opening_of now
  still place at low = opening ∙ sym (ap (λ (t : List ℕ). opening_of t) at ∙ ap opened_in (opened_same s place low))

  inside : {place : ℕ} → place < o.count → place < (opening_of s).count
  inside h = omega (arith, h, ap (λ (o : Opened). o.count) opening)

pub loop-place-init : goal.loop-place-init
loop-place-init c = (none_yet _, refl, refl, none _ 0)

pub read-requires : goal.read-requires
read-requires c =
    still c.args.section.now c.requires.opened_value c.loop-place.place c.loop-place.invariant.0
    (omega (arith, inside c.args.section.now c.requires.opened_value c.loop-place-test.true))

pub replace-requires : goal.replace-requires
replace-requires c = (
  still c.args.section.now c.requires.opened_value c.loop-place.place c.loop-place.invariant.0
      (omega (arith, inside c.args.section.now c.requires.opened_value c.loop-place-test.true)),
  c.loop-place-test.true,
)

pub put_change-at-requires : goal.put_change-at-requires
put_change-at-requires c =
    let now = c.loop-place in
    let s = c.args.section.now in
    let here = inside s c.requires.opened_value c.loop-place-test.true in
    let read = ap (λ (found : Step). found.here) c.read.ensures in
    fits s now.place here now.invariant.0 read c.change_at-change.ensures now.invariant.3 now.invariant.2 c.requires.section_in_bounds

pub loop-place-preserved : goal.loop-place-preserved
loop-place-preserved c =
    let now = c.loop-place in
    let s = c.args.section.now in
    let here = inside s c.requires.opened_value c.loop-place-test.true in
    let read = ap (λ (found : Step). found.here) c.read.ensures in (
      rewrites s now.place here now.invariant.0 read c.change_at-change.ensures c.replace.ensures,
      c.replace.auto.bytes ∙ now.invariant.1,
      c.put_change-at.auto.list ∙ now.invariant.2,
      lists s now.place here now.invariant.0 read c.change_at-change.ensures now.invariant.3 c.put_change-at.ensures,
    )

pub returns-clause-section_after : goal.returns-clause-section_after
returns-clause-section_after c =
    let now = c.loop-place in
    let s = c.args.section.now in
    let is = c.requires.opened_value in
    let end : now.place ≡ (opening_of s).count = omega (arith, ap (λ (o : Opened). o.count) (opening s is)) in
    now.invariant.0 ∙ ap (rewritten s) end ∙ all_done s (sym (same_refusal s) ∙ ap (λ (x : Result Opened Refusal). refused_with x) is)

pub returns-clause-list_after : goal.returns-clause-list_after
unfolding changes_of
returns-clause-list_after c =
    let now = c.loop-place in
    let s = c.args.section.now in
    let end : now.place ≡ (opening_of s).count = omega (arith, ap (λ (o : Opened). o.count) (opening s c.requires.opened_value)) in
    now.invariant.3.holds ∙ ap (λ (n : ℕ). written c.args.list.now 0 (numbers_of (gathered (changes_at s) n))) end
