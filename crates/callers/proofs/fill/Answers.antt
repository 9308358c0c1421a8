-- `callers::fill` meets its contract.
-- The loop's invariant: the calls before the reader's place are written. Assumes nothing.
use mathlib.Core.Path.{◌≡◌, refl, ap, sym, subst, ◌∙◌}
use mathlib.Core.List.{List, []}
use Prim.Native.Nat.{ℕ, ◌≤◌}
use native.Mathlib.Omega.{arith}
use lib.ListN.{length}
use Rattle.text.specs.Text.{written}
use Rattle.text.proofs.Writing.{nothing as nothing_new}
use Rattle.section.specs.Section.{step_of}
use Rattle.section.specs.declared.Step.{Step}
use Rattle.section.proofs.Places.{Stands}
use Rattle.section.proofs.Fold.{upto, before, goes_on, ends}
use Rattle.section.proofs.Yielded.{stands}
use Rattle.callers_index.specs.Entries.{entries_of, numbers_of}
use Rattle.callers_index.specs.Ordered.{In}
use Rattle.callers_index.specs.declared.Entry.{Entry}
use Rattle.callers_index.proofs.Entries.{numbers_length, entries_written, over}
use Rattle.callers_index.proofs.Updating.{entered_length}
use Rattle.callers.specs.Calls.{callee_here, address_here, add_here, index_of}
use Rattle.callers.proofs.Built.{never_more, others_before}
use Rattle.callers.proofs.fill.Goals as goal

-- what the index holds before a place, and what it holds with what stands there
module _ (index₀ s : List ℕ) (place : ℕ) {index : List ℕ} {n : ℕ} (long : n ≡ length (upto add_here [] s place))
    (is : index ≡ written index₀ 0 (numbers_of (upto add_here [] s place))) where
  held : entries_of index n ≡ upto add_here [] s place
  held =
      ap (λ (x : List ℕ). entries_of x n) is ∙ ap (entries_of (written index₀ 0 (numbers_of (upto add_here [] s place)))) long
      ∙ entries_written index₀ (upto add_here [] s place)

  module _ {found : Step} (read : found ≡ step_of s place) (some : Stands found.here) where
    adds : add_here (entries_of index n) found.here ≡ upto add_here [] s found.after
    adds = ap (λ (l : List Entry). add_here l found.here) held ∙ sym (goes_on s place read refl some add_here [])

    grown : length (upto add_here [] s place) ≤ length (upto add_here [] s found.after)
    grown =
        rw (goes_on s place read refl some add_here [])
        (omega (arith, entered_length (address_here found.here) (callee_here found.here) (upto add_here [] s place)))

    writes : written index 0 (numbers_of (add_here (entries_of index n) found.here)) ≡ written index₀ 0 (numbers_of (upto add_here [] s found.after))
    writes =
        ap (λ (l : List Entry). written index 0 (numbers_of l)) adds
        ∙ ap (λ (x : List ℕ). written x 0 (numbers_of (upto add_here [] s found.after))) is
        ∙ over index₀ (numbers_of (upto add_here [] s place)) (numbers_of (upto add_here [] s found.after))
        (omega (arith, grown, numbers_length (upto add_here [] s place), numbers_length (upto add_here [] s found.after)))

    new : (e : Entry) → In e (entries_of index n) → e.caller ≡ address_here found.here → ⊥
    new e i own =
        others_before s place (before s place read refl some) e (subst (In e) held i) (own ∙ ap (λ (x : Step). address_here x.here) read)

pub loop-here-init : goal.loop-here-init
loop-here-init c =
    let start = c.places-here-items.ensures in
    rw c.into_iter-here-iterator.ensures.into_iter_gives (start.0, refl, rw start.1 refl, rw start.1 (nothing_new _ 0))

pub add_here-n-requires-clause-n_in_bounds : goal.add_here-n-requires-clause-n_in_bounds
add_here-n-requires-clause-n_in_bounds c =
    let now = c.loop-here in
    omega (
      arith,
      now.invariant.1,
      now.invariant.2,
      never_more c.args.section.now now.here-iterator.place,
      c.requires,
    )

pub add_here-n-requires-clause-here_in_bounds : goal.add_here-n-requires-clause-here_in_bounds
add_here-n-requires-clause-here_in_bounds c =
    let now = c.loop-here in
    let section = c.args.section.now in
    let place = now.here-iterator.place in
    let found = rw now.invariant.0 at c.in-Some.ensures.steps.1 in
    let some = stands section place (rw now.invariant.0 at c.in-Some.ensures.steps.0) found in
    omega (
      arith,
      now.invariant.1,
      ap (λ (l : List Entry). length l) (adds c.args.index.now section place now.invariant.2 now.invariant.3 found some),
      never_more section c.next.new.self.place,
      c.requires,
    )

pub add_here-n-requires-clause-fact : goal.add_here-n-requires-clause-fact
add_here-n-requires-clause-fact c =
    let now = c.loop-here in
    let section = c.args.section.now in
    let place = now.here-iterator.place in
    let found = rw now.invariant.0 at c.in-Some.ensures.steps.1 in
    let some = stands section place (rw now.invariant.0 at c.in-Some.ensures.steps.0) found in
    new c.args.index.now section place now.invariant.2 now.invariant.3 found some

pub loop-here-preserved : goal.loop-here-preserved
loop-here-preserved c =
    let added = c.add_here-n in
    let now = c.loop-here in
    let index₀ = c.args.index.now in
    let section = c.args.section.now in
    let place = now.here-iterator.place in
    let found = rw now.invariant.0 at c.in-Some.ensures.steps.1 in
    let some = stands section place (rw now.invariant.0 at c.in-Some.ensures.steps.0) found in (
      rw c.in-Some.ensures.steps.2 now.invariant.0,
      added.auto.index ∙ now.invariant.1,
      added.ensures.value ∙ ap (λ (l : List Entry). length l) (adds index₀ section place now.invariant.2 now.invariant.3 found some),
      added.ensures.index_after ∙ writes index₀ section place now.invariant.2 now.invariant.3 found some,
    )

pub returns-clause-value : goal.returns-clause-value
unfolding index_of
returns-clause-value c =
    let now = c.loop-here in
    let all = ends c.args.section.now now.here-iterator.place (rw now.invariant.0 at c.in-None.ensures.steps.1) refl add_here [] in
    now.invariant.2 ∙ ap (λ (l : List Entry). length l) all

pub returns-clause-index_after : goal.returns-clause-index_after
unfolding index_of
returns-clause-index_after c =
    let now = c.loop-here in
    let all = ends c.args.section.now now.here-iterator.place (rw now.invariant.0 at c.in-None.ensures.steps.1) refl add_here [] in
    now.invariant.3 ∙ ap (λ (l : List Entry). written c.args.index.now 0 (numbers_of l)) all
