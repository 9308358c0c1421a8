-- What an array holds after an index was built in it, or updated. Assumes nothing.
use mathlib.Core.Path.{◌≡◌, sym, ap, ◌∙◌}
use mathlib.Core.List.{List}
use Prim.Native.Nat.{ℕ, ◌<◌}
use native.Mathlib.Omega.{arith}
use borrow.Author.Tests.{ltb-true, eq-eqb}
use lib.Dec.{ltb}
use lib.ListN.{length}
use Rattle.word.specs.Choice.{by_test}
use Rattle.word.specs.Refusal.{refused_with}
use Rattle.text.specs.Text.{written}
use Rattle.text.specs.Fits.{len_in}
use Rattle.section.specs.Section.{opened_of, opening_of}
use Rattle.section.specs.Replaced.{replaced_of}
use Rattle.callers_index.specs.Entries.{entries_of, numbers_of}
use Rattle.callers_index.specs.declared.Entry.{Entry}
use Rattle.callers_index.proofs.Entries.{entries_written}
use Rattle.callers.specs.Calls.{index_of}
use Rattle.callers.specs.Index.{no_place, updated_of, build_refusal, replace_refusal, Indexed, indexed_of, index_left, Builds, Replaces}
use Rattle.callers.proofs.Answers.{none_first, none_later, build_answers, replace_answers}
use Rattle.callers.proofs.Built.{updated_afresh}

-- without one the array holds the entries
holds : (refusal : ℕ) (l : List Entry) (index : List ℕ) {index' : List ℕ} {r : Indexed} → r ≡ indexed_of refusal l → index' ≡ index_left refusal l index
    → refusal ≡ 0 → entries_of index' (len_in r) ≡ l
holds refusal l index {index'} {r} answer left ok =
    let none = eq-eqb refusal 0 ok in
    let array : index' ≡ written index 0 (numbers_of l) = left ∙ simp none in
    let count : len_in r ≡ length l = ap len_in answer ∙ simp none in
    ap (λ (x : List ℕ). entries_of x (len_in r)) array ∙ ap (entries_of (written index 0 (numbers_of l))) count ∙ entries_written index l

module _ {s index : List ℕ} {r : Indexed} {index' : List ℕ} (is : Builds s index r index') (ok : refused_with r ≡ 0) where
  pub built : entries_of index' (len_in r) ≡ index_of s
  built =
      holds (build_refusal s index) (index_of s) index is.answer is.left (sym (build_answers is) ∙ ok)

within : (s : List ℕ) (place w : ℕ) (index : List ℕ) (count : ℕ) → replace_refusal s place w index count ≡ 0 → place < (opening_of s).count
unfolding replace_refusal
within s place w index count none =
    let here = none_first (no_place s place) _ (none_later (refused_with (opened_of s)) _ none) in
    by_test (ltb place (opening_of s).count)
    (λ e. ltb-true place (opening_of s).count e)
    (λ e. absurd (let z : ⊥ = omega (arith, simp e at here) in z))

module _ {s : List ℕ} {place w : ℕ} {index : List ℕ} {count : ℕ} {r : Indexed} {s' index' : List ℕ}
    (is : Replaces s place w index count r s' index') (ok : refused_with r ≡ 0) where
  none : replace_refusal s place w index count ≡ 0
  none = sym (replace_answers is) ∙ ok

  -- the list of 02's steps, and the section with the word replaced
  pub updated : entries_of index' (len_in r) ≡ updated_of s place w (entries_of index count)
  updated = holds (replace_refusal s place w index count) (updated_of s place w (entries_of index count)) index is.answer is.left none

  pub replaced : s' ≡ replaced_of s place w
  replaced = is.words ∙ simp (eq-eqb (replace_refusal s place w index count) 0 none)

  pub inside : place < (opening_of s).count
  inside = within s place w index count none

  -- and, if that was the index of the old words, the index of the new ones
  pub afresh : entries_of index count ≡ index_of s → entries_of index' (len_in r) ≡ index_of s'
  afresh was =
      updated ∙ ap (updated_of s place w) was ∙ updated_afresh s place w inside ∙ ap index_of (sym replaced)
