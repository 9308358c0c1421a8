-- A loop that takes what stands at the next place and steps its state by it ends with the fold over the section. Assumes nothing.
use mathlib.Core.Path.{◌≡◌, ap, sym, ◌∙◌}
use mathlib.Core.List.{List, [], ◌∷◌, foldl, foldl-append}
use Prim.Native.Nat.{ℕ, ◌+◌, ◌<◌}
use native.Mathlib.Numerals.{add-one}
use borrow.Author.Tests.{lt-ltb}
use lib.ListN.{length, take}
use lib.Seq.{take-suc, take_all}
use Rattle.section.specs.Section.{places_of, here_of, step_of}
use Rattle.section.specs.declared.Step.{Step}
use Rattle.section.specs.declared.Here.{Here}
use Rattle.section.specs.declared.Here.TheVariants.{End}
use Rattle.section.proofs.Places.{Stands, is_before, is_end_lem}

module _ {A : Type 0} (step : A → Here → A) (start : A) (s : List ℕ) where
  -- the state before a place; before the first it is the start
  abbrev pub upto : ℕ → A
  upto place = foldl step start (take place (places_of s))

-- what was read at a place
module _ (s : List ℕ) (place : ℕ) {found : Step} (is : found ≡ step_of s place) where
  here_is : found.here ≡ here_of s place
  here_is = ap (λ (x : Step). x.here) is

  module _ {here : Here} (holds : found.here ≡ here) (some : Stands here) where
    pub before : place < length (places_of s)
    before = is_before s (sym here_is ∙ holds) some

    pub moves : found.after ≡ place + 1
    moves = ap (λ (x : Step). x.after) is ∙ simp (lt-ltb place (length (places_of s)) before)

    module _ {A : Type 0} (step : A → Here → A) (start : A) where
      pub goes_on : upto step start s found.after ≡ step (upto step start s place) here
      goes_on =
          rw (moves, add-one place, take-suc (places_of s) place End before, ← holds, here_is)
          (foldl-append step start (take place (places_of s)) (here_of s place ∷ []))

  module _ (none : found.here ≡ End) {A : Type 0} (step : A → Here → A) (start : A) where
    pub ends : upto step start s place ≡ foldl step start (places_of s)
    ends = ap (foldl step start) (take_all place (places_of s) (is_end_lem s (sym here_is ∙ none)))
