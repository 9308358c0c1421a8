-- What stands at the places of a section. Assumes nothing.
use mathlib.Core.Path.{◌≡◌, refl, sym, subst, ◌∙◌}
use mathlib.Core.Bool.{true, false, true≢false}
use mathlib.Core.List.{List, [], ◌∷◌}
use Prim.Native.Nat.{ℕ, ◌+◌, ◌*◌, ◌<◌, ◌≤◌}
use native.Mathlib.Omega.{arith}
use borrow.Author.Tests.{ltb-true, ltb-false, ne_eqb, lt-ltb, le-ltb}
use native.Mathlib.Numerals.{add-one}
use lib.Seq.{drop-cons}
use lib.Dec.{ltb}
use lib.ListN.{length, get_or-eq_default, drop_of_length-le}
use Rattle.word.specs.Bytes.{word_at}
use Rattle.word.specs.Choice.{tested, by_test}
use Rattle.section.specs.Ranges.{is_data}
use Rattle.section.specs.Section.{version_of, base_of, firsts, ranges_of, count_of, refusal_of, opening_of, here_at, is_end, places_of, here_of, left_of, step_of}
use Rattle.section.specs.declared.Here.{Here}
use Rattle.section.specs.declared.Here.TheVariants.{Word, Data, End}
use Rattle.section.specs.declared.Opened.{Opened}
use Rattle.section.proofs.Firsts.{so_many, each}
use Rattle.section.proofs.Accepted.{opening}

-- something stands there
abbrev pub Stands : Here → Type 0
Stands here = is_end here ≡ false

pub something : (s : List ℕ) (o : Opened) (place : ℕ) → Stands (here_at s o place)
something s o place = tested Stands (is_data (ranges_of s o.ranges) place) (λ e. refl) (λ e. refl)

-- nothing does
pub nothing : (here : Here) → is_end here ≡ true → here ≡ End
nothing (Word word address) e = absurd (true≢false (sym e))
nothing (Data word address) e = absurd (true≢false (sym e))
nothing End e = refl

module _ (s : List ℕ) where
  pub how_many_lem : length (places_of s) ≡ (opening_of s).count
  how_many_lem = unfold places_of in so_many (here_at s (opening_of s)) (opening_of s).count

  module _ {place : ℕ} where
    pub before_end : place < length (places_of s) → here_of s place ≡ here_at s (opening_of s) place
    before_end h = unfold places_of in each (here_at s (opening_of s)) End (opening_of s).count place (omega (arith, how_many_lem))

    pub at_end : length (places_of s) ≤ place → here_of s place ≡ End
    at_end h = get_or-eq_default (places_of s) End h

    -- what is found tells where it was found
    pub is_before : {here : Here} → here_of s place ≡ here → Stands here → place < length (places_of s)
    is_before found some =
        by_test (ltb place (length (places_of s)))
        (λ e. ltb-true place (length (places_of s)) e)
        (λ e. absurd (true≢false (subst Stands (sym found ∙ at_end (ltb-false place (length (places_of s)) e)) some)))

    pub is_end_lem : here_of s place ≡ End → length (places_of s) ≤ place
    is_end_lem found =
        by_test (ltb place (length (places_of s)))
        (λ e.
        absurd (true≢false (subst Stands (sym (before_end (ltb-true place (length (places_of s)) e)) ∙ found) (something s (opening_of s) place))))
        (λ e. ltb-false place (length (places_of s)) e)

-- version 1 is the case without ranges: all are words, and they start at byte 9
pub all_words : (s : List ℕ) → refusal_of s ≡ 0 → version_of s ≡ 1
    → places_of s ≡ firsts (λ place. Word (word_at s (9 + 4 * place)) (base_of s + 4 * place)) (count_of s)
all_words s ok one = unfold places_of in
    rw (opening s ok) (simp (ne_eqb (version_of s) 2 (λ two. let z : ⊥ = omega (arith, one, two) in z)))

-- what is left before a place, and at the end
pub next_left : (s : List ℕ) (place : ℕ) → place < (opening_of s).count → left_of s place ≡ here_of s place ∷ left_of s (place + 1)
next_left s place h = rw (add-one place) (drop-cons (places_of s) place End (omega (arith, how_many_lem s)))

pub none_left_there : (s : List ℕ) (place : ℕ) → (opening_of s).count ≤ place → left_of s place ≡ []
none_left_there s place h = drop_of_length-le (places_of s) {i = place} (omega (arith, how_many_lem s))

-- what a reader finds before the end, and at it
pub steps_before : (s : List ℕ) (place : ℕ) → place < (opening_of s).count → record { here = here_of s place; after = place + 1 } ≡ step_of s place
steps_before s place h = simp (lt-ltb place (length (places_of s)) (omega (arith, how_many_lem s)))

pub steps_at_end : (s : List ℕ) (place : ℕ) → (opening_of s).count ≤ place → record { here = End; after = place } ≡ step_of s place
steps_at_end s place h =
    let over : length (places_of s) ≤ place = omega (arith, how_many_lem s) in
    simp (at_end s over, le-ltb place (length (places_of s)) over)
