-- A list that has a section's length and the bytes before its words is opened to the same, and holds its own words at the section's places.
-- Assumes nothing.
use mathlib.Core.Path.{◌≡◌, refl, sym, ap, ◌∙◌}
use mathlib.Core.Bool.{true}
use mathlib.Core.List.{List}
use Prim.Native.Nat.{ℕ, ◌+◌, ◌*◌, ◌<◌, ◌≤◌}
use native.Mathlib.Nat.{add-zero}
use native.Mathlib.Omega.{arith}
use borrow.Author.Tests.{eqb-true, eqb-false, ltb-true, ltb-false}
use lib.Dec.{eqb, ltb}
use lib.ListN.{length, get_or}
use Rattle.word.specs.Bytes.{word_at}
use Rattle.word.specs.Choice.{by_test}
use Rattle.section.specs.Ranges.{rules_hold, is_data}
use Rattle.section.specs.Section.{marked_of, half_at, version_of, base_of, range_count, start_of, range_at, ranges_of, count_of}
use Rattle.section.specs.Section.{refusal_of, opened_of, opened_in, opening_of, here_at, places_of, here_of}
use Rattle.section.specs.Replaced.{with_word}
use Rattle.section.specs.declared.Opened.{Opened}
use Rattle.section.proofs.Accepted.{start_least, start_two, opening, holds_none}
use Rattle.section.proofs.Firsts.{same_firsts}
use Rattle.section.proofs.Places.{how_many_lem, before_end, at_end}

-- a section that has a place is accepted
pub is_accepted : (s : List ℕ) (place : ℕ) → place < (opening_of s).count → refusal_of s ≡ 0
is_accepted s place inside =
    by_test (eqb (refusal_of s) 0)
    (λ e. eqb-true (refusal_of s) 0 e)
    (λ e. absurd (let z : ⊥ = omega (arith, ap (λ (o : Opened). o.count) (holds_none s (eqb-false (refusal_of s) 0 e))) in z))

module _ (s t : List ℕ) (long : length s ≡ length t) (front : (i : ℕ) → i < start_of s → get_or s i 0 ≡ get_or t i 0) where
  nine : (i : ℕ) → i < 9 → get_or s i 0 ≡ get_or t i 0
  nine i h = front i (omega (arith, start_least s))

  same_mark : marked_of s ≡ marked_of t
  same_mark = cc (nine 0 (omega arith), nine 1 (omega arith), nine 2 (omega arith))

  same_version : version_of s ≡ version_of t
  same_version = cc (nine 3 (omega arith), nine 4 (omega arith))

  same_base : base_of s ≡ base_of t
  same_base = cc (nine 5 (omega arith), nine 6 (omega arith), nine 7 (omega arith), nine 8 (omega arith))

  same_half : eqb (version_of s) 2 ≡ true → half_at s 9 ≡ half_at t 9
  same_half e =
      let start = start_two s (eqb-true (version_of s) 2 e) in
      cc (front 9 (omega arith), front 10 (omega arith))

  same_start : start_of s ≡ start_of t
  same_start =
      by_test (eqb (version_of s) 2)
      (λ e. cc (same_version, same_half e))
      (λ e. cc (same_version, e))

  pub same_count : range_count s ≡ range_count t
  same_count =
      by_test (eqb (version_of s) 2)
      (λ e. cc (same_version, same_half e))
      (λ e. cc (same_version, e))

  same_range : (i : ℕ) → 11 + 8 * i + 8 ≤ start_of s → range_at s i ≡ range_at t i
  same_range i h =
      cc (
        front (11 + 8 * i) (omega arith),
        front (11 + 8 * i + 1) (omega arith),
        front (11 + 8 * i + 2) (omega arith),
        front (11 + 8 * i + 3) (omega arith),
        front (11 + 8 * i + 4) (omega arith),
        front (11 + 8 * i + 4 + 1) (omega arith),
        front (11 + 8 * i + 4 + 2) (omega arith),
        front (11 + 8 * i + 4 + 3) (omega arith),
      )

  pub same_ranges : ranges_of s (range_count s) ≡ ranges_of t (range_count s)
  same_ranges = same_firsts (range_count s) (λ i h. same_range i (inside i h))
    where
      inside : (i : ℕ) → i < range_count s → 11 + 8 * i + 8 ≤ start_of s
      inside i h =
          by_test (eqb (version_of s) 2)
          (λ e. let below : i < half_at s 9 = simp e at h in simp e (omega arith))
          (λ e. let none : i < 0 = simp e at h in absurd (let z : ⊥ = omega arith in z))

  same_words : count_of s ≡ count_of t
  same_words = cc (long, same_start)

  same_rules : rules_hold (count_of s) (ranges_of s (range_count s)) ≡ rules_hold (count_of t) (ranges_of t (range_count t))
  same_rules = cc (same_words, same_ranges, same_count)

  pub same_refusal : refusal_of s ≡ refusal_of t
  same_refusal = unfold refusal_of in cc (long, same_mark, same_version, same_start, same_rules, same_base)

  pub same_opened : opened_of s ≡ opened_of t
  same_opened = unfold opened_of in cc (same_refusal, same_version, same_base, same_words, same_count, same_start)

  pub same_opening : opening_of s ≡ opening_of t
  same_opening = ap opened_in same_opened

  as_many : length (places_of s) ≡ length (places_of t)
  as_many = how_many_lem s ∙ ap (λ (o : Opened). o.count) same_opening ∙ sym (how_many_lem t)

  same_but_word : (o : Opened) (place : ℕ) → ranges_of s o.ranges ≡ ranges_of t o.ranges
      → here_at t o place ≡ with_word (word_at t (o.start + 4 * place)) (here_at s o place)
  same_but_word o place same = rw same (by_test (is_data (ranges_of t o.ranges) place) (λ e. simp e) (λ e. simp e))

  -- at a place stands what stood there, word or data, with the word that it has now
  pub carries : (place : ℕ) → here_of t place ≡ with_word (word_at t (start_of s + 4 * place)) (here_of s place)
  carries place =
      by_test (ltb place (length (places_of s)))
      (λ e.
      let h = ltb-true place (length (places_of s)) e in
      let is = opening s (is_accepted s place (omega (arith, how_many_lem s))) in
      rw (before_end s h)
      (before_end t (omega (arith, as_many))
      ∙ ap (λ (o : Opened). here_at t o place) (sym same_opening)
      ∙ same_but_word (opening_of s) place (rw is same_ranges)
      ∙ ap (λ (o : Opened). with_word (word_at t (o.start + 4 * place)) (here_at s (opening_of s) place)) is))
      (λ e.
      let h = ltb-false place (length (places_of s)) e in
      rw (at_end s h) (at_end t (omega (arith, as_many))))

-- a place whose bytes are the same holds what it held
pub keeps : (s t : List ℕ) (long : length s ≡ length t) (front : (i : ℕ) → i < start_of s → get_or s i 0 ≡ get_or t i 0) (place : ℕ)
    → (place < length (places_of s) → (k : ℕ) → k < 4 → get_or s (start_of s + 4 * place + k) 0 ≡ get_or t (start_of s + 4 * place + k) 0)
    → here_of t place ≡ here_of s place
keeps s t long front place same =
    by_test (ltb place (length (places_of s)))
    (λ e.
    let bytes = same (ltb-true place (length (places_of s)) e) in
    let first = rw add-zero at (bytes 0 (omega arith)) in
    carries s t long front place
    ∙ ap (λ (w : ℕ). with_word w (here_of s place)) (cc (first, bytes 1 (omega arith), bytes 2 (omega arith), bytes 3 (omega arith)))
    ∙ sym (carries s s refl (λ i h. refl) place))
    (λ e. carries s t long front place ∙ rw (at_end s (ltb-false place (length (places_of s)) e)))
