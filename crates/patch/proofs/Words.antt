-- Which number words at a base are refused with: the laws of a section's checks, of the section that has them. Assumes nothing.
use mathlib.Core.Path.{◌≡◌, refl, ap}
use mathlib.Core.Logic.{◌↔◌}
use Prim.Native.Nat.{ℕ, ◌+◌, ◌-◌, ◌*◌, ◌/◌, ◌%◌, ◌^◌, ◌<◌, ◌≤◌}
use native.Mathlib.Omega.{arith}
use lib.ListN.{length}
use Rattle.section.specs.Section.{base_of, count_of, refusal_of}
use Rattle.section.proofs.Accepted.{accepted, refusal_known, small_refusal}
use Rattle.section.proofs.Checks as Checks
use Rattle.patch.specs.Image.{Laid, section_with, words_refusal}
use mathlib.Core.Logic.{⊎_elim}
use Rattle.word.specs.Refusal.{number, numbered}
use Rattle.patch.specs.Part.{Fit}

module _ (l : Laid) where
  size_is : length (section_with l) - 9 ≡ length l.words
  size_is = omega arith

  pub count_is : count_of (section_with l) ≡ length l.words / 4
  count_is = ap (λ (n : ℕ). n / 4) size_is

  pub base_is : base_of (section_with l) ≡ l.base
  base_is = omega arith

  nine : 9 ≤ length (section_with l)
  nine = omega arith

  pub no_words : (length l.words % 4 ≡ 0 → ⊥) → words_refusal l ≡ 7
  no_words h = unfold words_refusal in Checks.no_fours (section_with l) nine refl refl nine (λ z. h (rw size_is at z))

  module _ (fours : length l.words % 4 ≡ 0) where
    fours_are : (length (section_with l) - 9) % 4 ≡ 0
    fours_are = rw size_is fours

    pub too_many : 4096 < length l.words / 4 → words_refusal l ≡ 8
    too_many h = unfold words_refusal in Checks.too_many (section_with l) nine refl refl nine fours_are (rw count_is h)

    module _ (few : length l.words / 4 ≤ 4096) where
      few_are : count_of (section_with l) ≤ 4096
      few_are = rw count_is few

      pub unaligned : (l.base % 4 ≡ 0 → ⊥) → words_refusal l ≡ 9
      unaligned h = unfold words_refusal in
          Checks.unaligned (section_with l) nine refl refl nine fours_are few_are refl (λ z. h (rw base_is at z))

      module _ (aligned : l.base % 4 ≡ 0) where
        aligned_is : base_of (section_with l) % 4 ≡ 0
        aligned_is = rw base_is aligned

        pub beyond : 2 ^ 32 < l.base + length l.words → words_refusal l ≡ 9
        beyond h = unfold words_refusal in
            Checks.beyond (section_with l) nine refl refl nine fours_are few_are refl aligned_is (rw (base_is, count_is) (omega arith))

        pub none : l.base + length l.words ≤ 2 ^ 32 → words_refusal l ≡ 0
        none h = unfold words_refusal in
            Checks.none (section_with l) nine refl refl nine fours_are few_are refl aligned_is (rw (base_is, count_is) (omega arith))

  pub fit : words_refusal l ≡ 0 → Fit l
  fit ok = unfold words_refusal in
      let is = accepted (section_with l) ok in
      let long : length (section_with l) ≡ 9 + 4 * count_of (section_with l) = is.long in
      let base = base_is in record {
        fours = omega arith;
        few = omega (arith, is.few);
        aligned = rw base_is at is.aligned;
        below = omega (arith, is.below);
      }

  pub fit_exactly : (words_refusal l ≡ 0) ↔ Fit l
  fit_exactly = (fit, λ is. none is.fours (omega (arith, is.few)) is.aligned is.below)

  -- a refusal's number is one of the table
  pub told : (words_refusal l ≡ 0 → ⊥) → number (numbered (words_refusal l)) ≡ words_refusal l
  told bad = unfold words_refusal in
      ⊎_elim
      (λ (none : refusal_of (section_with l) ≡ 0). absurd (bad none))
      (λ (is : number (numbered (refusal_of (section_with l))) ≡ refusal_of (section_with l)). is)
      (refusal_known (section_with l))

  pub small : words_refusal l < 12
  small = unfold words_refusal in small_refusal (section_with l)
