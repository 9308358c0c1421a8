-- Which number is given, check by check: that of the first one that fails, and 0 where none does. Assumes nothing.
use mathlib.Core.Path.{◌≡◌, ◌∙◌}
use mathlib.Core.Bool.{true, false, not}
use mathlib.Core.List.{List}
use Prim.Native.Nat.{ℕ, ◌+◌, ◌-◌, ◌*◌, ◌%◌, ◌^◌, ◌<◌, ◌≤◌}
use borrow.Author.Tests.{lt-ltb, le-ltb, eq-eqb, ne_eqb}
use lib.Dec.{eqb, ltb}
use lib.ListN.{length}
use Rattle.word.specs.Choice.{pick}
use Rattle.section.specs.Ranges.{rules_hold}
use Rattle.section.specs.Section.{marked_of, version_of, is_known, base_of, range_count, start_of, ranges_of, count_of, refusal_of}

-- what is left from a check on
module _ (s : List ℕ) where
  abbrev from_base : ℕ
  from_base = pick (not (eqb (base_of s % 4) 0)) 9 (pick (ltb (2 ^ 32) (base_of s + 4 * count_of s)) 9 0)

  abbrev from_count : ℕ
  from_count = pick (ltb 4096 (count_of s)) 8 (pick (not (rules_hold (count_of s) (ranges_of s (range_count s)))) 11 from_base)

  abbrev from_length : ℕ
  from_length = pick (ltb (length s) (start_of s)) 7 (pick (not (eqb ((length s - start_of s) % 4) 0)) 7 from_count)

  pub too_short : length s < 9 → refusal_of s ≡ 7
  too_short h = unfold refusal_of in simp (lt-ltb (length s) 9 h)

  module _ (nine : 9 ≤ length s) where
    pub no_mark : marked_of s ≡ false → refusal_of s ≡ 5
    no_mark e = unfold refusal_of in simp (le-ltb (length s) 9 nine, e)

    module _ (marked : marked_of s ≡ true) where
      pub unknown : is_known (version_of s) ≡ false → refusal_of s ≡ 6
      unknown e = unfold refusal_of in simp (le-ltb (length s) 9 nine, marked, e)

      module _ (known : is_known (version_of s) ≡ true) where
        to_length : refusal_of s ≡ from_length
        to_length = unfold refusal_of in simp (le-ltb (length s) 9 nine, marked, known)

        pub cut : ltb (length s) (start_of s) ≡ true → refusal_of s ≡ 7
        cut e = to_length ∙ simp e

        module _ (there : start_of s ≤ length s) where
          to_words : refusal_of s ≡ pick (not (eqb ((length s - start_of s) % 4) 0)) 7 from_count
          to_words = to_length ∙ simp (le-ltb (length s) (start_of s) there)

          pub no_fours : ((length s - start_of s) % 4 ≡ 0 → ⊥) → refusal_of s ≡ 7
          no_fours e = to_words ∙ simp (ne_eqb ((length s - start_of s) % 4) 0 e)

          module _ (fours : (length s - start_of s) % 4 ≡ 0) where
            to_count : refusal_of s ≡ from_count
            to_count = to_words ∙ simp (eq-eqb ((length s - start_of s) % 4) 0 fours)

            pub too_many : 4096 < count_of s → refusal_of s ≡ 8
            too_many e = to_count ∙ simp (lt-ltb 4096 (count_of s) e)

            module _ (few : count_of s ≤ 4096) where
              pub broken : rules_hold (count_of s) (ranges_of s (range_count s)) ≡ false → refusal_of s ≡ 11
              broken e = to_count ∙ simp (le-ltb 4096 (count_of s) few, e)

              module _ (kept : rules_hold (count_of s) (ranges_of s (range_count s)) ≡ true) where
                to_base : refusal_of s ≡ from_base
                to_base = to_count ∙ simp (le-ltb 4096 (count_of s) few, kept)

                pub unaligned : (base_of s % 4 ≡ 0 → ⊥) → refusal_of s ≡ 9
                unaligned e = to_base ∙ simp (ne_eqb (base_of s % 4) 0 e)

                module _ (aligned : base_of s % 4 ≡ 0) where
                  pub beyond : 2 ^ 32 < base_of s + 4 * count_of s → refusal_of s ≡ 9
                  beyond e = to_base ∙ simp (eq-eqb (base_of s % 4) 0 aligned, lt-ltb (2 ^ 32) (base_of s + 4 * count_of s) e)

                  pub none : base_of s + 4 * count_of s ≤ 2 ^ 32 → refusal_of s ≡ 0
                  none e = to_base ∙ simp (eq-eqb (base_of s % 4) 0 aligned, le-ltb (2 ^ 32) (base_of s + 4 * count_of s) e)
