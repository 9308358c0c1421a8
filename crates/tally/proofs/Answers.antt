-- What adding a section answers and leaves, by the checks in their order. Assumes nothing.
use Rattle.std.proofs.Common.{◌≡◌, sym, ℕ, ◌<◌, ◌≤◌, eqb, ltb, List, length, get_or, arith, ltb-false, le-ltb, lt-ltb, eq-eqb, ne_eqb}
use borrow.Author.Tests.{eqb-false}
use Rattle.word.specs.Choice.{fails, by_test}
use Rattle.word.specs.Refusal.{NO_ROOM, TOO_MANY_SECTIONS}
use Rattle.tally.specs.Kinds.{COUNTS}
use Rattle.tally.specs.Tally.{MOST, refusal_of, last_of, lent_refusal}

module _ (own : ℕ) (counts : List ℕ) where
  pub its_own : (own ≡ 0 → ⊥) → own ≡ lent_refusal own counts
  its_own bad = unfold lent_refusal in simp (ne_eqb own 0 bad)

  module _ (ok : own ≡ 0) where
    pub too_short : length counts < COUNTS → NO_ROOM ≡ lent_refusal own counts
    too_short short = unfold lent_refusal in simp (eq-eqb own 0 ok, lt-ltb (length counts) COUNTS short)

    module _ (long : COUNTS ≤ length counts) where
      pub too_many : MOST ≤ get_or counts 0 0 → TOO_MANY_SECTIONS ≡ lent_refusal own counts
      too_many many = unfold lent_refusal in
          simp (eq-eqb own 0 ok, le-ltb (length counts) COUNTS long, le-ltb (get_or counts 0 0) MOST many)

      pub goes_in : get_or counts 0 0 < MOST → 0 ≡ lent_refusal own counts
      goes_in few = unfold lent_refusal in
          simp (eq-eqb own 0 ok, le-ltb (length counts) COUNTS long, lt-ltb (get_or counts 0 0) MOST few)

  -- numbers that are a tally
  pub of_tally : COUNTS ≤ length counts → lent_refusal own counts ≡ refusal_of own (get_or counts 0 0)
  of_tally long = unfold lent_refusal in simp (le-ltb (length counts) COUNTS long, fails (eqb own 0))

  -- what is not refused is a tally's
  pub is_tally : lent_refusal own counts ≡ 0 → COUNTS ≤ length counts
  unfolding lent_refusal
  is_tally none =
      by_test (ltb (length counts) COUNTS)
      (λ short.
      by_test (eqb own 0)
      (λ ok. let ten : NO_ROOM ≡ 0 = simp (short, ok) at none in absurd (omega arith))
      (λ bad. absurd (eqb-false own 0 bad (simp (short, bad) at none))))
      (λ long. ltb-false (length counts) COUNTS long)

-- a section with a refusal of its own changes none
pub stays : (own : ℕ) (s counts : List ℕ) → (own ≡ 0 → ⊥) → counts ≡ last_of (lent_refusal own counts) s counts
stays own s counts bad = simp (sym (its_own own counts bad), ne_eqb own 0 bad)
