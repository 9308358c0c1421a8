-- A section without ranges in both versions: the same mark, base and words, with the same refusal and the same places. Assumes nothing.
use mathlib.Core.Path.{◌≡◌, ap, sym, ◌∙◌}
use mathlib.Core.List.{List, [], ◌∷◌, ◌++◌}
use Prim.Native.Nat.{ℕ, zero, suc, ◌+◌, ◌-◌, ◌*◌, ◌/◌, ◌≤◌}
use native.Mathlib.Nat.{add_assoc}
use native.Mathlib.Omega.{arith}
use borrow.Author.Tests.{eqb-true, eqb-false, le-ltb}
use lib.Dec.{eqb}
use lib.ListN.{length, get_or, drop}
use lib.Seq.{get_or-drop, drop-cons}
use Rattle.word.specs.Bytes.{word_at}
use Rattle.word.specs.Choice.{by_test}
use Rattle.section.specs.Section.{half_at, version_of, count_of, firsts, refusal_of, opening_of, here_at, places_of}
use Rattle.section.proofs.Accepted.{opening, holds_none}
use Rattle.section.proofs.Firsts.{same_firsts}

-- mark, base and the bytes of the words
pub record Parts : Type 0 where
  pub m₀ : ℕ
  pub m₁ : ℕ
  pub m₂ : ℕ
  pub b₀ : ℕ
  pub b₁ : ℕ
  pub b₂ : ℕ
  pub b₃ : ℕ
  pub rest : List ℕ

abbrev pub one : Parts → List ℕ
one p = p.m₀ ∷ p.m₁ ∷ p.m₂ ∷ 1 ∷ 0 ∷ p.b₀ ∷ p.b₁ ∷ p.b₂ ∷ p.b₃ ∷ p.rest

abbrev pub two : Parts → List ℕ
two p = p.m₀ ∷ p.m₁ ∷ p.m₂ ∷ 2 ∷ 0 ∷ p.b₀ ∷ p.b₁ ∷ p.b₂ ∷ p.b₃ ∷ 0 ∷ 0 ∷ p.rest

-- n bytes from a place on
abbrev front : ℕ → ℕ → List ℕ → List ℕ
front from zero s = []
front from (suc n) s = get_or s from 0 ∷ front (suc from) n s

front_is : (n from : ℕ) (s : List ℕ) → from + n ≤ length s → front from n s ++ drop (from + n) s ≡ drop from s
front_is zero from s h = ap (λ (k : ℕ). drop k s) {x = from + 0} {y = from} (omega arith)
front_is (suc n) from s h =
    ap (λ (k : ℕ). get_or s from 0 ∷ (front (suc from) n s ++ drop k s)) {x = from + suc n} {y = suc from + n} (omega arith)
    ∙ ap (λ (l : List ℕ). get_or s from 0 ∷ l) (front_is n (suc from) s (omega arith))
    ∙ sym (drop-cons s from 0 (omega arith))

abbrev parts_of : ℕ → List ℕ → Parts
parts_of start s = record {
  m₀ = get_or s 0 0;
  m₁ = get_or s 1 0;
  m₂ = get_or s 2 0;
  b₀ = get_or s 5 0;
  b₁ = get_or s 6 0;
  b₂ = get_or s 7 0;
  b₃ = get_or s 8 0;
  rest = drop start s;
}

-- a section of version 1 is made of such parts, and so is one of version 2 that has no ranges
pub is_one : (s : List ℕ) → 9 ≤ length s → version_of s ≡ 1 → (p : Parts) × (s ≡ one p)
is_one s long version =
    let low : get_or s 3 0 ≡ 1 = omega arith in
    let high : get_or s 4 0 ≡ 0 = omega arith in
    (parts_of 9 s, sym (front_is 9 0 s long) ∙ rw (low, high))

pub is_two : (s : List ℕ) → 11 ≤ length s → version_of s ≡ 2 → half_at s 9 ≡ 0 → (p : Parts) × (s ≡ two p)
is_two s long version none =
    let low : get_or s 3 0 ≡ 2 = omega arith in
    let high : get_or s 4 0 ≡ 0 = omega arith in
    let zero₀ : get_or s 9 0 ≡ 0 = omega arith in
    let zero₁ : get_or s 10 0 ≡ 0 = omega arith in
    (parts_of 11 s, sym (front_is 11 0 s long) ∙ rw (low, high, zero₀, zero₁))

-- the words from a place on, as those of what is left there
word_after : (n : ℕ) (s : List ℕ) (at : ℕ) → word_at s (n + at) ≡ word_at (drop n s) at
word_after n s at = simp (add_assoc, get_or-drop)

module _ (p : Parts) where
  count_one : count_of (one p) ≡ length p.rest / 4
  count_one = ap (λ (n : ℕ). n / 4) {x = length (one p) - 9} {y = length p.rest} (omega arith)

  count_two : count_of (two p) ≡ length p.rest / 4
  count_two = ap (λ (n : ℕ). n / 4) {x = length (two p) - 11} {y = length p.rest} (omega arith)

  pub same_count : count_of (two p) ≡ count_of (one p)
  same_count = count_two ∙ sym count_one

  pub same_refusal : refusal_of (two p) ≡ refusal_of (one p)
  same_refusal = unfold refusal_of in
      let left : length (two p) - 11 ≡ length p.rest = omega arith in
      let left' : length (one p) - 9 ≡ length p.rest = omega arith in
      simp (
        le-ltb (length (two p)) 9 (omega arith),
        le-ltb (length (one p)) 9 (omega arith),
        le-ltb (length (two p)) 11 (omega arith),
        left,
        left',
      )

  pub same_places : places_of (two p) ≡ places_of (one p)
  same_places =
      by_test (eqb (refusal_of (one p)) 0)
      (λ e. accepted (eqb-true (refusal_of (one p)) 0 e))
      (λ e. refused (eqb-false (refusal_of (one p)) 0 e))
    where
      at_each : refusal_of (one p) ≡ 0 → (place : ℕ) → here_at (two p) (opening_of (two p)) place ≡ here_at (one p) (opening_of (one p)) place
      at_each ok place =
          rw (opening (one p) ok, opening (two p) (same_refusal ∙ ok), word_after 11 (two p) (4 * place), word_after 9 (one p) (4 * place))

      accepted : refusal_of (one p) ≡ 0 → places_of (two p) ≡ places_of (one p)
      accepted ok = unfold places_of in
          same_firsts (opening_of (two p)).count (λ place h. at_each ok place)
          ∙ ap (λ (n : ℕ). firsts (here_at (one p) (opening_of (one p))) n) {x = (opening_of (two p)).count} {y = (opening_of (one p)).count}
          (rw (opening (one p) ok, opening (two p) (same_refusal ∙ ok)) same_count)

      refused : (refusal_of (one p) ≡ 0 → ⊥) → places_of (two p) ≡ places_of (one p)
      refused bad = unfold places_of in rw (holds_none (one p) bad, holds_none (two p) (λ z. bad (sym same_refusal ∙ z)))
