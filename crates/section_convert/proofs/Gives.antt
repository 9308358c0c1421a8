-- What a conversion gives and leaves, from what was opened and what is written. Assumes nothing.
use mathlib.Core.Path.{◌≡◌, refl, ap, sym, ◌∙◌}
use mathlib.Core.List.{List}
use Prim.Native.Nat.{ℕ, ◌≤◌}
use native.Mathlib.Omega.{arith}
use borrow.Author.Tests.{eq-eqb, ne_eqb}
use lib.ListN.{length}
use Rattle.std.specs.Prelude.{Ok, Err}
use Rattle.word.specs.Refusal.{number, numbered_number, not_refused, refused_with, refusing}
use Rattle.word.specs.declared.refusal.Refusal.{Refusal}
use Rattle.text.specs.Fits.{Written}
use Rattle.text.proofs.Settled.{Settles}
use Rattle.section.specs.Section.{version_of, range_count, refusal_of, opened_of}
use Rattle.section.specs.declared.Opened.{Opened}
use Rattle.section.proofs.Accepted.{accepted, start_least, start_two, opening, same_refusal, none_refused, is_opening}
use Rattle.section_convert.specs.Convert.{number_of, as_one, as_two, converted_of, conversion_refusal, given_of, left_of}
use Rattle.section_convert.specs.declared.Target.{Target}
use Rattle.section_convert.specs.declared.Target.TheVariants.{One, Two}
use Rattle.section_convert.proofs.Converts.{is_second, back_possible, copies, with_ranges, refused_section}

abbrev pub Gives : Target → List ℕ → List ℕ → Written → List ℕ → Type 0
Gives target s out r last = (r ≡ given_of target s out) × (last ≡ left_of target s out)

writes : (target : Target) (s out : List ℕ) {text last : List ℕ} {r : Written} → conversion_refusal target s ≡ 0 → converted_of target s ≡ text
    → Settles text out r last → Gives target s out r last
writes target s out ok is settled = unfold given_of left_of in simp (eq-eqb (conversion_refusal target s) 0 ok) (rw is settled)

refuses : (target : Target) (s out : List ℕ) {r : Written} (n : ℕ) → conversion_refusal target s ≡ n → (n ≡ 0 → ⊥) → r ≡ refusing n
    → Gives target s out r out
refuses target s out n is some gives = unfold given_of left_of in rw is (simp (ne_eqb n 0 some) (gives, refl))

-- a section that is refused
pub refused : (target : Target) (s out : List ℕ) {r : Refusal} → opened_of s ≡ Err r → Gives target s out (Err r) out
refused target s out {r = r} is =
    let same : number r ≡ refusal_of s = sym (ap refused_with is) ∙ same_refusal s in
    let bad : refusal_of s ≡ 0 → ⊥ = λ none. not_refused r (same ∙ none) in
    refuses target s out (number r) (refused_section target s bad ∙ sym same) (λ none. not_refused r none) (ap Err (sym (numbered_number r)))

-- a section that was opened
module _ (s : List ℕ) {o : Opened} (is : opened_of s ≡ Ok o) where
  is_accepted : refusal_of s ≡ 0
  is_accepted = none_refused s is

  ranges_are : o.ranges ≡ range_count s
  ranges_are = ap (λ (x : Opened). x.ranges) (is_opening s is ∙ opening s is_accepted)

  version_is : o.version ≡ version_of s
  version_is = ap (λ (x : Opened). x.version) (is_opening s is ∙ opening s is_accepted)

  pub nine : 9 ≤ length s
  nine = omega (arith, start_least s, (accepted s is_accepted).long)

  second : (o.version ≡ 1 → ⊥) → version_of s ≡ 2
  second other = is_second s is_accepted (λ z. other (version_is ∙ z))

  pub eleven : (o.version ≡ 1 → ⊥) → 11 ≤ length s
  eleven other = omega (arith, start_two s (second other), (accepted s is_accepted).long)

  module _ (out : List ℕ) {last : List ℕ} {r : Written} where
    pub copied : (target : Target) → (target ≡ One → o.ranges ≡ 0) → o.version ≡ number_of target → Settles s out r last → Gives target s out r last
    unfolding conversion_refusal
    copied One none own settled =
        writes One s out (back_possible s is_accepted (sym ranges_are ∙ none refl)) (copies One s (sym version_is ∙ own)) settled
    copied Two none own settled = writes Two s out is_accepted (copies Two s (sym version_is ∙ own)) settled

    pub as_one_lem : o.ranges ≡ 0 → (o.version ≡ 1 → ⊥) → Settles (as_one s) out r last → Gives One s out r last
    as_one_lem none other settled =
        writes One s out (back_possible s is_accepted (sym ranges_are ∙ none)) narrow settled
      where
        narrow : converted_of One s ≡ as_one s
        narrow = unfold converted_of in simp (ne_eqb (version_of s) 1 (λ z. other (version_is ∙ z)))

    pub as_two_lem : (o.version ≡ 2 → ⊥) → Settles (as_two s) out r last → Gives Two s out r last
    unfolding conversion_refusal converted_of
    as_two_lem other settled = writes Two s out is_accepted (simp (ne_eqb (version_of s) 2 (λ z. other (version_is ∙ z)))) settled

  pub too_many : (out : List ℕ) {r : Written} → (o.ranges ≡ 0 → ⊥) → r ≡ refusing 12 → Gives One s out r out
  too_many out some gives =
      refuses One s out 12 (with_ranges s is_accepted (λ z. some (ranges_are ∙ z))) (λ z. omega (arith, z)) gives
