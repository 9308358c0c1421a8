-- A converted section: it is accepted, holds what the section held, and leads back to it; in its own version it is the section itself.
-- Assumes nothing.
use mathlib.Core.Path.{◌≡◌, refl, ap, sym, ◌∙◌, subst}
use mathlib.Core.List.{List}
use mathlib.Core.Logic.{⊎_elim}
use Prim.Native.Nat.{ℕ, ◌+◌, ◌*◌, ◌≤◌}
use native.Mathlib.Omega.{arith}
use borrow.Author.Tests.{eqb-true, eqb-false, eq-eqb, ne_eqb}
use lib.Dec.{eqb}
use lib.ListN.{length}
use Rattle.word.specs.Choice.{by_test}
use Rattle.section.specs.Section.{half_at, version_of, base_of, range_count, start_of, refusal_of, places_of}
use Rattle.section.proofs.Accepted.{accepted, start_least}
use Rattle.section_convert.specs.Convert.{number_of, own_of, converted_of, conversion_refusal}
use Rattle.section_convert.specs.declared.Target.{Target}
use Rattle.section_convert.specs.declared.Target.TheVariants.{One, Two}
use Rattle.section_convert.proofs.Parts as Parts
use Rattle.section_convert.proofs.Parts.{Parts, one, two, is_one, is_two}

-- what no refusal says
pub convertible : (target : Target) (s : List ℕ) → conversion_refusal target s ≡ 0 → refusal_of s ≡ 0
unfolding conversion_refusal
convertible One s ok =
    by_test (eqb (refusal_of s) 0)
    (λ e. eqb-true (refusal_of s) 0 e)
    (λ e. simp e at ok)
convertible Two s ok = ok

no_ranges : (s : List ℕ) → conversion_refusal One s ≡ 0 → range_count s ≡ 0
unfolding conversion_refusal
no_ranges s ok =
    by_test (eqb (range_count s) 0)
    (λ e. eqb-true (range_count s) 0 e)
    (λ e. absurd (let z : ⊥ = omega (arith, simp (eq-eqb (refusal_of s) 0 (convertible One s ok), e) at ok) in z))

pub back_possible : (s : List ℕ) → refusal_of s ≡ 0 → range_count s ≡ 0 → conversion_refusal One s ≡ 0
back_possible s ok none = unfold conversion_refusal in simp (eq-eqb (refusal_of s) 0 ok, eq-eqb (range_count s) 0 none)

-- "to its own version it copies"
pub copies : (target : Target) (s : List ℕ) → version_of s ≡ number_of target → converted_of target s ≡ s
unfolding converted_of
copies One s own = simp (eq-eqb (version_of s) 1 own)
copies Two s own = simp (eq-eqb (version_of s) 2 own)

module _ (p : Parts) where
  widens : converted_of Two (one p) ≡ two p
  widens = unfold converted_of in refl

  narrows : converted_of One (two p) ≡ one p
  narrows = unfold converted_of in refl

-- a section that is accepted has one version or the other
module _ (s : List ℕ) (ok : refusal_of s ≡ 0) where
  pub is_first : (version_of s ≡ 2 → ⊥) → version_of s ≡ 1
  is_first other = ⊎_elim (λ e. e) (λ e. absurd (other e)) (accepted s ok).version

  pub is_second : (version_of s ≡ 1 → ⊥) → version_of s ≡ 2
  is_second other = ⊎_elim (λ e. absurd (other e)) (λ e. e) (accepted s ok).version

  pub own_version : version_of s ≡ number_of (own_of s)
  own_version =
      ⊎_elim
      (λ e. rw (eq-eqb (version_of s) 1 e) e)
      (λ e. rw (ne_eqb (version_of s) 1 (λ z. omega (arith, e, z))) e)
      (accepted s ok).version

-- by the three ways that a conversion goes: a copy, or from one version to the other
by_way : (target : Target) (s : List ℕ) → conversion_refusal target s ≡ 0 → (P : List ℕ → List ℕ → Type 0) → (version_of s ≡ number_of target → P s s)
    → (target ≡ Two → (p : Parts) → P (one p) (two p)) → (target ≡ One → (p : Parts) → P (two p) (one p)) → P s (converted_of target s)
by_way One s ok P copy wide narrow =
    by_test (eqb (version_of s) 1)
    (λ e. let own = eqb-true (version_of s) 1 e in rw (copies One s own) (copy own))
    (λ e. from (is_second s (convertible One s ok) (eqb-false (version_of s) 1 e)))
  where
    from : version_of s ≡ 2 → P s (converted_of One s)
    from version =
        let test = eq-eqb (version_of s) 2 version in
        let long = (accepted s (convertible One s ok)).long in
        let start : start_of s ≡ 11 + 8 * half_at s 9 = simp test in
        let none : half_at s 9 ≡ 0 = simp test at (no_ranges s ok) in
        let is = is_two s (omega arith) version none in
        subst (λ (x : List ℕ). P x (converted_of One x)) (sym is.1) (rw (narrows is.0) (narrow refl is.0))
by_way Two s ok P copy wide narrow =
    by_test (eqb (version_of s) 2)
    (λ e. let own = eqb-true (version_of s) 2 e in rw (copies Two s own) (copy own))
    (λ e. from (is_first s (convertible Two s ok) (eqb-false (version_of s) 2 e)))
  where
    from : version_of s ≡ 1 → P s (converted_of Two s)
    from version =
        let long = (accepted s (convertible Two s ok)).long in
        let is = is_one s (omega (arith, start_least s)) version in
        subst (λ (x : List ℕ). P x (converted_of Two x)) (sym is.1) (rw (widens is.0) (wide refl is.0))

module _ (target : Target) (s : List ℕ) (ok : conversion_refusal target s ≡ 0) where
  pub converted_accepted : refusal_of (converted_of target s) ≡ 0
  converted_accepted =
      by_way target s ok (λ x y. refusal_of x ≡ 0 → refusal_of y ≡ 0)
      (λ own z. z)
      (λ e p z. Parts.same_refusal p ∙ z)
      (λ e p z. sym (Parts.same_refusal p) ∙ z)
      (convertible target s ok)

  pub converted_version : version_of (converted_of target s) ≡ number_of target
  converted_version =
      by_way target s ok (λ x y. version_of y ≡ number_of target)
      (λ own. own)
      (λ e p. sym (ap number_of e))
      (λ e p. sym (ap number_of e))

  pub same_base : base_of (converted_of target s) ≡ base_of s
  same_base = by_way target s ok (λ x y. base_of y ≡ base_of x) (λ own. refl) (λ e p. refl) (λ e p. refl)

  pub same_places : places_of (converted_of target s) ≡ places_of s
  same_places =
      by_way target s ok (λ x y. places_of y ≡ places_of x)
      (λ own. refl)
      (λ e p. Parts.same_places p)
      (λ e p. sym (Parts.same_places p))

  -- "there and back gives the same bytes"
  pub back : converted_of (own_of s) (converted_of target s) ≡ s
  back =
      by_way target s ok (λ x y. converted_of (own_of x) y ≡ x)
      (λ own. copies (own_of s) s (own_version s (convertible target s ok)))
      (λ e p. narrows p)
      (λ e p. widens p)

  pub back_accepted : conversion_refusal (own_of s) (converted_of target s) ≡ 0
  unfolding conversion_refusal
  back_accepted =
      by_way target s ok (λ x y. refusal_of x ≡ 0 → conversion_refusal (own_of x) y ≡ 0)
      (λ own z. again s z)
      (λ e p z. simp (Parts.same_refusal p, z))
      (λ e p z. sym (Parts.same_refusal p) ∙ z)
      (convertible target s ok)
    where
      again : (s : List ℕ) → refusal_of s ≡ 0 → conversion_refusal (own_of s) s ≡ 0
      again s z =
          ⊎_elim
          (λ e. rw (eq-eqb (version_of s) 1 e) (simp (eq-eqb (refusal_of s) 0 z, ne_eqb (version_of s) 2 (λ two. omega (arith, e, two)))))
          (λ e. rw (ne_eqb (version_of s) 1 (λ one. omega (arith, e, one))) z)
          (accepted s z).version

  pub converted_short : length (converted_of target s) ≤ 2 + length s
  converted_short = by_way target s ok (λ x y. length y ≤ 2 + length x) (λ own. omega arith) (λ e p. omega arith) (λ e p. omega arith)

-- "back is possible only with none"
pub with_ranges : (s : List ℕ) → refusal_of s ≡ 0 → (range_count s ≡ 0 → ⊥) → conversion_refusal One s ≡ 12
with_ranges s ok some = unfold conversion_refusal in simp (eq-eqb (refusal_of s) 0 ok, ne_eqb (range_count s) 0 some)

pub refused_section : (target : Target) (s : List ℕ) → (refusal_of s ≡ 0 → ⊥) → conversion_refusal target s ≡ refusal_of s
unfolding conversion_refusal
refused_section One s bad = simp (ne_eqb (refusal_of s) 0 bad)
refused_section Two s bad = refl
