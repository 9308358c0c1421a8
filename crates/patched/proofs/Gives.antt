-- What is given and left, from the checks and what is written. Assumes nothing.
use mathlib.Core.Path.{◌≡◌, refl, ◌∙◌}
use mathlib.Core.List.{List}
use Prim.Native.Nat.{ℕ}
use borrow.Author.Tests.{eq-eqb, ne_eqb}
use Rattle.std.specs.Prelude.{Err}
use Rattle.word.specs.Refusal.{not_refused}
use Rattle.word.specs.declared.refusal.Refusal.{Refusal}
use Rattle.text.specs.Fits.{Written}
use Rattle.section.proofs.Accepted.{same_refusal, section_refused as section_refused_lem}
use Rattle.section.proofs.Refused.{as_refusing}
use Rattle.text.proofs.Settled.{Settles}
use Rattle.section.specs.Section.{refusal_of, section_of}
use Rattle.patched.specs.Patched.{patched_of, patched_refusal, patched_given, patched_left}

abbrev pub Gives : List ℕ → List ℕ → List ℕ → Written → List ℕ → Type 0
Gives s p out r last = (r ≡ patched_given s p out) × (last ≡ patched_left s p out)

module _ (s p out : List ℕ) {r : Refusal} where
  pub section_refused : Err r ≡ section_of s → Gives s p out (Err r) out
  section_refused is = unfold patched_refusal patched_given patched_left in
      let own = section_refused_lem s is ∙ same_refusal s in
      simp (ne_eqb (refusal_of s) 0 (λ none. not_refused r (own ∙ none))) (as_refusing r _ own, refl)

  pub patch_refused : refusal_of s ≡ 0 → Err r ≡ section_of p → Gives s p out (Err r) out
  patch_refused ok is = unfold patched_refusal patched_given patched_left in
      let own = section_refused_lem p is ∙ same_refusal p in
      simp (eq-eqb (refusal_of s) 0 ok, ne_eqb (refusal_of p) 0 (λ none. not_refused r (own ∙ none))) (as_refusing r _ own, refl)

module _ (s p out : List ℕ) where
  module _ (ok : refusal_of s ≡ 0) where
    pub writes : refusal_of p ≡ 0 → {r : Written} {last : List ℕ} → Settles (patched_of s p) out r last → Gives s p out r last
    writes fine settled = unfold patched_refusal patched_given patched_left in
        simp (eq-eqb (refusal_of s) 0 ok, eq-eqb (refusal_of p) 0 fine) settled
