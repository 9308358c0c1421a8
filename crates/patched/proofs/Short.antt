-- What is given is a length that has 32 bits. Assumes nothing.
use mathlib.Core.Path.{◌≡◌}
use mathlib.Core.List.{List}
use Prim.Native.Nat.{ℕ, ◌^◌, ◌<◌}
use native.Mathlib.Omega.{arith}
use borrow.Author.Tests.{eqb-true, eqb-false}
use lib.Dec.{eqb, leb}
use lib.ListN.{length}
use Rattle.word.specs.Choice.{tested, by_test}
use Rattle.text.specs.Fits.{Written, len_in, answer_of}
use Rattle.section.specs.Section.{refusal_of}
use Rattle.section.proofs.Accepted.{section_short}
use Rattle.patched.specs.Patched.{patched_of, patched_refusal, patched_given}
use Rattle.patched.proofs.Accepts.{patched_size}

-- both are accepted
pub accepted : (s p : List ℕ) → patched_refusal s p ≡ 0 → (refusal_of s ≡ 0) × (refusal_of p ≡ 0)
accepted s p ok = unfold patched_refusal in
    by_test (eqb (refusal_of s) 0)
    (λ e. (eqb-true (refusal_of s) 0 e, simp e at ok))
    (λ e. let same : refusal_of s ≡ 0 = simp e at ok in absurd (eqb-false (refusal_of s) 0 e same))

pub given_short : (s p out : List ℕ) → len_in (patched_given s p out) < 2 ^ 32
given_short s p out = unfold patched_given answer_of in
    tested (λ (w : Written). len_in w < 2 ^ 32) (eqb (patched_refusal s p) 0)
    (λ e.
    let ok = (accepted s p (eqb-true (patched_refusal s p) 0 e)).0 in
    tested (λ (w : Written). len_in w < 2 ^ 32) (leb (length (patched_of s p)) (length out))
    (λ f. omega (arith, patched_size s ok p, section_short s ok))
    (λ f. omega arith))
    (λ e. omega arith)
