-- What is found, by the checks in their order. Assumes nothing.
use mathlib.Core.Path.{◌≡◌, sym}
use mathlib.Core.Bool.{true, false, not, true≢false}
use mathlib.Core.Logic.{◌⊎◌, inl, inr}
use Prim.Native.Nat.{ℕ, ◌+◌, ◌-◌, ◌^◌, ◌<◌, ◌≤◌}
use native.Mathlib.Omega.{arith}
use borrow.Author.Tests.{eqb-true, eqb-false, eq-eqb, ne_eqb, not-true, not-false}
use lib.Dec.{eqb}
use lib.ListN.{length}
use Rattle.word.specs.Choice.{tested, by_test}
use Rattle.word.specs.Every.{every}
use Rattle.patch.specs.Image.{Laid, has, in_patch, in_section, words_refusal}
use Rattle.patch.specs.Run.{Answer, held_of, found_of}
use Rattle.std.specs.Prelude.{Ok, Err}
use Rattle.word.specs.Refusal.{refusing}
use Rattle.patch.specs.declared.Found.TheVariants.{Patch, Section}
use Rattle.patch.proofs.Each.{each}
use Rattle.patch.proofs.Holders.{bounds}
use Rattle.patch.proofs.Words.{fit}

module _ (s p : Laid) (addr len : ℕ) where
  pub section_refused : (words_refusal s ≡ 0 → ⊥) → found_of s p addr len ≡ refusing (words_refusal s)
  section_refused bad = unfold found_of in simp (ne_eqb (words_refusal s) 0 bad)

  module _ (ok : words_refusal s ≡ 0) where
    pub patch_refused : (words_refusal p ≡ 0 → ⊥) → found_of s p addr len ≡ refusing (words_refusal p)
    patch_refused bad = unfold found_of in simp (eq-eqb (words_refusal s) 0 ok, ne_eqb (words_refusal p) 0 bad)

    pub none_refused : words_refusal p ≡ 0 → found_of s p addr len ≡ held_of s p addr len
    none_refused fine = unfold found_of in simp (eq-eqb (words_refusal s) 0 ok, eq-eqb (words_refusal p) 0 fine)

  pub empty_run : len ≡ 0 → held_of s p addr len ≡ refusing 14
  empty_run none = unfold held_of in simp (eq-eqb len 0 none)

  -- the run is empty, or neither holds all of it
  abbrev pub NotHeld : Type 0
  NotHeld = (len ≡ 0) ⊎ ((every (in_patch s p) addr len ≡ false) × (every (in_section s p) addr len ≡ false))

  -- by the ways that a run is found or refused
  pub by_found : (P : Answer → Type 0) → ((words_refusal s ≡ 0 → ⊥) → P (refusing (words_refusal s)))
      → (words_refusal s ≡ 0 → (words_refusal p ≡ 0 → ⊥) → P (refusing (words_refusal p)))
      → (words_refusal s ≡ 0 → words_refusal p ≡ 0 → NotHeld → P (refusing 14))
      → (words_refusal s ≡ 0 → words_refusal p ≡ 0 → 0 < len → every (in_patch s p) addr len ≡ true → P (Ok (Patch (addr - p.base))))
      → (words_refusal s ≡ 0 → words_refusal p ≡ 0 → 0 < len → every (in_section s p) addr len ≡ true → P (Ok (Section (addr - s.base))))
      → P (found_of s p addr len)
  by_found P bad bad' not-held in-patch in-section = unfold found_of held_of in
      tested P (not (eqb (words_refusal s) 0))
      (λ e. bad (eqb-false _ _ (not-true _ e)))
      (λ e. let ok = eqb-true _ _ (not-false _ e) in
      tested P (not (eqb (words_refusal p) 0))
      (λ e. bad' ok (eqb-false _ _ (not-true _ e)))
      (λ e. let fine = eqb-true _ _ (not-false _ e) in
      tested P (eqb len 0)
      (λ e. not-held ok fine (inl (eqb-true len 0 e)))
      (λ e. let some : 0 < len = omega (arith, eqb-false len 0 e) in
      tested P (every (in_patch s p) addr len)
      (λ e. in-patch ok fine some e)
      (λ e. tested P (every (in_section s p) addr len)
      (λ f. in-section ok fine some f)
      (λ f. not-held ok fine (inr (e, f)))))))

-- what a run's first and last bytes tell, where words have each of its bytes
pub lies_in : (l : Laid) (addr len : ℕ) → 0 < len → ((k : ℕ) → k < len → has l (addr + k) ≡ true)
    → (l.base ≤ addr) × (addr - l.base + len ≤ length l.words)
lies_in l addr len some held =
    let first = bounds l (addr + 0) (held 0 some) in
    let last = bounds l (addr + (len - 1)) (held (len - 1) (omega arith)) in
    (omega arith, omega arith)

-- an unhidden byte of the section is one of its bytes
pub shown : (s p : Laid) (a : ℕ) → in_section s p a ≡ true → (has p a ≡ false) × (has s a ≡ true)
shown s p a e =
    by_test (has p a)
    (λ hidden. absurd (true≢false (sym (rw hidden at e))))
    (λ free. (free, rw free at e))

module _ (s p : Laid) (addr len : ℕ) where
  -- what is found lies in the slice that holds it
  abbrev pub Lies : Answer → Type 0
  Lies (Ok (Patch place)) = place + len ≤ length p.words
  Lies (Ok (Section place)) = place + len ≤ length s.words
  Lies (Err r) = Unit {0}

  pub lies : Lies (found_of s p addr len)
  lies =
      by_found s p addr len Lies (λ bad. tt) (λ ok bad. tt) (λ ok fine not-held. tt)
      (λ ok fine some held. (lies_in p addr len some (each (in_patch s p) len addr held)).1)
      (λ ok fine some held. (lies_in s addr len some (λ k h. (shown s p (addr + k) (each (in_section s p) len addr held k h)).1)).1)

  -- and its place there has 14 bits
  abbrev pub Near : Answer → Type 0
  Near (Ok (Patch place)) = place < 2 ^ 14
  Near (Ok (Section place)) = place < 2 ^ 14
  Near (Err r) = Unit {0}

  pub near : Near (found_of s p addr len)
  near =
      by_found s p addr len Near (λ bad. tt) (λ ok bad. tt) (λ ok fine not-held. tt)
      (λ ok fine some held. omega (arith, (lies_in p addr len some (each (in_patch s p) len addr held)).1, (fit p fine).few))
      (λ ok fine some held.
      omega (
        arith,
        (lies_in s addr len some (λ k h. (shown s p (addr + k) (each (in_section s p) len addr held k h)).1)).1,
        (fit s ok).few,
      ))
