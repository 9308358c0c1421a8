-- A reader that starts at the first place and goes on n times gives what stands at place n, or the end. Assumes nothing.
use mathlib.Core.Path.{◌≡◌, sym, ◌∙◌}
use mathlib.Core.List.{List}
use Prim.Native.Nat.{ℕ, zero, suc, ◌+◌}
use native.Mathlib.Numerals.{add-one}
use native.Mathlib.Omega.{arith}
use borrow.Author.Tests.{ltb-true, ltb-false, le-ltb}
use lib.Dec.{ltb}
use lib.ListN.{length}
use Rattle.word.specs.Choice.{pick, by_test}
use Rattle.section.specs.Section.{places_of, here_of, step_of}
use Rattle.section.proofs.Places.{at_end}

-- n, or k if that is less
abbrev least : ℕ → ℕ → ℕ
least k n = pick (ltb n k) n k

module _ (k : ℕ) where
  starts : 0 ≡ least k 0
  starts = by_test (ltb 0 k) (λ e. simp e) (λ e. simp e (omega (arith, ltb-false 0 k e)))

  goes_on : (n : ℕ) → pick (ltb (least k n) k) (least k n + 1) (least k n) ≡ least k (suc n)
  goes_on n =
      by_test (ltb n k)
      (λ e. by_test (ltb (suc n) k)
      (λ f. simp (e, f) (add-one n))
      (λ f. simp (e, f) (omega (arith, ltb-true n k e, ltb-false (suc n) k f))))
      (λ e. simp (e, le-ltb k k (omega arith), le-ltb (suc n) k (omega (arith, ltb-false n k e))))

module _ (s : List ℕ) where
  -- the place of a reader that has gone on n times
  abbrev pub reached : ℕ → ℕ
  reached zero = 0
  reached (suc n) = (step_of s (reached n)).after

  stands : (n : ℕ) → reached n ≡ least (length (places_of s)) n
  stands zero = starts (length (places_of s))
  stands (suc n) = rw (stands n) (goes_on (length (places_of s)) n)

  pub gives_each : (n : ℕ) → (step_of s (reached n)).here ≡ here_of s n
  gives_each n =
      rw (stands n)
      (by_test (ltb n (length (places_of s)))
      (λ e. simp e)
      (λ e. simp e (at_end s (omega arith) ∙ sym (at_end s (omega (arith, ltb-false n (length (places_of s)) e))))))
