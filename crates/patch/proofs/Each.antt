-- What holds at each of so many numbers, and what does not. Assumes nothing.
use mathlib.Core.Path.{◌≡◌, refl, ap, sym, ◌∙◌}
use mathlib.Core.Bool.{Bool, true, false, true≢false}
use Prim.Native.Nat.{ℕ, zero, suc, ◌+◌, ◌<◌}
use native.Mathlib.Omega.{arith}
use Rattle.word.specs.Choice.{by_test, parts}
use Rattle.word.specs.Every.{every}

module _ (f : ℕ → Bool) where
  pub each : (n i : ℕ) → every f i n ≡ true → (k : ℕ) → k < n → f (i + k) ≡ true
  each zero i e k h = absurd (let z : ⊥ = omega arith in z)
  each (suc n) i e zero h = ap f {x = i + 0} {y = i} (omega arith) ∙ (parts (f i) (every f (suc i) n) e).0
  each (suc n) i e (suc k) h =
      ap f {x = i + suc k} {y = suc i + k} (omega arith) ∙ each n (suc i) (parts (f i) (every f (suc i) n) e).1 k (omega arith)

  pub all : (n i : ℕ) → ((k : ℕ) → k < n → f (i + k) ≡ true) → every f i n ≡ true
  all zero i h = refl
  all (suc n) i h =
      let first : f i ≡ true = ap f {x = i} {y = i + 0} (omega arith) ∙ h 0 (omega arith) in
      rw first (all n (suc i) (λ k lt. ap f {x = suc i + k} {y = i + suc k} (omega arith) ∙ h (suc k) (omega arith)))

  pub not_all : (n i k : ℕ) → k < n → f (i + k) ≡ false → every f i n ≡ false
  not_all n i k h e =
      by_test (every f i n)
      (λ t. absurd (true≢false (sym (each n i t k h) ∙ e)))
      (λ t. t)
