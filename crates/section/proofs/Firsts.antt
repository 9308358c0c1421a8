-- What a function gives for the first numbers, as a list: how many there are, each of them, and the next. Assumes nothing.
use mathlib.Core.Path.{◌≡◌, refl, ap, ◌∙◌}
use mathlib.Core.List.{[], ◌∷◌}
use Prim.Native.Nat.{ℕ, zero, suc, ◌+◌, ◌<◌, ◌≤◌}
use native.Mathlib.Numerals.{add-one}
use native.Mathlib.Omega.{arith}
use borrow.Author.Tests.{ltb-true, ltb-false}
use lib.Dec.{ltb}
use lib.ListN.{length, get_or, drop, length-append, drop_of_length-le, get_or-append}
use lib.Seq.{get_or_at, drop-cons}
use Rattle.word.specs.Choice.{by_test}
use Rattle.section.specs.Section.{firsts}

module _ {A : Type 0} (at : ℕ → A) where
  pub so_many : (n : ℕ) → length (firsts at n) ≡ n
  so_many zero = refl
  so_many (suc n) = rw (length-append (firsts at n) (at n ∷ []), so_many n) (add-one n)

  pub each : (d : A) (n i : ℕ) → i < n → get_or (firsts at n) i d ≡ at i
  each d zero i h = absurd (let z : ⊥ = omega arith in z)
  each d (suc n) i h =
      by_test (ltb i n)
      (λ e. get_or-append (firsts at n) (at n ∷ []) d i (omega (arith, so_many n, ltb-true i n e)) ∙ each d n i (ltb-true i n e))
      (λ e.
      let last : n ≡ i = omega (arith, ltb-false i n e) in
      get_or_at (firsts at n) (at n) [] d i (so_many n ∙ last) ∙ ap at last)

  -- what is left before number i, and after the last
  pub next_of : (n i : ℕ) → i < n → drop i (firsts at n) ≡ at i ∷ drop (i + 1) (firsts at n)
  next_of n i h =
      rw (add-one i)
      (drop-cons (firsts at n) i (at i) (omega (arith, so_many n)) ∙ ap (λ (x : A). x ∷ drop (suc i) (firsts at n)) (each (at i) n i h))

  pub none_left : (n i : ℕ) → n ≤ i → drop i (firsts at n) ≡ []
  none_left n i h = drop_of_length-le (firsts at n) {i = i} (omega (arith, so_many n))

-- functions that agree on the first numbers give the same for them
pub same_firsts : {A : Type 0} {f g : ℕ → A} (n : ℕ) → ((i : ℕ) → i < n → f i ≡ g i) → firsts f n ≡ firsts g n
same_firsts zero same = refl
same_firsts (suc n) same = rw (same_firsts n (λ i h. same i (omega arith)), same n (omega arith))
