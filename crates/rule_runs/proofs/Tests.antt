-- Tests and what they show. Assumes nothing.
use mathlib.Core.Path.{◌≡◌, refl, sym, subst}
use mathlib.Core.Bool.{Bool, true, false}
use mathlib.Core.Logic.{◌⊎◌, inl, inr}
use Prim.Native.Nat.{ℕ, ◌≤◌, ◌<◌}
use borrow.Author.Tests.{leb-true, leb-false}
use lib.Dec.{T, leb}

pub by_test : (b : Bool) {A : Type 0} → (b ≡ true → A) → (b ≡ false → A) → A
by_test true passed failed = passed refl
by_test false passed failed = failed refl

pub true_false : {A : Type 0} → true ≡ false → A
true_false e = absurd (subst T e tt)

pub not_both : {A : Type 0} (b : Bool) → b ≡ true → b ≡ false → A
not_both true e f = true_false f
not_both false e f = true_false (sym e)

pub either_way : (k j : ℕ) → (k ≤ j) ⊎ (j < k)
either_way k j = by_test (leb k j) (λ e. inl (leb-true k j e)) (λ e. inr (leb-false k j e))
