-- A row of tests, the first one first: it goes on after one that passes, and ends at one that fails. Assumes nothing.
use mathlib.Core.Path.{◌≡◌, refl, sym, ap, ◌∙◌}
use mathlib.Core.Bool.{Bool, true, false}
use borrow.Author.Tests.{eq-eqb, ne_eqb}
use Prim.Native.Nat.{ℕ}
use lib.Dec.{eqb}
use Rattle.word.specs.Choice.{both}

pub passed : {t u r : Bool} → t ≡ true → r ≡ u → r ≡ both t u
passed {u = u} h e = e ∙ sym (ap (λ (t : Bool). both t u) h)

pub failed : {t : Bool} (u : Bool) → t ≡ false → false ≡ both t u
failed u h = sym (ap (λ (t : Bool). both t u) h)

pub equal : {a b : ℕ} {u r : Bool} → a ≡ b → r ≡ u → r ≡ both (eqb a b) u
equal {a = a} {b = b} h e = passed (eq-eqb a b h) e

pub unequal : {a b : ℕ} (u : Bool) → (a ≡ b → ⊥) → false ≡ both (eqb a b) u
unequal {a = a} {b = b} u h = failed u (ne_eqb a b h)

pub last : (t : Bool) → t ≡ both t true
last true = refl
last false = refl
