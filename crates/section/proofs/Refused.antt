-- An answer that is refused with a number, or accepted where the number is 0. Assumes nothing.
use mathlib.Core.Path.{◌≡◌, refl, sym, ap, ◌∙◌}
use mathlib.Core.Logic.{◌⊎◌, inl, inr, ⊎_elim}
use Prim.Native.Nat.{ℕ}
use borrow.Author.Tests.{eqb-true, eqb-false, ne_eqb}
use lib.Dec.{eqb}
use Rattle.std.specs.Prelude.{Result, Ok, Err}
use Rattle.word.specs.Choice.{pick, by_test}
use Rattle.word.specs.Refusal.{number, numbered, numbered_number, not_refused, refused_with, refusing}
use Rattle.word.specs.declared.refusal.Refusal.{Refusal}

-- none, or a number of the table of refusals
abbrev pub InTable : ℕ → Type 0
InTable n = (n ≡ 0) ⊎ (number (numbered n) ≡ n)

-- as every answer is refused with
pub in_table : {A : Type 0} (x : Result A Refusal) → InTable (refused_with x)
in_table (Ok x) = inl refl
in_table (Err r) = inr (ap number (numbered_number r))

module _ {A : Type 0} (x : A) (n : ℕ) where
  pub refused_by : (r : Refusal) → number r ≡ n → Err r ≡ pick (eqb n 0) (Ok x) (refusing n)
  refused_by r is = rw (← is) (simp (ne_eqb (number r) 0 (λ none. not_refused r none)) (ap Err (sym (numbered_number r))))

  pub accepted_where : 0 ≡ n → Ok x ≡ pick (eqb n 0) (Ok x) (refusing n)
  accepted_where none = rw (← none)

  pub answers_with : InTable n → refused_with (pick (eqb n 0) (Ok x) (refusing n)) ≡ n
  answers_with is =
      by_test (eqb n 0)
      (λ e. simp e (sym (eqb-true n 0 e)))
      (λ e. simp e (⊎_elim (λ (none : n ≡ 0). absurd (eqb-false n 0 e none)) (λ (some : number (numbered n) ≡ n). some) is))

-- an answer without a value is told by its number
pub one_answer : (a b : Result (Unit {0}) Refusal) → refused_with a ≡ refused_with b → a ≡ b
one_answer (Ok x) (Ok y) e = refl
one_answer (Ok x) (Err r) e = not_refused r (sym e)
one_answer (Err r) (Ok y) e = not_refused r e
one_answer (Err r) (Err r') e = ap Err (sym (numbered_number r) ∙ ap numbered e ∙ numbered_number r')

-- a refusal is what is refused with its number
pub as_refusing : {A : Type 0} (r : Refusal) (n : ℕ) → number r ≡ n → Err r ≡ refusing {A = A} n
as_refusing r n is = ap Err (sym (numbered_number r) ∙ ap numbered is)
