-- Numbers that are not there. Assumes nothing.
use mathlib.Core.Path.{◌≡◌, refl, sym}
use mathlib.Core.Bool.{true, false}
use mathlib.Core.List.{List, [], ◌∷◌}
use mathlib.Core.Logic.{⊎_elim}
use Prim.Native.Nat.{ℕ, zero, suc, ◌/◌, ◌%◌, ◌≤◌, ◌<◌}
use native.Mathlib.Omega.{arith}
use native.Mathlib.Nat.{zero-div}
use borrow.Author.Tests.{ne_eqb}
use lib.Dec.{eqb}
use lib.ListN.{length, get_or, get_or-eq_default}
use Rattle.rule_runs.proofs.Tests.{either_way, not_both}
use Rattle.rule_places.specs.Coded.{has, flags_at, target_at, TARGET}

none : (b : ℕ) → 0 / b ≡ 0
none b = zero-div b

nothing : (b : ℕ) → false ≡ eqb (0 / b % 2) 1
nothing b = sym (ne_eqb (0 / b % 2) 1 (λ (e : 0 / b % 2 ≡ 1). let z : ⊥ = omega (arith, none b) in z))

-- behind the last place no flag is set
pub no_flag : (flags : List ℕ) (p b : ℕ) → length flags ≤ p → false ≡ has (flags_at flags p) b
no_flag flags p b h = rw (get_or-eq_default flags 0 {n = p} h) (nothing b)

-- so a place with a flag is inside
pub flag_inside : (flags : List ℕ) (p b : ℕ) → has (flags_at flags p) b ≡ true → p < length flags
flag_inside flags p b e =
    ⊎_elim (λ (l : length flags ≤ p). not_both _ e (sym (no_flag flags p b l))) (λ (l : p < length flags). l) (either_way (length flags) p)

-- what stands in a list does not depend on what is read behind it
pub same_default : (l : List ℕ) (i a b : ℕ) → i < length l → get_or l i a ≡ get_or l i b
same_default [] i a b h = absurd (let z : ⊥ = omega arith in z)
same_default (x ∷ l) zero a b h = refl
same_default (x ∷ l) (suc i) a b h = same_default l i a b (omega arith)

-- so what holds of each place holds
pub all_below : (flags targets : List ℕ)
    → ((p : ℕ) → p < length flags → has (flags_at flags p) TARGET ≡ true → target_at flags targets p < length flags)
    → (p : ℕ) → has (flags_at flags p) TARGET ≡ true → target_at flags targets p < length flags
all_below flags targets h p e = h p (flag_inside flags p TARGET e) e
