-- A claim about every number below n, from one test that computes. Assumes nothing.
use Rattle.std.proofs.Common.{◌∙◌, subst, sym, add-zero, zero-add, add-suc, suc-add, le_of_suc-le-suc, not-suc-le-zero}
use Rattle.std.specs.Prelude.{ℕ, zero, suc, ◌+◌, ◌<◌, Bool, true, false, T}
use Rattle.word.specs.Choice.{both}

pub left : (a b : Bool) → T (both a b) → T a
left true b t = tt
left false b t = t

pub right : (a b : Bool) → T (both a b) → T b
right true b t = t
right false b t = absurd t

-- f holds at the n numbers from i on
abbrev pub every : (ℕ → Bool) → ℕ → ℕ → Bool
every f i zero = true
every f i (suc n) = both (f i) (every f (suc i) n)

from : (f : ℕ → Bool) (n i : ℕ) → T (every f i n) → (k : ℕ) → k < n → T (f (i + k))
from f zero i t k h = absurd (not-suc-le-zero h)
from f (suc n) i t zero h = subst (λ (m : ℕ). T (f m)) (sym (add-zero i)) (left (f i) (every f (suc i) n) t)
from f (suc n) i t (suc k) h =
    subst (λ (m : ℕ). T (f m)) (suc-add i k ∙ sym (add-suc i k))
    (from f n (suc i) (right (f i) (every f (suc i) n) t) k (le_of_suc-le-suc h))

pub at_each : (f : ℕ → Bool) (n : ℕ) → T (every f 0 n) → (k : ℕ) → k < n → T (f k)
at_each f n t k h = subst (λ (m : ℕ). T (f m)) (zero-add k) (from f n 0 t k h)
