-- A list that has a function's value at each of its places, from one test over the list. Assumes nothing.
use Rattle.std.specs.Prelude.{◌≡◌, Bool, true, List, [], ◌∷◌, ℕ, zero, suc, ◌+◌, ◌<◌, T, eqb, get_or, length}
use Rattle.std.proofs.Common.{◌∙◌, subst, sym, ap, add-zero, zero-add, add-suc, suc-add, le_of_suc-le-suc, not-suc-le-zero, eqb→eq}
use Rattle.word.specs.Choice.{both}
use Rattle.word.specs.Every.{left, right}

-- the list's entries are f's values from n on
abbrev pub lists : (ℕ → ℕ) → ℕ → List ℕ → Bool
lists f n [] = true
lists f n (x ∷ xs) = both (eqb x (f n)) (lists f (suc n) xs)

from : (f : ℕ → ℕ) (xs : List ℕ) (n d : ℕ) → T (lists f n xs) → (k : ℕ) → k < length xs → get_or xs k d ≡ f (n + k)
from f [] n d t k h = absurd (not-suc-le-zero h)
from f (x ∷ xs) n d t zero h = eqb→eq x (f n) (left (eqb x (f n)) (lists f (suc n) xs) t) ∙ ap f (sym (add-zero n))
from f (x ∷ xs) n d t (suc k) h =
    from f xs (suc n) d (right (eqb x (f n)) (lists f (suc n) xs) t) k (le_of_suc-le-suc h) ∙ ap f (suc-add n k ∙ sym (add-suc n k))

pub listed : (f : ℕ → ℕ) (xs : List ℕ) (d k : ℕ) → k < length xs → lists f 0 xs ≡ true → get_or xs k d ≡ f k
listed f xs d k h e = from f xs 0 d (subst T (sym e) tt) k h ∙ ap f (zero-add k)
