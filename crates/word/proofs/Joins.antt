-- A word put together from its fields in 32 bits, highest first, is the join of the fields as far as it fits. Assumes nothing.
use Rattle.std.proofs.Common.{◌≡◌, ℕ, zero, suc, ◌+◌, ◌*◌, ◌/◌, ◌%◌, ◌^◌, ◌<◌, T, ltb, List, [], ◌∷◌, length, get_or, drop, sym, ap, ◌∙◌, add_assoc, add-mul, div-add-mod', mul_right_comm, arith, ltb→lt, drop-cons}
use Rattle.std.proofs.Math.Nat.{mul-add-mod_self_right}
use Rattle.word.specs.Every.{left, right}
use Rattle.word.specs.Layout.{join, narrow}

pub narrow_at : (ks : List ℕ) → T (narrow ks) → (n : ℕ) → get_or ks n 0 < 32
narrow_at [] t n = omega arith
narrow_at (k ∷ ks) t zero = ltb→lt k 32 (left (ltb k 32) (narrow ks) t)
narrow_at (k ∷ ks) t (suc n) = narrow_at ks (right (ltb k 32) (narrow ks) t) n

-- a multiple of M in x is a multiple of M in x * m
spread : (q r m M v : ℕ) → (q * M + r) * m + v ≡ q * m * M + (r * m + v)
spread q r m M v = rw (add-mul, mul_right_comm q M m, add_assoc)

-- what does not fit above may be lost first
pub lost : (x m M v : ℕ) → (x % M * m + v) % M ≡ (x * m + v) % M
lost x m M v =
    sym (ap (λ (n : ℕ). (n * m + v) % M) (sym (div-add-mod' x M)) ∙ rw (spread (x / M) (x % M) m M v)
    (mul-add-mod_self_right (x / M * m) M (x % M * m + v)))

pub one_more : (ks vs : List ℕ) (n w : ℕ) → n < length ks → n < length vs → w ≡ join (drop (suc n) ks) (drop (suc n) vs) % 2 ^ 32
    → (w * 2 ^ get_or ks n 0 + get_or vs n 0) % 2 ^ 32 ≡ join (drop n ks) (drop n vs) % 2 ^ 32
one_more ks vs n w h h' e = rw (drop-cons ks n 0, drop-cons vs n 0, e) (lost _ _ (2 ^ 32) _)
