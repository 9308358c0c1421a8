-- The bits of a number as a list: one is read by a shift, set by a sum and cleared by a difference. Assumes nothing.
use mathlib.Core.Path.{◌≡◌, refl, sym, ap, ◌∙◌}
use mathlib.Core.Bool.{true, false}
use Prim.Native.Nat.{ℕ, zero, suc, ◌+◌, ◌*◌, ◌-◌, ◌/◌, ◌%◌, ◌^◌, ◌<◌}
use native.Mathlib.Nat.{div-div-eq-div-mul, mul_comm, one-mul, mod-eq_of_lt, pow-suc}
use native.Mathlib.Omega.{arith}
use lib.Dec.{eqb}
use lib.ListN.{length, get_or, set}
use lib.Pow.{pow-lt, pow_pos}
use Rattle.std.specs.Prelude.{max, min, bit_and, bit_or}
use Rattle.std.specs.Int.Bits.{or_step, and_step, or_zero_r}
use Rattle.walk_marks.specs.Marks.{bits_of}

pub length_bits : (k w : ℕ) → length (bits_of k w) ≡ k
unfolding bits_of
length_bits zero w = refl
length_bits (suc k) w = ap suc (length_bits k (w / 2))

half : (w i : ℕ) → w / 2 / 2 ^ i ≡ w / 2 ^ suc i
half w i = div-div-eq-div-mul w 2 (2 ^ i) ∙ ap (λ (m : ℕ). w / m) (mul_comm 2 (2 ^ i) ∙ sym (pow-suc 2 i))

-- bit i is what a shift by i brings to the lowest place
pub bit_at : (k w i : ℕ) → i < k → get_or (bits_of k w) i false ≡ eqb (w / 2 ^ i % 2) 1
unfolding bits_of
bit_at zero w i h = absurd (let z : ⊥ = omega arith in z)
bit_at (suc k) w zero h = let whole : w / 1 ≡ w = omega arith in rw whole
bit_at (suc k) w (suc i) h = bit_at k (w / 2) i (omega arith) ∙ rw (half w i)

-- one bit of a number or another: no other changes
pub bit_set : (k w i : ℕ) → i < k → bits_of k (bit_or w (2 ^ i)) ≡ set (bits_of k w) i true
unfolding bits_of
bit_set zero w i h = absurd (let z : ⊥ = omega arith in z)
bit_set (suc k) w zero h =
    let step : bit_or w 1 ≡ bit_or (w / 2) 0 * 2 + max (w % 2) 1 = or_step w 1 in
    let one : max (w % 2) 1 ≡ 1 = omega arith in
    let low : bit_or w 1 % 2 ≡ 1 = omega (arith, step, one) in
    let rest : bit_or w 1 / 2 ≡ w / 2 = omega (arith, step, one, or_zero_r (w / 2)) in
    rw (low, rest)
bit_set (suc k) w (suc i) h =
    let half : 2 ^ suc i / 2 ≡ 2 ^ i = omega (arith, pow-suc 2 i) in
    let even : 2 ^ suc i % 2 ≡ 0 = omega (arith, pow-suc 2 i) in
    let step : bit_or w (2 ^ suc i) ≡ bit_or (w / 2) (2 ^ i) * 2 + max (w % 2) 0 = rw (half, even) at (or_step w (2 ^ suc i)) in
    let own : max (w % 2) 0 ≡ w % 2 = omega arith in
    let low : bit_or w (2 ^ suc i) % 2 ≡ w % 2 = omega (arith, step, own) in
    let rest : bit_or w (2 ^ suc i) / 2 ≡ bit_or (w / 2) (2 ^ i) = omega (arith, step, own) in
    rw (low, rest, bit_set k (w / 2) i (omega arith))

-- the k lowest bits are those under a mask of k ones
masked : (k w : ℕ) → bits_of k (bit_and w (2 ^ k - 1)) ≡ bits_of k w
unfolding bits_of
masked zero w = refl
masked (suc k) w =
    let half : (2 ^ suc k - 1) / 2 ≡ 2 ^ k - 1 = omega (arith, pow-suc 2 k) in
    let odd : (2 ^ suc k - 1) % 2 ≡ 1 = omega (arith, pow-suc 2 k, pow_pos k) in
    let step : bit_and w (2 ^ suc k - 1) ≡ bit_and (w / 2) (2 ^ k - 1) * 2 + min (w % 2) 1 = rw (half, odd) at (and_step w (2 ^ suc k - 1)) in
    let own : min (w % 2) 1 ≡ w % 2 = omega arith in
    let low : bit_and w (2 ^ suc k - 1) % 2 ≡ w % 2 = omega (arith, step, own) in
    let rest : bit_and w (2 ^ suc k - 1) / 2 ≡ bit_and (w / 2) (2 ^ k - 1) = omega (arith, step, own) in
    rw (low, rest, masked k (w / 2))

-- and under a mask that lacks a one, that bit is clear, and no other changes
pub bit_cleared : (k w i : ℕ) → i < k → bits_of k (bit_and w (2 ^ k - 1 - 2 ^ i)) ≡ set (bits_of k w) i false
unfolding bits_of
bit_cleared zero w i h = absurd (let z : ⊥ = omega arith in z)
bit_cleared (suc k) w zero h =
    let half : (2 ^ suc k - 1 - 1) / 2 ≡ 2 ^ k - 1 = omega (arith, pow-suc 2 k) in
    let even : (2 ^ suc k - 1 - 1) % 2 ≡ 0 = omega (arith, pow-suc 2 k) in
    let step : bit_and w (2 ^ suc k - 1 - 1) ≡ bit_and (w / 2) (2 ^ k - 1) * 2 + min (w % 2) 0 = rw (half, even) at (and_step w (2 ^ suc k - 1 - 1)) in
    let none : min (w % 2) 0 ≡ 0 = omega arith in
    let low : bit_and w (2 ^ suc k - 1 - 1) % 2 ≡ 0 = omega (arith, step, none) in
    let rest : bit_and w (2 ^ suc k - 1 - 1) / 2 ≡ bit_and (w / 2) (2 ^ k - 1) = omega (arith, step, none) in
    rw (low, rest, masked k (w / 2))
bit_cleared (suc k) w (suc i) h =
    let room : 2 ^ i < 2 ^ k = pow-lt (omega arith) in
    let m = 2 ^ suc k - 1 - 2 ^ suc i in
    let half : m / 2 ≡ 2 ^ k - 1 - 2 ^ i = omega (arith, pow-suc 2 k, pow-suc 2 i, room) in
    let odd : m % 2 ≡ 1 = omega (arith, pow-suc 2 k, pow-suc 2 i, room) in
    let step : bit_and w m ≡ bit_and (w / 2) (2 ^ k - 1 - 2 ^ i) * 2 + min (w % 2) 1 = rw (half, odd) at (and_step w m) in
    let own : min (w % 2) 1 ≡ w % 2 = omega arith in
    let low : bit_and w m % 2 ≡ w % 2 = omega (arith, step, own) in
    let rest : bit_and w m / 2 ≡ bit_and (w / 2) (2 ^ k - 1 - 2 ^ i) = omega (arith, step, own) in
    rw (low, rest, bit_cleared k (w / 2) i (omega arith))

-- one, shifted left, is that weight
pub weight : (i : ℕ) → i < 32 → (1 * 2 ^ i) % 2 ^ 32 ≡ 2 ^ i
weight i h = rw one-mul (mod-eq_of_lt (pow-lt h))
