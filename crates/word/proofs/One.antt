-- One, shifted left by less than the width, loses nothing. Assumes nothing.
use Rattle.std.proofs.Common.{◌≡◌, ℕ, ◌*◌, ◌%◌, ◌^◌, ◌<◌, mod-eq_of_lt, one-mul}
use Rattle.std.proofs.Math.Pow.{pow-lt}

pub shifted_one : (k : ℕ) → k < 32 → (1 * 2 ^ k) % 2 ^ 32 ≡ 2 ^ k
shifted_one k h = rw one-mul (mod-eq_of_lt (pow-lt h))
