-- Turning left in 64 bits loses nothing of 32, and the search for the least rotation goes on by one. Assumes nothing.
use Rattle.std.proofs.Common.{◌≡◌, ap, subst, ◌∙◌, ℕ, suc, ◌+◌, ◌-◌, ◌*◌, ◌/◌, ◌%◌, ◌^◌, ◌<◌, ◌≤◌, one-mul, mod-eq_of_lt, mod-lt, arith, lt-ltb, le-ltb, pow_pos, shl_lt, shl_exact, shr-shr}
use Rattle.std.proofs.Math.Pow.{pow-lt, shr_le}
use Rattle.a32_imm.specs.Imm.{turned_left, least_from}

pub one_shifted : (k : ℕ) → k < 64 → (1 * 2 ^ k) % 2 ^ 64 ≡ 2 ^ k
one_shifted k h = rw one-mul (mod-eq_of_lt (pow-lt h))

module _ (v n : ℕ) (h : n ≤ 30) where
  abbrev low : ℕ
  low = v % 2 ^ (32 - n)

  low_small : low < 2 ^ (32 - n)
  low_small = mod-lt v (pow_pos (32 - n))

  pub low_kept : (low * 2 ^ n) % 2 ^ 64 ≡ low * 2 ^ n
  low_kept = shl_exact (32 - n) n 64 low_small (omega arith)

  pub low_fits : low * 2 ^ n < 2 ^ 32
  low_fits = let e : 32 - n + n ≡ 32 = omega arith in subst (λ (k : ℕ). low * 2 ^ n < 2 ^ k) e (shl_lt (32 - n) n low_small)

  pub high_fits : v < 2 ^ 64 → v / 2 ^ (32 - n) < 2 ^ 62
  high_fits bound =
      let e : 2 + (30 - n) ≡ 32 - n = omega arith in
      subst (λ (k : ℕ). v / 2 ^ k < 2 ^ 62) e (rw (← shr-shr v 2 (30 - n)) (omega (arith, shr_le (v / 2 ^ 2) (30 - n))))

module _ (r v : ℕ) where
  step : r < 16 → least_from (16 - r) r v ≡ least_from (suc (16 - (r + 1))) r v
  step h = let e : 16 - r ≡ suc (16 - (r + 1)) = omega arith in ap (λ (k : ℕ). least_from k r v) e

  pub found : (byte : ℕ) → r < 16 → byte ≡ turned_left v (2 * r) → byte < 256 → least_from (16 - r) r v ≡ 256 * r + byte
  found byte h e small = step h ∙ simp (← e, lt-ltb byte 256 small)

  pub missed : (byte : ℕ) → r < 16 → byte ≡ turned_left v (2 * r) → 256 ≤ byte → least_from (16 - r) r v ≡ least_from (16 - (r + 1)) (r + 1) v
  missed byte h e large = let next : suc r ≡ r + 1 = omega arith in step h ∙ simp (← e, le-ltb byte 256 large, next)

  pub none_left : 16 ≤ r → least_from (16 - r) r v ≡ 0
  none_left h = let e : 16 - r ≡ 0 = omega arith in ap (λ (k : ℕ). least_from k r v) e
