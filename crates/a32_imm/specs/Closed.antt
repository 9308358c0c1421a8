-- The value as the code computes it, by a rotation of 32 bits, and as two halves of a shift in 64 bits, and that each is what `so_imm_of` says: one
-- test over all 4,096 fields. Assumes nothing.
use Rattle.std.specs.Prelude.{◌≡◌, refl, Bool, ℕ, zero, suc, ◌+◌, ◌-◌, ◌*◌, ◌/◌, ◌%◌, ◌^◌, ◌<◌}
use Rattle.std.specs.Int.{rotate_right, w32}
use Rattle.std.proofs.Math.Dec.{eqb, ltb, ltb→lt, eqb→eq}
use Rattle.word.specs.Field.{field}
use Rattle.word.specs.Choice.{pick}
use Rattle.word.specs.Every.{at_each}
use Rattle.a32_imm.specs.Imm.{byte_of, rotation_of, so_imm_of, least_field}

-- the byte, moved up in 64 bits; its two halves added
abbrev pub wide : ℕ → ℕ → ℕ
wide byte rotation = (byte * 2 ^ (32 - 2 * rotation)) % 2 ^ 64

abbrev pub closed_value : ℕ → ℕ
closed_value imm12 = wide (byte_of imm12) (rotation_of imm12) / 2 ^ 32 + wide (byte_of imm12) (rotation_of imm12) % 2 ^ 32

abbrev pub rotated_value : ℕ → ℕ
rotated_value imm12 = rotate_right w32 (byte_of imm12) (2 * rotation_of imm12)

module _ (imm12 : ℕ) (h : imm12 < 4096) where
  pub rotated_is : rotated_value imm12 ≡ so_imm_of imm12
  unfolding field so_imm_of
  rotated_is = eqb→eq _ (so_imm_of imm12) (at_each (λ i. eqb (rotated_value i) (so_imm_of i)) 4096 tt imm12 h)

  pub value_is : closed_value imm12 ≡ so_imm_of imm12
  unfolding field so_imm_of
  value_is = eqb→eq _ (so_imm_of imm12) (at_each (λ i. eqb (closed_value i) (so_imm_of i)) 4096 tt imm12 h)

  pub value_fits : so_imm_of imm12 < 2 ^ 32
  unfolding field so_imm_of
  value_fits = ltb→lt (so_imm_of imm12) _ (at_each (λ i. ltb (so_imm_of i) (2 ^ 32)) 4096 tt imm12 h)

-- how many numbers below n pass
abbrev pub count : (ℕ → Bool) → ℕ → ℕ
count f zero = 0
count f (suc n) = pick (f n) (suc (count f n)) (count f n)

-- "3,073 entries name themselves" (02, P8)
pub counted : count (λ i. eqb (least_field i) i) 4096 ≡ 3073
unfolding field so_imm_of least_field
counted = refl
