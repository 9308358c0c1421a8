-- The manual's shifts and constants are 01's. Assumes nothing.
use mathlib.Core.Path.{◌≡◌}
use mathlib.Core.Bool.{Bool}
use Prim.Native.Nat.{ℕ, ◌/◌, ◌%◌, ◌^◌, ◌<◌}
use lib.Dec.{eqb, eqb→eq}
use Rattle.word.specs.Every.{at_each}
use Rattle.word.specs.Field.{field, small}
use Rattle.a32_shared.specs.Shifts.{shifted_of, plain_of}
use Rattle.a32_imm.specs.Imm.{imm_of, so_imm_of, byte_of, rotation_of}
use Rattle.a32_media.specs.Media.{sat_shift_of}
use Rattle.manual.specs.Reads.{constant, shifted, ARMExpandImm, saturate_shift}
use Rattle.manual.proofs.Fields.{by_field, split, ◌also◌}

pub shifted_is : (w : ℕ) → shifted w ≡ shifted_of w
shifted_is w = unfold shifted plain_of in
    split (eqb (field w 7 5) 0)
    (λ z. by_field w 5 2 ((λ e. simp (z, e)) also (λ e. simp (z, e)) also (λ e. simp (z, e)) also (λ e. simp (z, e)) also tt))
    (λ z. by_field w 5 2 ((λ e. simp (z, e)) also (λ e. simp (z, e)) also (λ e. simp (z, e)) also (λ e. simp (z, e)) also tt))

pub saturate_is : (w : ℕ) → saturate_shift w ≡ sat_shift_of w
saturate_is w = unfold saturate_shift in
    split (eqb (field w 7 5) 0)
    (λ z. by_field w 6 1 ((λ e. simp (z, e)) also (λ e. simp (z, e)) also tt))
    (λ z. by_field w 6 1 ((λ e. simp (z, e)) also (λ e. simp (z, e)) also tt))

-- over all 4,096 fields
module _ (imm12 : ℕ) (h : imm12 < 4096) where
  expands : ARMExpandImm imm12 ≡ so_imm_of imm12
  expands = unfold field so_imm_of ARMExpandImm in eqb→eq _ (so_imm_of imm12) (at_each (λ i. eqb (ARMExpandImm i) (so_imm_of i)) 4096 tt imm12 h)

  byte : imm12 % 2 ^ 8 ≡ byte_of imm12
  byte = unfold field in eqb→eq _ (byte_of imm12) (at_each (λ i. eqb (i % 2 ^ 8) (byte_of i)) 4096 tt imm12 h)

  turn : imm12 / 2 ^ 8 ≡ rotation_of imm12
  turn = unfold field in eqb→eq _ (rotation_of imm12) (at_each (λ i. eqb (i / 2 ^ 8) (rotation_of i)) 4096 tt imm12 h)

module _ (w : ℕ) where
  expands_is : ARMExpandImm (field w 0 12) ≡ so_imm_of (field w 0 12)
  expands_is = expands (field w 0 12) (small w 0 12)

  byte_is : field w 0 12 % 2 ^ 8 ≡ byte_of (field w 0 12)
  byte_is = byte (field w 0 12) (small w 0 12)

  turn_is : field w 0 12 / 2 ^ 8 ≡ rotation_of (field w 0 12)
  turn_is = turn (field w 0 12) (small w 0 12)

-- one count, or byte and rotation
pub constant_is : (w : ℕ) (unsigned : Bool) → constant w unsigned ≡ imm_of (field w 0 12) unsigned
constant_is w unsigned = simp (expands_is, byte_is, turn_is)
