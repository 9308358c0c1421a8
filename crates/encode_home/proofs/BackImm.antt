-- The immediates, back from their counts: one test over all 4,096 fields. Assumes nothing.
use mathlib.Core.Path.{◌≡◌, refl, ◌∙◌}
use mathlib.Core.Bool.{Bool, true, false}
use Prim.Native.Nat.{ℕ, zero, suc, ◌+◌, ◌-◌, ◌*◌, ◌/◌, ◌^◌, ◌<◌}
use native.Mathlib.Omega.{arith}
use borrow.Author.Tests.{eqb-true}
use lib.Dec.{eqb, ltb, eqb→eq}
use lib.IntN.{ℤ, pos, nat_abs}
use Rattle.word.specs.Choice.{by_test}
use Rattle.word.specs.Every.{at_each}
use Rattle.word.specs.Field.{field}
use Rattle.word.specs.Signed.{minus}
use Rattle.insn.specs.declared.Operand.TheVariants.{Empty, Count}
use Rattle.a32_imm.specs.Closed.{value_fits}
use Rattle.a32_imm.specs.Imm.{byte_of, rotation_of, so_imm_of, least_of, least_field, count_of}
use Rattle.a32_imm.specs.Least.{names_itself}
use Rattle.insn_parts.specs.Operands.{sign_number, operand_flat}
use Rattle.insn_parts.specs.Parts.{bits32}
use Rattle.encode_home.specs.WordDp.{imm12}

module _ (x : ℕ) (few : x < 4096) where
  least_back : least_of x ≡ true → least_field x ≡ x
  least_back least = eqb-true (least_field x) x (names_itself x few ∙ least)

  pub imm_two : imm12 (operand_flat (Count (pos (byte_of x)))) (operand_flat (Count (pos (2 * rotation_of x)))) ≡ x
  unfolding field imm12
  imm_two = eqb→eq (256 * (2 * rotation_of x / 2) + byte_of x) x (at_each (λ n. eqb (256 * (2 * rotation_of n / 2) + byte_of n) n) 4096 tt x few)

  -- a count of 32 bits, with a sign or without
  abbrev low : ℤ → ℕ
  low z = bits32 (sign_number z) (nat_abs z)

  minus_back : (n : ℕ) → 0 < n → low (minus n) ≡ 2 ^ 32 - n
  minus_back zero some = absurd (omega arith)
  minus_back (suc n) some = refl

  count_back : (unsigned : Bool) (v : ℕ) → v < 2 ^ 32 → low (count_of unsigned v) ≡ v
  count_back true v fits = refl
  count_back false v fits =
      by_test (ltb v (2 ^ 31))
      (λ e. simp e)
      (λ e. simp e (minus_back (2 ^ 32 - v) (omega arith) ∙ back))
    where
      back : 2 ^ 32 - (2 ^ 32 - v) ≡ v
      back = omega arith

  pub imm_one : (unsigned : Bool) → least_of x ≡ true → imm12 (operand_flat (Count (count_of unsigned (so_imm_of x)))) (operand_flat Empty) ≡ x
  imm_one unsigned least = unfold imm12 least_field in rw (count_back unsigned (so_imm_of x) (value_fits x few)) (least_back least)
