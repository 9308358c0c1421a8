-- The way through the decoder: by tests on its bits alone a word belongs to one group, and its answer is that group's, at every address. So what is
-- to hold of the decoder's answers is shown group by group. Assumes nothing.
use Rattle.std.proofs.Common.{◌≡◌, sym, subst, true, false, ℕ, ◌*◌, ◌+◌, arith, eqb-true, eqb}
use Rattle.std.proofs.Math.Path.{fun_ext}
use Rattle.std.proofs.lemmas.Bool.{eqb-false}
use Rattle.word.specs.Choice.{by_test}
use Rattle.word.specs.Field.{field, small, splits}
use Rattle.insn.specs.Answer.{Decoded}
use Rattle.a32_dp.specs.DpReg.{dp_reg_of}
use Rattle.a32_dp.specs.DpImm.{dp_imm_of}
use Rattle.a32_misc.specs.Misc.{misc_of}
use Rattle.a32_multiply.specs.Halfword.{halfword_of}
use Rattle.a32_multiply.specs.Multiply.{multiply_of}
use Rattle.a32_multiply.specs.Sync.{sync_of}
use Rattle.a32_ldst.specs.ExtraLdst.{extra_ldst_of}
use Rattle.a32_ldst.specs.Ldst.{ldst_of}
use Rattle.a32_media.specs.Media.{media_of}
use Rattle.a32_transfer.specs.Block.{block_of}
use Rattle.a32_transfer.specs.Branch.{branch_of}
use Rattle.a32_transfer.specs.Unconditional.{unconditional_of}
use Rattle.a32_coproc.specs.Coproc.{coproc_of}
use Rattle.a32.specs.Decode.{control_of, plain_of, extra_of, dp_misc_of, group_of, decode_of}

-- a condition below 15
abbrev pub Below : ℕ → Type 0
Below w = eqb (field w 28 4) 15 ≡ false

-- the group of a word, with the tests that lead there
pub data Group (w : ℕ) : (ℕ → ℕ → Decoded) → Type 0 where
  unconditional : field w 28 4 ≡ 15 → Group w unconditional_of
  misc : Below w → field w 25 3 ≡ 0 → control_of w ≡ true → field w 7 1 ≡ 0 → Group w misc_of
  halfword : Below w → field w 25 3 ≡ 0 → control_of w ≡ true → field w 7 1 ≡ 1 → field w 4 1 ≡ 0 → Group w halfword_of
  dp_reg : Below w → field w 25 3 ≡ 0 → control_of w ≡ false → (field w 4 1 ≡ 1 → field w 7 1 ≡ 0) → Group w dp_reg_of
  multiply : Below w → field w 25 3 ≡ 0 → field w 7 1 ≡ 1 → field w 4 1 ≡ 1 → field w 5 2 ≡ 0 → field w 24 1 ≡ 0 → Group w multiply_of
  sync : Below w → field w 25 3 ≡ 0 → field w 7 1 ≡ 1 → field w 4 1 ≡ 1 → field w 5 2 ≡ 0 → field w 24 1 ≡ 1 → Group w sync_of
  extra_ldst : Below w → field w 25 3 ≡ 0 → field w 7 1 ≡ 1 → field w 4 1 ≡ 1 → eqb (field w 5 2) 0 ≡ false → Group w extra_ldst_of
  dp_imm : Below w → field w 25 3 ≡ 1 → Group w dp_imm_of
  ldst : Below w → field w 25 3 ≡ 2 → Group w ldst_of
  ldst_index : Below w → field w 25 3 ≡ 3 → field w 4 1 ≡ 0 → Group w ldst_of
  media : Below w → field w 25 3 ≡ 3 → field w 4 1 ≡ 1 → Group w media_of
  block : Below w → field w 25 3 ≡ 4 → Group w block_of
  branch : Below w → field w 25 3 ≡ 5 → Group w branch_of
  coprocessor : Below w → field w 26 2 ≡ 3 → Group w coproc_of

-- a bit is set or clear
pub set_bit : (w n : ℕ) → eqb (field w n 1) 0 ≡ false → field w n 1 ≡ 1
set_bit w n e = omega (arith, small w n 1, eqb-false (field w n 1) 0 e)

pub bit_cases {ℓ} : {A : Type ℓ} (w n : ℕ) → (field w n 1 ≡ 0 → A) → (field w n 1 ≡ 1 → A) → A
bit_cases w n off on = by_test (eqb (field w n 1) 0) (λ e. off (eqb-true (field w n 1) 0 e)) (λ e. on (set_bit w n e))

module _ (w : ℕ) where
  -- 27:25 from 27:26 and bit 25
  bottom : {h b : ℕ} → field w 26 2 ≡ h → field w 25 1 ≡ b → field w 25 3 ≡ h * 2 + b
  bottom high low = omega (arith, splits w 25 2 1)

  -- the answer of a word is that of its group
  pub reaches : {row : ℕ → ℕ → Decoded} → Group w row → (addr : ℕ) → decode_of w addr ≡ row w addr
  unfolding decode_of group_of dp_misc_of plain_of extra_of
  reaches (unconditional c) addr = simp c
  reaches (misc c g is seven) addr =
      bit_cases w 4
      (λ four. simp (c, g, is, four, seven))
      (λ four. simp (c, g, is, four, seven))
  reaches (halfword c g is seven four) addr = simp (c, g, is, four, seven)
  reaches (dp_reg c g is seven) addr =
      bit_cases w 4
      (λ four. simp (c, g, is, four))
      (λ four. simp (c, g, is, four, seven four))
  reaches (multiply c g seven four kind exclusive) addr = simp (c, g, four, seven, kind, exclusive)
  reaches (sync c g seven four kind exclusive) addr = simp (c, g, four, seven, kind, exclusive)
  reaches (extra_ldst c g seven four kind) addr = simp (c, g, four, seven, kind)
  reaches (dp_imm c g) addr = simp (c, g)
  reaches (ldst c g) addr = simp (c, g)
  reaches (ldst_index c g four) addr = simp (c, g, four)
  reaches (media c g four) addr = simp (c, g, four)
  reaches (block c g) addr = simp (c, g)
  reaches (branch c g) addr = simp (c, g)
  reaches (coprocessor c p) addr = bit_cases w 25 (λ low. simp (c, bottom p low)) (λ low. simp (c, bottom p low))

  -- every word has a group
  abbrev Found : Type 0
  Found = (row : ℕ → ℕ → Decoded) × Group w row

  module _ (c : Below w) where
    extra : field w 25 3 ≡ 0 → field w 7 1 ≡ 1 → field w 4 1 ≡ 1 → Found
    extra g seven four =
        by_test (eqb (field w 5 2) 0)
        (λ e.
        bit_cases w 24
        (λ exclusive. (multiply_of, multiply c g seven four (eqb-true _ 0 e) exclusive))
        (λ exclusive. (sync_of, sync c g seven four (eqb-true _ 0 e) exclusive)))
        (λ e. (extra_ldst_of, extra_ldst c g seven four e))

    first : field w 25 3 ≡ 0 → Found
    first g =
        bit_cases w 7
        (λ seven.
        by_test (control_of w)
        (λ is. (misc_of, misc c g is seven))
        (λ is. (dp_reg_of, dp_reg c g is (λ four. seven))))
        (λ seven.
        bit_cases w 4
        (λ four.
        by_test (control_of w)
        (λ is. (halfword_of, halfword c g is seven four))
        (λ is. (dp_reg_of, dp_reg c g is (λ set. omega arith))))
        (extra g seven))

    below : Found
    below =
        by_test (eqb (field w 25 3) 0) (λ e. first (eqb-true _ 0 e)) λ n0.
        by_test (eqb (field w 25 3) 1) (λ e. (dp_imm_of, dp_imm c (eqb-true _ 1 e))) λ n1.
        by_test (eqb (field w 25 3) 2) (λ e. (ldst_of, ldst c (eqb-true _ 2 e))) λ n2.
        by_test (eqb (field w 25 3) 3)
        (λ e. bit_cases w 4 (λ four. (ldst_of, ldst_index c (eqb-true _ 3 e) four)) (λ four. (media_of, media c (eqb-true _ 3 e) four))) λ n3.
        by_test (eqb (field w 25 3) 4) (λ e. (block_of, block c (eqb-true _ 4 e))) λ n4.
        by_test (eqb (field w 25 3) 5) (λ e. (branch_of, branch c (eqb-true _ 5 e))) λ n5. (
          coproc_of,
          coprocessor c (above (eqb-false _ 0 n0) (eqb-false _ 1 n1) (eqb-false _ 2 n2) (eqb-false _ 3 n3) (eqb-false _ 4 n4)
              (eqb-false _ 5 n5)),
        )
      where
        above : (field w 25 3 ≡ 0 → ⊥) → (field w 25 3 ≡ 1 → ⊥) → (field w 25 3 ≡ 2 → ⊥) → (field w 25 3 ≡ 3 → ⊥) → (field w 25 3 ≡ 4 → ⊥)
            → (field w 25 3 ≡ 5 → ⊥) → field w 26 2 ≡ 3
        above n0 n1 n2 n3 n4 n5 = omega (arith, splits w 25 2 1, small w 25 1, small w 25 3)

  pub found : Found
  found = by_test (eqb (field w 28 4) 15) (λ e. (unconditional_of, unconditional (eqb-true _ 15 e))) below

  -- what holds of the answers of a word's group, whichever that is, holds of the decoder's
  pub by_group : (P : (ℕ → Decoded) → Type 0) → ((row : ℕ → ℕ → Decoded) → Group w row → P (row w)) → P (decode_of w)
  by_group P holds = subst P (sym (fun_ext (reaches found.1))) (holds found.0 found.1)
