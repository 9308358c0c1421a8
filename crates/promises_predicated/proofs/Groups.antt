-- What does not read 31:28 can't depend on it: group by group, an answer is that of a word which differs in the condition alone, under its own
-- condition. Assumes nothing.
use mathlib.Core.Path.{◌≡◌}
use Prim.Native.Nat.{ℕ}
use lib.Dec.{eqb}
use Rattle.encode_home.specs.Alike.{Alike, fields_alike}
use Rattle.word.specs.Choice.{by_test}
use Rattle.word.specs.Field.{field}
use Rattle.insn.specs.Answer.{Decoded}
use Rattle.a32_shared.specs.Shifts as Shifts
use Rattle.a32_dp.specs.Names.{dp_name, shift_name}
use Rattle.a32_dp.specs.DpReg.{dp_reg_of}
use Rattle.a32_dp.specs.DpImm.{hint_slot, dp_imm_of}
use Rattle.a32_misc.specs.Misc.{misc_of}
use Rattle.a32_multiply.specs.Halfword.{halfword_of}
use Rattle.a32_multiply.specs.Multiply.{multiply_of}
use Rattle.a32_multiply.specs.Sync.{sync_of}
use Rattle.a32_ldst.specs.Mem.{unprivileged_of, post_of, minus_zero_of}
use Rattle.a32_ldst.specs.ExtraLdst.{subtracted_index_of, extra_ldst_of}
use Rattle.a32_ldst.specs.Ldst.{refused_index_of, marked_of, ldst_of}
use Rattle.a32_media.specs.Media.{media_of}
use Rattle.a32_transfer.specs.Block.{stack_of, block_of}
use Rattle.a32_transfer.specs.Branch.{target_from, branch_of}
use Rattle.a32_coproc.specs.Coproc.{floating_of, coproc_of}
use Rattle.promises_predicated.specs.Predicated.{under}
use Rattle.promises_predicated.proofs.Laws.{laws}

module _ (w v addr : ℕ) (alike : Alike w v) where
  -- a row's answer to v is the one to w, under v's condition
  abbrev Once : (ℕ → ℕ → Decoded) → Type 0
  Once row = row v addr ≡ under (field v 28 4) (row w addr)

  pub misc : Once misc_of
  misc = simp (laws, fields_alike w v alike)

  pub multiply : Once multiply_of
  multiply = simp (laws, fields_alike w v alike)

  pub halfword : Once halfword_of
  halfword = simp (laws, fields_alike w v alike)

  pub sync : Once sync_of
  sync = simp (laws, fields_alike w v alike)

  pub dp_reg : Once dp_reg_of
  dp_reg = unfold dp_name shift_name Shifts.plain_of Shifts.rrx_of in simp (laws, fields_alike w v alike)

  pub dp_imm : Once dp_imm_of
  dp_imm = unfold dp_name hint_slot in simp (laws, fields_alike w v alike)

  pub extra_ldst : Once extra_ldst_of
  extra_ldst = unfold unprivileged_of subtracted_index_of minus_zero_of in simp (laws, fields_alike w v alike)

  pub ldst : Once ldst_of
  ldst = unfold unprivileged_of post_of refused_index_of marked_of minus_zero_of in simp (laws, fields_alike w v alike)

  pub media : Once media_of
  media = simp (laws, fields_alike w v alike)

  pub block : Once block_of
  block = unfold stack_of in simp (laws, fields_alike w v alike)

  pub coproc : Once coproc_of
  coproc = unfold floating_of in simp (laws, fields_alike w v alike)

  -- the one that reads it: an unlinked b
  pub branch : Once branch_of
  branch = unfold target_from in
      by_test (eqb (field w 28 4) 14)
      (λ e. by_test (eqb (field v 28 4) 14) (λ f. simp (laws, fields_alike w v alike, e, f)) (λ f. simp (laws, fields_alike w v alike, e, f)))
      (λ e. by_test (eqb (field v 28 4) 14) (λ f. simp (laws, fields_alike w v alike, e, f)) (λ f. simp (laws, fields_alike w v alike, e, f)))
