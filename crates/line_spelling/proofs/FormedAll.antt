-- Every answer is a refusal of one digit or a formed instruction. Assumes nothing.
use Prim.Native.Nat.{ℕ}
use Rattle.insn.specs.Answer.{Decoded}
use Rattle.a32.specs.Decode.{decode_of}
use Rattle.a32.proofs.Groups.{Group, unconditional, misc, halfword, dp_reg, multiply, sync, extra_ldst, dp_imm, ldst, ldst_index, media, block}
use Rattle.a32.proofs.Groups.{branch, coprocessor, by_group}
use Rattle.line_spelling.proofs.Formed.{Good}
use Rattle.line_spelling.proofs.FormedDp.{dp_reg_good, dp_imm_good}
use Rattle.line_spelling.proofs.FormedMisc.{misc_good}
use Rattle.line_spelling.proofs.FormedMultiply.{multiply_good, halfword_good, sync_good}
use Rattle.line_spelling.proofs.FormedLdst.{extra_good, ldst_good}
use Rattle.line_spelling.proofs.FormedMedia.{media_good}
use Rattle.line_spelling.proofs.FormedTransfer.{block_good, branch_good, unconditional_good}
use Rattle.line_spelling.proofs.FormedCoproc.{coproc_good}

pub all_good : (w addr : ℕ) → Good addr (decode_of w addr)
all_good w addr = by_group w (λ row. Good addr (row addr)) (λ row. good)
  where
    good : {row : ℕ → ℕ → Decoded} → Group w row → Good addr (row w addr)
    good (unconditional c) = unconditional_good w addr (simp c)
    good (misc c g is seven) = misc_good w addr c
    good (halfword c g is seven four) = halfword_good w addr c
    good (dp_reg c g is seven) = dp_reg_good w addr c
    good (multiply c g seven four kind exclusive) = multiply_good w addr c
    good (sync c g seven four kind exclusive) = sync_good w addr c
    good (extra_ldst c g seven four kind) = extra_good w addr c
    good (dp_imm c g) = dp_imm_good w addr c
    good (ldst c g) = ldst_good w addr c
    good (ldst_index c g four) = ldst_good w addr c
    good (media c g four) = media_good w addr c
    good (block c g) = block_good w addr c
    good (branch c g) = branch_good w addr c
    good (coprocessor c p) = coproc_good w addr c
