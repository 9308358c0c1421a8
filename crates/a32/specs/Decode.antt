-- What the decoder answers, for every word and address (01, "Refusal numbers", "Rows, condition below 15", "Rows, condition 15").
use Rattle.std.specs.Prelude.{Bool, List, [], ◌∷◌, ℕ, eqb, ltb, length}
use Rattle.word.specs.Bytes.{word_at}
use Rattle.word.specs.Field.{field}
use Rattle.word.specs.Choice.{pick, both}
use Rattle.word.specs.Refusal.{SHORT}
use Rattle.insn.specs.Answer.{refused}
use Rattle.insn.specs.Answer.{Decoded}
use Rattle.a32_shared.specs.Row.{among, ◌⇒◌}
use Rattle.a32_dp.specs.DpReg.{dp_reg_of}
use Rattle.a32_dp.specs.DpImm.{dp_imm_of}
use Rattle.a32_misc.specs.Misc.{misc_of}
use Rattle.a32_multiply.specs.Halfword.{halfword_of}
use Rattle.a32_multiply.specs.Multiply.{multiply_of}
use Rattle.a32_multiply.specs.Sync.{sync_of}
use Rattle.a32_ldst.specs.ExtraLdst.{extra_ldst_of}
use Rattle.a32_ldst.specs.Ldst.{ldst_of}
use Rattle.a32_media.specs.Media.{media_of}
use Rattle.a32_transfer.specs.Block.{block_of}
use Rattle.a32_transfer.specs.Branch.{branch_of}
use Rattle.a32_transfer.specs.Unconditional.{unconditional_of}
use Rattle.a32_coproc.specs.Coproc.{coproc_of}

-- "control (24:23 = 10 and bit 20 clear)"
unfoldable pub control_of : ℕ → Bool
control_of w = both (eqb (field w 23 2) 2) (eqb (field w 20 1) 0)

-- "Register data processing. .. not control"; "Control, bit 7 clear"; 02, P3: "Control rows with bit 7 set and bit 4 clear"
unfoldable pub plain_of : ℕ → ℕ → Decoded
plain_of w addr = pick (control_of w) (pick (eqb (field w 7 1) 0) (misc_of w addr) (halfword_of w addr)) (dp_reg_of w addr)

-- bits 7 and 4 set: "Multiply, 27:24 = 0000, 7:4 = 1001", "Exclusives, 27:24 = 0001, 7:4 = 1001", "Extra load/store, .. 6:5 not 00"
unfoldable pub extra_of : ℕ → ℕ → Decoded
extra_of w addr =
    pick (eqb (field w 5 2) 0)
    (pick (eqb (field w 24 1) 0) (multiply_of w addr) (sync_of w addr))
    (extra_ldst_of w addr)

-- 27:25 = 000, by "7 and 4 both set"
unfoldable pub dp_misc_of : ℕ → ℕ → Decoded
dp_misc_of w addr =
    pick (eqb (field w 4 1) 0) (plain_of w addr) (pick (eqb (field w 7 1) 0) (plain_of w addr) (extra_of w addr))

-- the rows of a condition below 15, by 27:25; "Load/store, 27:25 = 010, or 011 with bit 4 clear", "Media, 27:25 = 011, bit 4 set"; 02, P9: 27:26 = 11
unfoldable pub group_of : ℕ → ℕ → Decoded
group_of w addr =
    among (field w 25 3)
    (
    0 ⇒ dp_misc_of w addr ∷
    1 ⇒ dp_imm_of w addr ∷
    2 ⇒ ldst_of w addr ∷
    3 ⇒ pick (eqb (field w 4 1) 0) (ldst_of w addr) (media_of w addr) ∷
    4 ⇒ block_of w addr ∷
    5 ⇒ branch_of w addr ∷
    6 ⇒ coproc_of w addr ∷
    7 ⇒ coproc_of w addr ∷
    []
    )

-- refusal 3: "any other word no row below accepts"
unfoldable pub decode_of : ℕ → ℕ → Decoded
decode_of w addr = pick (eqb (field w 28 4) 15) (unconditional_of w addr) (group_of w addr)

-- refusal 1: "fewer than 4 (more than 4: the first four, low byte first)"
abbrev pub decode_bytes_of : List ℕ → ℕ → Decoded
decode_bytes_of bytes addr = pick (ltb (length bytes) 4) (refused SHORT) (decode_of (word_at bytes 0) addr)
