-- 01, "Extra load/store": "27:25 = 000, 7 and 4 set, 6:5 not 00".
use Rattle.std.specs.Prelude.{Bool, true, [], ◌∷◌, ℕ, ◌+◌, ◌%◌, eqb}
use Rattle.word.specs.Field.{field}
use Rattle.word.specs.Layout.{joined}
use Rattle.word.specs.Choice.{pick, both}
use Rattle.insn.specs.Roots.{name}
use Rattle.insn.specs.Answer.{Decoded}
use Rattle.insn.specs.declared.Flow.TheVariants.{Next}
use Rattle.insn.specs.declared.Operand.{Operand}
use Rattle.insn.specs.declared.Operand.TheVariants.{Register}
use Rattle.a32_shared.specs.Row.{among, ◌⇒◌, rd, reg_of, answer, no_row}
use Rattle.a32_ldst.specs.Mem.{U, L, is_clear, unprivileged_of, minus_zero_of, with_disp_of, with_index_of}

-- "immediate 22"
abbrev pub immediate : ℕ
immediate = 22

-- "index Rm, which needs U set"
unfoldable pub subtracted_index_of : ℕ → Bool
subtracted_index_of w = both (is_clear w immediate) (is_clear w U)

-- "Displacement 11:8 then 3:0"
abbrev pub imm8 : ℕ → ℕ
imm8 w = joined w 8 4 0 4

-- "Displacement .., or index Rm"; "U clear with displacement 0 sets minus zero. Decimal always set"
abbrev pub memory_of : ℕ → ℕ → Operand
memory_of w size =
    pick (is_clear w immediate)
    (with_index_of w 0 size true)
    (with_disp_of w (imm8 w) size true (minus_zero_of w (imm8 w)))

abbrev pub single_of : ℕ → ℕ → ℕ → ℕ → Decoded
single_of w addr name size = answer w addr name Next (reg_of w rd ∷ memory_of w size ∷ [])

-- "ldrd and strd with odd Rd: refused; they list Rd and Rd+1"; "8 for pairs"
abbrev pub pair_of : ℕ → ℕ → ℕ → Decoded
pair_of w addr name =
    pick (eqb (field w rd 4 % 2) 1)
    no_row
    (answer w addr name Next (reg_of w rd ∷ Register (record { 0 = field w rd 4 + 1 }) ∷ memory_of w 8 ∷ []))

-- the answer with L clear, and with L set
abbrev pub by_l : ℕ → Decoded → Decoded → Decoded
by_l w a b = pick (is_clear w L) a b

-- "Bits 6:5, L: 01 strh/ldrh; 10 ldrd/ldrsb; 11 strd/ldrsh"; "Size 2 for halfwords, 1 for ldrsb"
abbrev pub table_of : ℕ → ℕ → Decoded
table_of w addr =
    among (field w 5 2)
    (
    1 ⇒ by_l w (single_of w addr (name "strh") 2) (single_of w addr (name "ldrh") 2) ∷
    2 ⇒ by_l w (pair_of w addr (name "ldrd")) (single_of w addr (name "ldrsb") 1) ∷
    3 ⇒ by_l w (pair_of w addr (name "strd")) (single_of w addr (name "ldrsh") 2) ∷
    []
    )

-- "P clear is post, with W refused"
abbrev pub extra_ldst_of : ℕ → ℕ → Decoded
extra_ldst_of w addr = pick (unprivileged_of w) no_row (pick (subtracted_index_of w) no_row (table_of w addr))
