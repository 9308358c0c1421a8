-- 02, P9, "Coprocessor words": condition below 15, 27:26 = 11, with the operands of the Rust's `coproc` in its order.
use Rattle.std.specs.Prelude.{Bool, true, false, [], ◌∷◌, ℕ, ◌*◌, eqb, pos}
use Rattle.word.specs.Field.{field}
use Rattle.word.specs.Choice.{pick, both}
use Rattle.word.specs.Refusal.{COPROCESSOR}
use Rattle.insn.specs.Answer.{refused}
use Rattle.insn.specs.Roots.{name}
use Rattle.insn.specs.Answer.{Decoded}
use Rattle.insn.specs.declared.Flow.TheVariants.{Next}
use Rattle.insn.specs.declared.Operand.{Operand}
use Rattle.insn.specs.declared.Operand.TheVariants.{Count, Coprocessor, CoprocessorRegister}
use Rattle.a32_shared.specs.Row.{rd, rn, rm, reg_of, answer, no_row, among, ◌⇒◌}
use Rattle.a32_ldst.specs.Mem.{P, U, W, L, is_clear, with_disp_of}

-- "coprocessors other than 10 and 11": those two are the floating-point unit
unfoldable pub floating_of : ℕ → Bool
floating_of w = pick (eqb (field w 8 4) 10) true (eqb (field w 8 4) 11)

abbrev pub coprocessor_of : ℕ → Operand
coprocessor_of w = Coprocessor (field w 8 4)

-- the coprocessor's register that the four bits of w from place lo on name
abbrev pub co_reg_of : ℕ → ℕ → Operand
co_reg_of w lo = CoprocessorRegister (field w lo 4)

-- an opcode, "counts with `#`"
abbrev pub opcode_of : ℕ → ℕ → ℕ → Operand
opcode_of w lo n = Count (pos (field w lo n))

-- D, bit 22: the `l` forms
abbrev pub D : ℕ
D = 22

abbrev pub by_l : ℕ → ℕ → ℕ → ℕ
by_l w store load = pick (is_clear w L) store load

-- coprocessor, opc1, a register, CRn, CRm, opc2
abbrev pub six_of : ℕ → ℕ → ℕ → Operand → Operand → Decoded
six_of w addr name opc1 register =
    answer w addr name Next (coprocessor_of w ∷ opc1 ∷ register ∷ co_reg_of w rn ∷ co_reg_of w rm ∷ opcode_of w 5 3 ∷ [])

-- mcr, mrc: the register is Rt
abbrev pub register_move_of : ℕ → ℕ → Decoded
register_move_of w addr = six_of w addr (by_l w (name "mcr") (name "mrc")) (opcode_of w 21 3) (reg_of w rd)

-- cdp: it is CRd
abbrev pub operation_of : ℕ → ℕ → Decoded
operation_of w addr = six_of w addr (name "cdp") (opcode_of w 20 4) (co_reg_of w rd)

-- mcrr, mrrc: coprocessor, opc1, Rt, Rt2, CRm
abbrev pub pair_move_of : ℕ → ℕ → Decoded
pair_move_of w addr =
    answer w addr (by_l w (name "mcrr") (name "mrrc")) Next
    (coprocessor_of w ∷ opcode_of w 4 4 ∷ reg_of w rd ∷ reg_of w rn ∷ co_reg_of w rm ∷ [])

abbrev pub transfer_name : ℕ → ℕ
transfer_name w =
    pick (is_clear w D)
    (by_l w (name "stc") (name "ldc"))
    (by_l w (name "stcl") (name "ldcl"))

-- ldc, stc and the `l` forms: coprocessor, CRd, memory; "the Rust gives post mode whenever P is clear, and no minus zero", size 4, decimal not set
abbrev pub transfer_of : ℕ → ℕ → Decoded
transfer_of w addr =
    answer w addr (transfer_name w) Next
    (coprocessor_of w ∷ co_reg_of w rd ∷ with_disp_of w (4 * field w 0 8) 4 false false ∷ [])

-- 27:24 = 1100 and P, U, W clear: with D a move of a pair, without it none of them
abbrev pub unindexed_of : ℕ → Bool
unindexed_of w = both (is_clear w P) (both (is_clear w U) (is_clear w W))

-- by 27:24; supervisor calls, 15, are refused
abbrev pub generic_of : ℕ → ℕ → Decoded
generic_of w addr =
    among (field w 24 4)
    (
    12 ⇒ pick (eqb (field w 21 3) 2) (pair_move_of w addr) (pick (unindexed_of w) no_row (transfer_of w addr)) ∷
    13 ⇒ transfer_of w addr ∷
    14 ⇒ pick (eqb (field w 4 1) 0) (operation_of w addr) (register_move_of w addr) ∷
    []
    )

-- refusal 2: "condition below 15, 27:26 = 11 and 11:8 of 10 or 11; all else there not accepted is 3"
abbrev pub coproc_of : ℕ → ℕ → Decoded
coproc_of w addr = pick (floating_of w) (refused COPROCESSOR) (generic_of w addr)
