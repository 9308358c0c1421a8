-- The shifts of a register (01, "Register data processing").
use Rattle.std.specs.Prelude.{Bool, ℕ, eqb}
use Rattle.word.specs.Field.{field}
use Rattle.word.specs.Choice.{pick, both}
use Rattle.insn.specs.declared.Shift.{Shift}
use Rattle.insn.specs.declared.Shift.TheVariants.{Lsl, Lsr, Asr, Ror}
use Rattle.insn.specs.declared.Operand.{Operand}
use Rattle.insn.specs.declared.Operand.TheVariants.{Shifted, ShiftBy}
use Rattle.a32_shared.specs.Row.{rm, rs, register_of, reg_of}

-- the kind, 6:5
abbrev pub shift_of : ℕ → Shift
shift_of ty = pick (eqb ty 0) Lsl (pick (eqb ty 1) Lsr (pick (eqb ty 2) Asr Ror))

-- "lsr and asr 0 mean 32"
abbrev pub amount_of : ℕ → ℕ → ℕ
amount_of ty n = pick (eqb n 0) (pick (eqb ty 1) 32 (pick (eqb ty 2) 32 0)) n

-- "lsl 0 is plain Rm"
unfoldable pub plain_of : ℕ → Bool
plain_of w = both (eqb (field w 5 2) 0) (eqb (field w 7 5) 0)

-- "ror 0 .. means rrx"
unfoldable pub rrx_of : ℕ → Bool
rrx_of w = both (eqb (field w 5 2) 3) (eqb (field w 7 5) 0)

-- "Rm shifted by 11:7, kind 6:5"; "ror 0 stays amount 0 and means rrx"
abbrev pub shifted_of : ℕ → Operand
shifted_of w =
    pick (plain_of w)
    (reg_of w rm)
    (Shifted (register_of w rm) (shift_of (field w 5 2)) (amount_of (field w 5 2) (field w 7 5)))

-- "shift by Rs"
abbrev pub shift_by_of : ℕ → Operand
shift_by_of w = ShiftBy (shift_of (field w 5 2)) (register_of w rs)
