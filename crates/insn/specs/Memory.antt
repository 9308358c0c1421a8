-- Memory forms (01, "What is built").
use Rattle.std.specs.Prelude.{false, ℕ, ℤ, Option, None}
use Rattle.insn.specs.declared.Reg.{Reg}
use Rattle.insn.specs.declared.Mem.{Mem}
use Rattle.insn.specs.declared.AddrMode.TheVariants.{Offset}

-- an index register with its left shift, or none
abbrev pub Index : Type 0
Index = Option (Reg × ℕ)

-- offset mode, with no index and no mark
abbrev pub base_disp : Reg → ℤ → ℕ → Mem
base_disp base disp size =
    record { base = base; index = None; disp = disp; mode = Offset; size = size; decimal = false; minus_zero = false }
