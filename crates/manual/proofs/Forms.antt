-- Numbers by which two answers are told apart: a flow, and what an operand's memory form has. Assumes nothing.
use Prim.Native.Nat.{ℕ}
use lib.IntN.{pos}
use lib.ListN.{get_or}
use Rattle.word.specs.Choice.{pick}
use Rattle.insn.specs.Memory.{base_disp}
use Rattle.insn.specs.Numbers.{mode_number, flow_number}
use Rattle.insn.specs.Answer.{Decoded, insn_in}
use Rattle.insn.specs.declared.Mem.{Mem}
use Rattle.insn.specs.declared.Operand.{Operand}
use Rattle.insn.specs.declared.Operand.TheVariants.{Empty, Register, Shifted, ShiftBy, SaturateShift, Rotate, Count, Number, StatusMask}
use Rattle.insn.specs.declared.Operand.TheVariants.{StatusSource, WriteBack, Address, Memory, Option, Coprocessor, CoprocessorRegister}
use Rattle.insn.specs.declared.Operand.TheVariants as Op

abbrev none : Mem
none = base_disp (record { 0 = 0 }) (pos 0) 0

abbrev memory : Operand → Mem
memory Empty = none
memory (Register r) = none
memory (Shifted r k n) = none
memory (ShiftBy k r) = none
memory (SaturateShift k n) = none
memory (Rotate n) = none
memory (Count z) = none
memory (Number n) = none
memory (StatusMask n) = none
memory (StatusSource s) = none
memory (WriteBack r) = none
memory (Op.List n) = none
memory (Address n) = none
memory (Memory m) = m
memory (Option n) = none
memory (Coprocessor n) = none
memory (CoprocessorRegister n) = none

abbrev at : ℕ → Decoded → Mem
at n d = memory (get_or (insn_in d).ops n (record { operand = Empty })).operand

abbrev pub flow_of : Decoded → ℕ
flow_of d = flow_number (insn_in d).flow

abbrev pub mode_at : ℕ → Decoded → ℕ
mode_at n d = mode_number (at n d).mode

abbrev pub mark_at : ℕ → Decoded → ℕ
mark_at n d = pick (at n d).minus_zero 1 0
