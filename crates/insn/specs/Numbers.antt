-- The numbers that stand for the cases of the value's enums, and their values, in the order of 01's paragraphs.
use Rattle.std.specs.Prelude.{ℕ}
use Rattle.insn.specs.declared.Shift.{Shift}
use Rattle.insn.specs.declared.Shift.TheVariants.{Lsl, Lsr, Asr, Ror}
use Rattle.insn.specs.declared.Status.{Status}
use Rattle.insn.specs.declared.Status.TheVariants.{Apsr, Spsr}
use Rattle.insn.specs.declared.AddrMode.{AddrMode}
use Rattle.insn.specs.declared.AddrMode.TheVariants.{Offset, PreIndex, PostIndex}
use Rattle.insn.specs.declared.Operand.{Operand}
use Rattle.insn.specs.declared.Operand.TheVariants.{Empty, Register, Shifted, ShiftBy, SaturateShift, Rotate, Count, Number, StatusMask}
use Rattle.insn.specs.declared.Operand.TheVariants.{StatusSource, WriteBack, List, Address, Memory, Option, Coprocessor}
use Rattle.insn.specs.declared.Operand.TheVariants.{CoprocessorRegister}
use Rattle.insn.specs.declared.Flow.{Flow}
use Rattle.insn.specs.declared.Flow.TheVariants.{Next, Branch, CondBranch, IndirectBranch, Call, IndirectCall, Return, Trap}

-- bits 6:5
abbrev pub shift_number : Shift → ℕ
shift_number Lsl = 0
shift_number Lsr = 1
shift_number Asr = 2
shift_number Ror = 3

-- bit 22 of mrs
abbrev pub status_number : Status → ℕ
status_number Apsr = 0
status_number Spsr = 1

-- "mode (offset, pre, post)"
abbrev pub mode_number : AddrMode → ℕ
mode_number Offset = 0
mode_number PreIndex = 1
mode_number PostIndex = 2

-- "a register, shifted register, shift by register, saturate shift, rotate, signed count, unsigned number, status mask,
-- status source, write-back register, register list, address, or memory form", from 1 on; 02, P1: "a new kind, the option";
-- P9: a coprocessor, and a register of one
abbrev pub operand_number : Operand → ℕ
operand_number Empty = 0
operand_number (Register r) = 1
operand_number (Shifted r k n) = 2
operand_number (ShiftBy k r) = 3
operand_number (SaturateShift k n) = 4
operand_number (Rotate n) = 5
operand_number (Count z) = 6
operand_number (Number n) = 7
operand_number (StatusMask n) = 8
operand_number (StatusSource s) = 9
operand_number (WriteBack r) = 10
operand_number (List n) = 11
operand_number (Address n) = 12
operand_number (Memory m) = 13
operand_number (Option n) = 14
operand_number (Coprocessor n) = 15
operand_number (CoprocessorRegister n) = 16

-- "flow (next jump jump? ijump call icall ret trap)"
abbrev pub flow_number : Flow → ℕ
flow_number Next = 0
flow_number (Branch a) = 1
flow_number (CondBranch a) = 2
flow_number IndirectBranch = 3
flow_number (Call a) = 4
flow_number IndirectCall = 5
flow_number Return = 6
flow_number Trap = 7

abbrev pub flow_target : Flow → ℕ
flow_target Next = 0
flow_target (Branch a) = a
flow_target (CondBranch a) = a
flow_target IndirectBranch = 0
flow_target (Call a) = a
flow_target IndirectCall = 0
flow_target Return = 0
flow_target Trap = 0
