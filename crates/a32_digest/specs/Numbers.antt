-- An answer as a row of numbers: of each case of an enum its number, then its values.
use Rattle.std.specs.Prelude.{ℕ, suc, ◌-◌, ◌/◌, ◌%◌, ◌^◌, Bool, true, false, List, [], ◌∷◌, ◌++◌, ℤ, pos, negsuc, Some, None, Ok, Err}
use Rattle.word.specs.Refusal.{number}
use Rattle.insn.specs.Answer.{Decoded, spread}
use Rattle.insn.specs.Numbers.{shift_number, status_number, mode_number, flow_number, flow_target}
use Rattle.insn.specs.Memory.{Index}
use Rattle.insn.specs.declared.Mem.{Mem}
use Rattle.insn.specs.declared.Operand.{Operand}
use Rattle.insn.specs.declared.Operand.TheVariants.{Empty, Register, Shifted, ShiftBy, SaturateShift, Rotate, Count, Number, StatusMask}
use Rattle.insn.specs.declared.Operand.TheVariants.{StatusSource, WriteBack, List as RegisterList, Address, Memory, Option, Coprocessor}
use Rattle.insn.specs.declared.Operand.TheVariants.{CoprocessorRegister}
use Rattle.insn.specs.declared.Place.{Place}
use Rattle.insn.specs.declared.Insn.{Insn}

-- a signed number in two's complement, 64 bits
abbrev pub bits_of : ℤ → ℕ
bits_of (pos n) = n
bits_of (negsuc n) = 2 ^ 64 - suc n

-- its upper 32 bits, then its lower
abbrev pub signed_numbers : ℤ → List ℕ
signed_numbers z = bits_of z / 2 ^ 32 ∷ bits_of z % 2 ^ 32 ∷ []

abbrev pub mark_number : Bool → ℕ
mark_number false = 0
mark_number true = 1

-- "optional index with left shift"
abbrev pub index_numbers : Index → List ℕ
index_numbers None = 0 ∷ 0 ∷ 0 ∷ []
index_numbers (Some (r, n)) = 1 ∷ r.0 ∷ n ∷ []

-- "base, optional index with left shift, displacement, mode (offset, pre, post), size, and two marks: decimal, and minus zero"
abbrev pub mem_numbers : Mem → List ℕ
mem_numbers m =
    m.base.0 ∷
    index_numbers m.index ++
    signed_numbers m.disp ++
    mode_number m.mode ∷
    m.size ∷
    mark_number m.decimal ∷
    mark_number m.minus_zero ∷
    []

-- "a register, shifted register, shift by register, saturate shift, rotate, signed count, unsigned number, status mask,
-- status source, write-back register, register list, address, or memory form", from 1 on; 02, P1: "a new kind, the option";
-- P9: a coprocessor, and a register of one
abbrev pub operand_numbers : Operand → List ℕ
operand_numbers Empty = 0 ∷ []
operand_numbers (Register r) = 1 ∷ r.0 ∷ []
operand_numbers (Shifted r k n) = 2 ∷ r.0 ∷ shift_number k ∷ n ∷ []
operand_numbers (ShiftBy k r) = 3 ∷ shift_number k ∷ r.0 ∷ []
operand_numbers (SaturateShift k n) = 4 ∷ shift_number k ∷ n ∷ []
operand_numbers (Rotate n) = 5 ∷ n ∷ []
operand_numbers (Count z) = 6 ∷ signed_numbers z
operand_numbers (Number n) = 7 ∷ n ∷ []
operand_numbers (StatusMask n) = 8 ∷ n ∷ []
operand_numbers (StatusSource s) = 9 ∷ status_number s ∷ []
operand_numbers (WriteBack r) = 10 ∷ r.0 ∷ []
operand_numbers (RegisterList n) = 11 ∷ n ∷ []
operand_numbers (Address n) = 12 ∷ n ∷ []
operand_numbers (Memory m) = 13 ∷ mem_numbers m
operand_numbers (Option n) = 14 ∷ n ∷ []
operand_numbers (Coprocessor n) = 15 ∷ n ∷ []
operand_numbers (CoprocessorRegister n) = 16 ∷ n ∷ []

abbrev pub places_numbers : List Place → List ℕ
places_numbers = spread operand_numbers

-- "address (64 bits, as given); name number; condition (the word's own 31:28); flow; four operand places"; 02, P9: "from four places to six"
abbrev pub insn_numbers : Insn → List ℕ
insn_numbers i =
    i.addr ∷ i.name ∷ i.cond.0 ∷ flow_number i.flow ∷ flow_target i.flow ∷ places_numbers i.ops

-- "A refusal returns its number only"; an instruction's row starts with 0
abbrev pub answer_numbers : Decoded → List ℕ
answer_numbers (Ok i) = 0 ∷ insn_numbers i
answer_numbers (Err r) = number r ∷ []
