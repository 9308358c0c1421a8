-- An operand as numbers.
use Rattle.std.specs.Prelude.{Bool, true, false, ℕ, ℤ, pos, negsuc, nat_abs, Option, Some, None}
use Rattle.insn.specs.Numbers.{shift_number, status_number, mode_number}
use Rattle.insn.specs.declared.Reg.{Reg}
use Rattle.insn.specs.declared.Mem.{Mem}
use Rattle.insn.specs.declared.Operand.{Operand}
use Rattle.insn.specs.declared.Operand.TheVariants.{Empty, Register, Shifted, ShiftBy, SaturateShift, Rotate, Count, Number, StatusMask}
use Rattle.insn.specs.declared.Operand.TheVariants.{StatusSource, WriteBack, List as RegisterList, Address, Memory, Option as BarrierOption}
use Rattle.insn.specs.declared.Operand.TheVariants.{Coprocessor, CoprocessorRegister}
use Rattle.insn_parts.specs.declared.Flat.{Flat}

-- whether a signed number is negative
abbrev pub sign_number : ℤ → ℕ
sign_number (pos n) = 0
sign_number (negsuc n) = 1

abbrev pub mark_number : Bool → ℕ
mark_number false = 0
mark_number true = 1

abbrev pub index_number : Option (Reg × ℕ) → ℕ
index_number None = 0
index_number (Some (r, n)) = 1

abbrev pub index_reg : Option (Reg × ℕ) → ℕ
index_reg None = 0
index_reg (Some (r, n)) = r.0

abbrev pub index_amount : Option (Reg × ℕ) → ℕ
index_amount None = 0
index_amount (Some (r, n)) = n

-- an operand as numbers: its kind, then its values, 0 where it has none
abbrev pub plain_flat : ℕ → ℕ → ℕ → ℕ → ℕ → ℕ → Flat
plain_flat kind reg how amount negative value = record {
  kind = kind;
  reg = reg;
  how = how;
  amount = amount;
  negative = negative;
  value = value;
  index = 0;
  mode = 0;
  size = 0;
  decimal = 0;
  minus = 0;
}

abbrev pub mem_flat : Mem → Flat
mem_flat m = record {
  kind = 13;
  reg = m.base.0;
  how = index_number m.index;
  amount = index_amount m.index;
  negative = sign_number m.disp;
  value = nat_abs m.disp;
  index = index_reg m.index;
  mode = mode_number m.mode;
  size = m.size;
  decimal = mark_number m.decimal;
  minus = mark_number m.minus_zero;
}

abbrev pub operand_flat : Operand → Flat
operand_flat Empty = plain_flat 0 0 0 0 0 0
operand_flat (Register r) = plain_flat 1 r.0 0 0 0 0
operand_flat (Shifted r k n) = plain_flat 2 r.0 (shift_number k) n 0 0
operand_flat (ShiftBy k r) = plain_flat 3 r.0 (shift_number k) 0 0 0
operand_flat (SaturateShift k n) = plain_flat 4 0 (shift_number k) n 0 0
operand_flat (Rotate n) = plain_flat 5 0 0 n 0 0
operand_flat (Count z) = plain_flat 6 0 0 0 (sign_number z) (nat_abs z)
operand_flat (Number n) = plain_flat 7 0 0 0 0 n
operand_flat (StatusMask n) = plain_flat 8 0 0 n 0 0
operand_flat (StatusSource s) = plain_flat 9 0 (status_number s) 0 0 0
operand_flat (WriteBack r) = plain_flat 10 r.0 0 0 0 0
operand_flat (RegisterList n) = plain_flat 11 0 0 0 0 n
operand_flat (Address n) = plain_flat 12 0 0 0 0 n
operand_flat (Memory m) = mem_flat m
operand_flat (BarrierOption n) = plain_flat 14 0 0 n 0 0
operand_flat (Coprocessor n) = plain_flat 15 0 0 n 0 0
operand_flat (CoprocessorRegister n) = plain_flat 16 0 0 n 0 0
