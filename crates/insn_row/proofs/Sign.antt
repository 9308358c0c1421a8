-- A negative number is not zero, so its complement is a number. Assumes nothing.
use Prim.Native.Nat.{◌≤◌}
use native.Mathlib.Omega.{arith}
use lib.IntN.{ℤ, pos, negsuc, nat_abs}
use Rattle.insn.specs.declared.Operand.{Operand}
use Rattle.insn.specs.declared.Operand.TheVariants.{Empty, Register, Shifted, ShiftBy, SaturateShift, Rotate, Count, Number, StatusMask}
use Rattle.insn.specs.declared.Operand.TheVariants.{StatusSource, WriteBack, List as RegisterList, Address, Memory, Option as BarrierOption}
use Rattle.insn.specs.declared.Operand.TheVariants.{Coprocessor, CoprocessorRegister}
use Rattle.insn_parts.specs.Operands.{sign_number, operand_flat}

signed : (z : ℤ) → sign_number z ≤ nat_abs z
signed (pos n) = omega arith
signed (negsuc n) = omega arith

pub sign_below : (o : Operand) → (operand_flat o).negative ≤ (operand_flat o).value
sign_below Empty = omega arith
sign_below (Register r) = omega arith
sign_below (Shifted r kind n) = omega arith
sign_below (ShiftBy kind r) = omega arith
sign_below (SaturateShift kind n) = omega arith
sign_below (Rotate n) = omega arith
sign_below (Count z) = signed z
sign_below (Number n) = omega arith
sign_below (StatusMask n) = omega arith
sign_below (StatusSource s) = omega arith
sign_below (WriteBack r) = omega arith
sign_below (RegisterList n) = omega arith
sign_below (Address n) = omega arith
sign_below (Memory m) = signed m.disp
sign_below (BarrierOption n) = omega arith
sign_below (Coprocessor n) = omega arith
sign_below (CoprocessorRegister n) = omega arith
