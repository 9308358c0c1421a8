-- An operand's kind, of its numbers, is its own number; only the empty one has 0, and only a register 1. Assumes nothing.
use mathlib.Core.Path.{◌≡◌, refl, sym, ap, ap₂, ◌∙◌}
use mathlib.Core.Bool.{true}
use Rattle.insn.specs.Numbers.{operand_number}
use Rattle.insn.specs.declared.Operand.{Operand}
use Rattle.insn.specs.declared.Operand.TheVariants.{Empty, Register, Shifted, ShiftBy, SaturateShift, Rotate, Count, Number, StatusMask}
use Rattle.insn.specs.declared.Operand.TheVariants.{StatusSource, WriteBack, List, Address, Memory, Option}
use Rattle.insn.specs.declared.Operand.TheVariants.{Coprocessor, CoprocessorRegister}
use Rattle.insn_parts.specs.declared.Flat.{Flat}
use Rattle.insn_parts.specs.Operands.{plain_flat, operand_flat}
use Rattle.insn_same.specs.Same.{same_ends}
use Rattle.insn_same.proofs.Exact.{operand_back_lem}

pub kind_is : (o : Operand) → (operand_flat o).kind ≡ operand_number o
kind_is Empty = refl
kind_is (Register r) = refl
kind_is (Shifted r k n) = refl
kind_is (ShiftBy k r) = refl
kind_is (SaturateShift k n) = refl
kind_is (Rotate n) = refl
kind_is (Count z) = refl
kind_is (Number n) = refl
kind_is (StatusMask n) = refl
kind_is (StatusSource s) = refl
kind_is (WriteBack r) = refl
kind_is (List n) = refl
kind_is (Address n) = refl
kind_is (Memory m) = refl
kind_is (Option n) = refl
kind_is (Coprocessor n) = refl
kind_is (CoprocessorRegister n) = refl

-- an operand is what its numbers make it: so is one of a kind
pub none_is : (o : Operand) → operand_number o ≡ 0 → o ≡ Empty
none_is o h = let kind : (operand_flat o).kind ≡ 0 = kind_is o ∙ h in sym (operand_back_lem o) ∙ simp kind

pub register_is : (o : Operand) → operand_number o ≡ 1 → operand_flat o ≡ plain_flat 1 (operand_flat o).reg 0 0 0 0
register_is o h = let kind : (operand_flat o).kind ≡ 1 = kind_is o ∙ h in ap operand_flat (sym (operand_back_lem o)) ∙ simp kind

-- only a memory form has numbers after the first six
abbrev Plain : Flat → Type 0
Plain f = f ≡ plain_flat f.kind f.reg f.how f.amount f.negative f.value

plain_is : (o : Operand) → (operand_number o ≡ 13 → ⊥) → Plain (operand_flat o)
plain_is Empty h = refl
plain_is (Register r) h = refl
plain_is (Shifted r k n) h = refl
plain_is (ShiftBy k r) h = refl
plain_is (SaturateShift k n) h = refl
plain_is (Rotate n) h = refl
plain_is (Count z) h = refl
plain_is (Number n) h = refl
plain_is (StatusMask n) h = refl
plain_is (StatusSource s) h = refl
plain_is (WriteBack r) h = refl
plain_is (List n) h = refl
plain_is (Address n) h = refl
plain_is (Memory m) h = absurd (h refl)
plain_is (Option n) h = refl
plain_is (Coprocessor n) h = refl
plain_is (CoprocessorRegister n) h = refl

pub plain_ends : (x y : Operand) → (operand_number x ≡ 13 → ⊥) → (operand_number y ≡ 13 → ⊥) → same_ends (operand_flat x) (operand_flat y) ≡ true
plain_ends x y h k = ap₂ same_ends (plain_is x h) (plain_is y k)
