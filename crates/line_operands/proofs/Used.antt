-- The text of a place that is used. Assumes nothing.
use mathlib.Core.Path.{◌≡◌, refl}
use mathlib.Core.List.{◌++◌}
use Rattle.insn.specs.declared.Operand.{Operand}
use Rattle.insn.specs.declared.Operand.TheVariants.{Empty, Register, Shifted, ShiftBy, SaturateShift, Rotate, Count, Number, StatusMask}
use Rattle.insn.specs.declared.Operand.TheVariants.{StatusSource, WriteBack, List, Address, Memory, Option}
use Rattle.insn.specs.declared.Operand.TheVariants.{Coprocessor, CoprocessorRegister}
use Rattle.text.specs.Text.{bytes}
use Rattle.line_spelling.specs.Line.{operand_text, place_text}

pub used : (o : Operand) → (o ≡ Empty → ⊥) → place_text o ≡ bytes " " ++ operand_text o
unfolding place_text
used Empty some = absurd (some refl)
used (Register r) some = refl
used (Shifted r kind n) some = refl
used (ShiftBy kind r) some = refl
used (SaturateShift kind n) some = refl
used (Rotate n) some = refl
used (Count z) some = refl
used (Number n) some = refl
used (StatusMask n) some = refl
used (StatusSource s) some = refl
used (WriteBack r) some = refl
used (List n) some = refl
used (Address n) some = refl
used (Memory m) some = refl
used (Option n) some = refl
used (Coprocessor n) some = refl
used (CoprocessorRegister n) some = refl
