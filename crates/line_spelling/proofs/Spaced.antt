-- The text of a formed instruction: its name, its operands and its flow, a space before each but the first. Assumes nothing.
use mathlib.Core.Path.{◌≡◌, refl, ap, ◌∙◌}
use mathlib.Core.Bool.{Bool, true, false}
use mathlib.Core.List.{List, [], ◌∷◌, ◌++◌, map, append-nil, append_assoc}
use Prim.Native.Nat.{ℕ, ◌-◌}
use Prim.Native.Char.{code}
use lib.ListN.{length, replicate}
use Rattle.insn.specs.Answer.{PLACES, used, unused, places}
use Rattle.insn.specs.declared.Insn.{Insn}
use Rattle.insn.specs.declared.Operand.{Operand}
use Rattle.insn.specs.declared.Operand.TheVariants.{Empty, Register, Shifted, ShiftBy, SaturateShift, Rotate, Count, Number, StatusMask}
use Rattle.insn.specs.declared.Operand.TheVariants.{StatusSource, WriteBack, List as RegisterList, Address, Memory, Option}
use Rattle.insn.specs.declared.Operand.TheVariants.{Coprocessor, CoprocessorRegister}
use Rattle.insn.proofs.Places.{spread_append, spread_unused}
use Rattle.line_spelling.specs.Line.{name_text, operand_text, place_text, places_text, flow_text, insn_text}
use Rattle.line_spelling.proofs.Formed.{Sound, Laid, Formed}

-- each operand after a space, and then a text
abbrev pub spaced : List Operand → List ℕ → List ℕ
spaced [] rest = rest
spaced (o ∷ os) rest = code " " ∷ operand_text o ++ spaced os rest

module _ (last : Bool) (name : ℕ) where
  standing : (o : Operand) → Sound last name o → place_text o ≡ code " " ∷ operand_text o
  unfolding place_text
  standing Empty s = absurd s
  standing (Register r) s = refl
  standing (Shifted r kind n) s = refl
  standing (ShiftBy kind r) s = refl
  standing (SaturateShift kind n) s = refl
  standing (Rotate n) s = refl
  standing (Count z) s = refl
  standing (Number n) s = refl
  standing (StatusMask n) s = refl
  standing (StatusSource t) s = refl
  standing (WriteBack r) s = refl
  standing (RegisterList n) s = refl
  standing (Address n) s = refl
  standing (Memory m) s = refl
  standing (Option n) s = refl
  standing (Coprocessor n) s = refl
  standing (CoprocessorRegister n) s = refl

in_order : (name : ℕ) (ops : List Operand) → Laid name ops → (rest : List ℕ) → places_text (map used ops) ++ rest ≡ spaced ops rest
in_order name [] laid rest = refl
in_order name (o ∷ []) s rest = simp (standing true name o s, append_assoc)
in_order name (o ∷ p ∷ os) laid rest =
    append_assoc (place_text o) (places_text (map used (p ∷ os))) rest
    ∙ rw (in_order name (p ∷ os) laid.1 rest, standing false name o laid.0)

nothing : place_text Empty ≡ []
nothing = unfold place_text in refl

placed : (name : ℕ) (ops : List Operand) → Laid name ops → (rest : List ℕ) → places_text (places ops) ++ rest ≡ spaced ops rest
placed name ops laid rest =
    rw (
      spread_append place_text (map used ops) (replicate (PLACES - length ops) unused),
      spread_unused place_text nothing (PLACES - length ops),
      append-nil (places_text (map used ops)),
    )
    (in_order name ops laid rest)

pub insn_text_lem : {addr : ℕ} (i : Insn) (f : Formed addr i) → insn_text i ≡ name_text i.name i.cond ++
    spaced f.operands (code " " ∷ flow_text i.flow)
insn_text_lem i f = unfold insn_text in
    simp (f.laid, append_assoc)
    (ap (λ (xs : List ℕ). name_text i.name i.cond ++ xs) (placed i.name f.operands f.sound (code " " ∷ flow_text i.flow)))
