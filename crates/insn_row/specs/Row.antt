-- The row of numbers of an instruction value, in the order in which `insnFrom` of the crate `value` reads it.
use Rattle.std.specs.Prelude.{◌≡◌, Bool, true, List, [], ◌∷◌, ◌++◌, ℕ, zero, suc, ◌+◌, ◌*◌, ◌-◌, eqb, get_or}
use Rattle.word.specs.Choice.{both}
use Rattle.insn.specs.Answer.{PLACES, spread}
use Rattle.insn.specs.Numbers.{flow_number, flow_target}
use Rattle.insn.specs.declared.Operand.{Operand}
use Rattle.insn.specs.declared.Place.{Place}
use Rattle.insn.specs.declared.Insn.{Insn}
use Rattle.insn_parts.specs.declared.Flat.{Flat}
use Rattle.insn_parts.specs.Operands.{operand_flat}

-- an operand's eleven numbers: kind; register or base; shift's kind, status register or whether there is an index; amount, mask, option or
-- coprocessor's number; sign; value or displacement, of a negative one its complement: minus one is a sign and 0
abbrev pub first_row : Flat → List ℕ
first_row f = f.kind ∷ f.reg ∷ f.how ∷ f.amount ∷ f.negative ∷ (f.value - f.negative) ∷ []

-- index; mode; size; decimal; minus zero
abbrev pub last_row : Flat → List ℕ
last_row f = f.index ∷ f.mode ∷ f.size ∷ f.decimal ∷ f.minus ∷ []

abbrev pub flat_row : Flat → List ℕ
flat_row f = first_row f ++ last_row f

abbrev pub operand_row : Operand → List ℕ
operand_row o = flat_row (operand_flat o)

abbrev pub places_row : List Place → List ℕ
places_row = spread operand_row

-- address, name, condition, flow and its target, then the operands
abbrev pub row_of : Insn → List ℕ
row_of i =
    i.addr ∷ i.name ∷ i.cond.0 ∷ flow_number i.flow ∷ flow_target i.flow ∷ places_row i.ops

-- a row's numbers: five, and eleven for each operand
abbrev pub ROW : ℕ
ROW = 5 + 11 * PLACES

-- so many numbers of a row from place p on; beyond its end there are zeros
abbrev pub numbers_of : List ℕ → ℕ → ℕ → List ℕ
numbers_of row p zero = []
numbers_of row p (suc n) = get_or row p 0 ∷ numbers_of row (suc p) n

-- whether these numbers are those of a row from place p on
abbrev pub holds : List ℕ → ℕ → List ℕ → Bool
holds row p [] = true
holds row p (x ∷ xs) = both (eqb (get_or row p 0) x) (holds row (suc p) xs)

-- what a comparison gives
pub record Told (row : List ℕ) (p : ℕ) (numbers : List ℕ) (r : Bool) : Type 0 where
  pub is : r ≡ holds row p numbers
