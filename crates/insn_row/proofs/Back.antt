-- A row reads back as the value that it is the row of, whatever stands after it. Assumes nothing.
use mathlib.Core.Path.{◌≡◌, refl, ap, ap₂, ◌∙◌}
use mathlib.Core.Bool.{Bool, true, false, not}
use mathlib.Core.List.{List, [], ◌∷◌, ◌++◌, append_assoc}
use Prim.Native.Nat.{ℕ, zero, suc, ◌+◌, ◌*◌, ◌-◌, ◌%◌, ◌^◌, ◌≤◌, ◌<◌}
use native.Mathlib.Nat.{mod-eq_of_lt, sub-zero, add_assoc}
use native.Mathlib.Omega.{arith}
use lib.Dec.{eqb}
use lib.IntN.{ℤ, pos, negsuc, nat_abs}
use lib.ListN.{length, get_or, take, drop, length-append}
use lib.Seq.{take-suc, take_all, get_or-append-add}
use Rattle.word.specs.Choice.{pick}
use Rattle.insn.specs.Answer.{PLACES, used, unused, place_at, insn_of}
use Rattle.insn.specs.Numbers.{flow_number, flow_target}
use Rattle.std.specs.Prelude.{Option, Some, None}
use Rattle.insn.specs.declared.Insn.{Insn}
use Rattle.insn.specs.declared.Mem.{Mem}
use Rattle.insn.specs.declared.Operand.{Operand}
use Rattle.insn.specs.declared.Operand.TheVariants.{Empty, Register, Shifted, ShiftBy, SaturateShift, Rotate, Count, Number, StatusMask}
use Rattle.insn.specs.declared.Operand.TheVariants.{StatusSource, WriteBack, List as RegisterList, Address, Memory, Option as BarrierOption}
use Rattle.insn.specs.declared.Operand.TheVariants.{Coprocessor, CoprocessorRegister}
use Rattle.insn.specs.declared.Place.{Place}
use Rattle.insn.specs.declared.Reg.{Reg}
use Rattle.insn.specs.declared.Status.{Status}
use Rattle.insn.proofs.Places.{in_turn}
use Rattle.insn_parts.specs.Operands.{sign_number, mark_number, index_number, index_reg, index_amount}
use Rattle.insn_same.proofs.Exact.{shift_back_lem, status_back_lem, mode_back_lem, flow_back_lem}
use Rattle.insn_value.specs.Value.{flow_from, signed_from, index_from, mem_from, operand_from, places_from, insn_from}
use Rattle.insn_row.specs.Row.{operand_row, places_row, row_of}
use Rattle.insn_row.proofs.Sizes.{size_before}

-- the numbers of an operand fit the types that hold them

-- a number beside its sign, as a row has it
abbrev pub magnitude : ℤ → ℕ
magnitude z = nat_abs z - sign_number z

abbrev pub Indexed : Option (Reg × ℕ) → Type 0
Indexed None = Unit
Indexed (Some (r, n)) = (r.0 < 2 ^ 8) × (n < 2 ^ 8)

abbrev pub Narrow : Operand → Type 0
Narrow Empty = Unit
Narrow (Register r) = r.0 < 2 ^ 8
Narrow (Shifted r kind n) = (r.0 < 2 ^ 8) × (n < 2 ^ 8)
Narrow (ShiftBy kind r) = r.0 < 2 ^ 8
Narrow (SaturateShift kind n) = n < 2 ^ 8
Narrow (Rotate n) = n < 2 ^ 8
Narrow (Count z) = magnitude z < 2 ^ 63
Narrow (Number n) = n < 2 ^ 32
Narrow (StatusMask n) = n < 2 ^ 8
Narrow (StatusSource s) = Unit
Narrow (WriteBack r) = r.0 < 2 ^ 8
Narrow (RegisterList n) = n < 2 ^ 16
Narrow (Address n) = n < 2 ^ 32
Narrow (Memory m) = (m.base.0 < 2 ^ 8) × (Indexed m.index × ((magnitude m.disp < 2 ^ 63) × (m.size < 2 ^ 8)))
Narrow (BarrierOption n) = n < 2 ^ 8
Narrow (Coprocessor n) = n < 2 ^ 8
Narrow (CoprocessorRegister n) = n < 2 ^ 8

-- and so do those of each operand, and all of an instruction
pub record Fits (i : Insn) : Type 0 where
  pub name : i.name < 2 ^ 16
  pub cond : i.cond.0 < 2 ^ 8
  pub target : flow_target i.flow < 2 ^ 32
  pub places : length i.ops ≡ PLACES
  pub operands : (n : ℕ) → Narrow (place_at i.ops n).operand

-- each part of a row leads back to what it was made of

reg_back : (r : Reg) → r.0 < 2 ^ 8 → record { 0 = r.0 % 2 ^ 8 } ≡ r
reg_back r h = λ i. record { 0 = mod-eq_of_lt h i }

mark_back : (b : Bool) → not (eqb (mark_number b) 0) ≡ b
mark_back false = refl
mark_back true = refl

-- a number without a sign
plain_back : {n m : ℕ} → n < m → (n - 0) % m ≡ n
plain_back {n = n} h = rw (sub-zero n) (mod-eq_of_lt h)

signed_back : (z : ℤ) → magnitude z < 2 ^ 63 → signed_from (sign_number z ∷ magnitude z ∷ []) 0 ≡ z
signed_back (pos n) h = ap (λ (x : ℕ). pos x) (mod-eq_of_lt h ∙ sub-zero n)
signed_back (negsuc n) h = ap (λ (x : ℕ). negsuc x) (mod-eq_of_lt h ∙ omega arith)

index_back : (m : Mem) → Indexed m.index → index_from (operand_row (Memory m)) 0 ≡ m.index
index_back m = of m.index
  where
    of : (x : Option (Reg × ℕ)) → Indexed x → pick (not (eqb (index_number x) 0)) (Some (record { 0 = index_reg x % 2 ^ 8 }, index_amount x % 2 ^ 8)) None ≡ x
    of None h = refl
    of (Some (r, n)) h = ap₂ (λ (x : Reg) (y : ℕ). Some (x, y)) (reg_back r h.0) (mod-eq_of_lt h.1)

mem_back : (m : Mem) → Narrow (Memory m) → mem_from (operand_row (Memory m)) 0 ≡ m
mem_back m h = λ i. record {
  base = reg_back m.base h.0 i;
  index = index_back m h.1.0 i;
  disp = signed_back m.disp h.1.1.0 i;
  mode = mode_back_lem m.mode i;
  size = mod-eq_of_lt h.1.1.1 i;
  decimal = mark_back m.decimal i;
  minus_zero = mark_back m.minus_zero i;
}

operand_back : (o : Operand) → Narrow o → operand_from (operand_row o) 0 ≡ o
operand_back Empty h = refl
operand_back (Register r) h = ap (λ (x : Reg). Register x) (reg_back r h)
operand_back (Shifted r kind n) h = λ i. Shifted (reg_back r h.0 i) (shift_back_lem kind i) (mod-eq_of_lt h.1 i)
operand_back (ShiftBy kind r) h = λ i. ShiftBy (shift_back_lem kind i) (reg_back r h i)
operand_back (SaturateShift kind n) h = λ i. SaturateShift (shift_back_lem kind i) (mod-eq_of_lt h i)
operand_back (Rotate n) h = ap (λ (x : ℕ). Rotate x) (mod-eq_of_lt h)
operand_back (Count z) h = ap (λ (x : ℤ). Count x) (signed_back z h)
operand_back (Number n) h = ap (λ (x : ℕ). Number x) (plain_back h)
operand_back (StatusMask n) h = ap (λ (x : ℕ). StatusMask x) (mod-eq_of_lt h)
operand_back (StatusSource s) h = ap (λ (x : Status). StatusSource x) (status_back_lem s)
operand_back (WriteBack r) h = ap (λ (x : Reg). WriteBack x) (reg_back r h)
operand_back (RegisterList n) h = ap (λ (x : ℕ). RegisterList x) (plain_back h)
operand_back (Address n) h = ap (λ (x : ℕ). Address x) (plain_back h)
operand_back (Memory m) h = ap (λ (x : Mem). Memory x) (mem_back m h)
operand_back (BarrierOption n) h = ap (λ (x : ℕ). BarrierOption x) (mod-eq_of_lt h)
operand_back (Coprocessor n) h = ap (λ (x : ℕ). Coprocessor x) (mod-eq_of_lt h)
operand_back (CoprocessorRegister n) h = ap (λ (x : ℕ). CoprocessorRegister x) (mod-eq_of_lt h)

-- an operand is read from its own numbers, whatever stands before them
head_at : (xs ys : List ℕ) → get_or (xs ++ ys) (length xs) 0 ≡ get_or ys 0 0
head_at [] ys = refl
head_at (x ∷ xs) ys = head_at xs ys

reads_at : (xs ys : List ℕ) → operand_from (xs ++ ys) (length xs) ≡ operand_from ys 0
reads_at xs ys = simp (add_assoc, head_at xs ys, get_or-append-add xs ys)

module _ (xs : List ℕ) (ps : List Place) (rest : List ℕ) (head : length xs ≡ 5) (narrow : (n : ℕ) → Narrow (place_at ps n).operand) where
  place_back : (n : ℕ) → n < length ps → operand_from (xs ++ (places_row ps ++ rest)) (5 + 11 * n) ≡ (place_at ps n).operand
  place_back n there =
      rw (cut, ← before) (reads_at (xs ++ places_row (take n ps)) _)
      ∙ operand_back (place_at ps n).operand (narrow n)
    where
      cut : xs ++ (places_row ps ++ rest) ≡ (xs ++ places_row (take n ps)) ++ (operand_row (place_at ps n).operand ++
          (places_row (drop (suc n) ps) ++ rest))
      cut = rw (in_turn operand_row ps n there) (simp append_assoc)

      before : length (xs ++ places_row (take n ps)) ≡ 5 + 11 * n
      before = simp length-append (omega (arith, size_before ps n (omega arith)))

  places_back : (n : ℕ) → n ≤ length ps → places_from (xs ++ (places_row ps ++ rest)) n ≡ take n ps
  places_back zero within = refl
  places_back (suc n) within =
      rw (take-suc ps n unused (omega arith), places_back n (omega arith))
      (ap (λ (o : Operand). take n ps ++ (used o ∷ [])) (place_back n (omega arith)))

pub row_back : (i : Insn) (rest : List ℕ) → Fits i → insn_from (row_of i ++ rest) ≡ i
row_back i rest fits = λ j.
    insn_of i.addr (mod-eq_of_lt fits.name j) (record { 0 = mod-eq_of_lt fits.cond j })
    ((ap (λ (t : ℕ). flow_from (flow_number i.flow) t) (mod-eq_of_lt fits.target) ∙ flow_back_lem i.flow) j)
    (ops j)
  where
    ops : places_from (row_of i ++ rest) PLACES ≡ i.ops
    ops =
        places_back (i.addr ∷ i.name ∷ i.cond.0 ∷ flow_number i.flow ∷ flow_target i.flow ∷ []) i.ops rest refl fits.operands PLACES
        (omega (arith, fits.places))
        ∙ take_all PLACES i.ops (omega (arith, fits.places))
