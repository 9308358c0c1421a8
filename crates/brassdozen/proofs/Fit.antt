-- The numbers of an accepted answer fit the types that a row's numbers are read as. Assumes nothing.
use mathlib.Core.Path.{◌≡◌, sym, ap, ◌∙◌, subst}
use Rattle.std.specs.Prelude.{Some, None}
use Rattle.word.specs.Refusal.{refused_with}
use mathlib.Core.Bool.{Bool, true, false}
use mathlib.Core.List.{List, [], ◌∷◌}
use Prim.Native.Nat.{ℕ, zero, suc, ◌^◌, ◌<◌}
use native.Mathlib.Omega.{arith}
use lib.IntN.{ℤ, pos, negsuc, nat_abs}
use lib.ListN.{length, get_or}
use Rattle.insn.specs.Answer.{place_at, insn_in}
use Rattle.insn.specs.Memory.{Index}
use Rattle.insn.specs.Numbers.{flow_target}
use Rattle.insn.specs.declared.Flow.{Flow}
use Rattle.insn.specs.declared.Flow.TheVariants.{Next, Branch, CondBranch, IndirectBranch, Call, IndirectCall, Return, Trap}
use Rattle.insn.specs.declared.Insn.{Insn}
use Rattle.insn.specs.declared.Operand.{Operand}
use Rattle.insn.specs.declared.Operand.TheVariants.{Empty, Register, Shifted, ShiftBy, SaturateShift, Rotate, Count, Number, StatusMask}
use Rattle.insn.specs.declared.Operand.TheVariants.{StatusSource, WriteBack, List as RegisterList, Address, Memory, Option}
use Rattle.insn.specs.declared.Operand.TheVariants.{Coprocessor, CoprocessorRegister}
use Rattle.insn.specs.declared.Place.{Place}
use Rattle.insn.proofs.Places.{places_length, place_at_lem}
use Rattle.a32.specs.Decode.{decode_of}
use Rattle.insn_row.proofs.Back as R
use Rattle.insn_row.proofs.Back.{magnitude, Narrow, Fits}
use Rattle.line_spelling.proofs.Formed.{Indexed, Sound, Laid, Aimed, target_in, Formed}
use Rattle.line_spelling.proofs.FormedAll.{all_good}

signed_narrow : (z : ℤ) → nat_abs z < 2 ^ 32 → magnitude z < 2 ^ 63
signed_narrow (pos n) h = omega arith
signed_narrow (negsuc n) h = omega arith

index_narrow : (x : Index) → Indexed x → R.Indexed x
index_narrow None h = tt
index_narrow (Some (r, n)) h = (omega (arith, h.0), omega (arith, h.1))

narrow : (last : Bool) (name : ℕ) (o : Operand) → Sound last name o → Narrow o
narrow last name Empty h = tt
narrow last name (Register r) h = omega arith
narrow last name (Shifted r kind n) h = (omega (arith, h.0), omega (arith, h.1))
narrow last name (ShiftBy kind r) h = omega arith
narrow last name (SaturateShift kind n) h = omega (arith, h.1)
narrow last name (Rotate n) h = omega arith
narrow last name (Count z) h = signed_narrow z h.1
narrow last name (Number n) h = h.1
narrow last name (StatusMask n) h = omega arith
narrow last name (StatusSource s) h = tt
narrow last name (WriteBack r) h = omega arith
narrow last name (RegisterList n) h = h
narrow last name (Address n) h = h
narrow last name (Memory m) h = (
  omega (arith, h.1.base),
  (
    index_narrow m.index h.1.index,
    (
      signed_narrow m.disp (omega (arith, h.1.disp)),
      omega (arith, h.1.size),
    ),
  ),
)
narrow last name (Option n) h = omega (arith, h.1)
narrow last name (Coprocessor n) h = omega arith
narrow last name (CoprocessorRegister n) h = omega arith

-- the address at place 0, if one is there
address_narrow : (last : Bool) (name : ℕ) (o : Operand) (os : List Operand) → Sound last name o → target_in (o ∷ os) < 2 ^ 32
address_narrow last name Empty os h = omega arith
address_narrow last name (Register r) os h = omega arith
address_narrow last name (Shifted r kind n) os h = omega arith
address_narrow last name (ShiftBy kind r) os h = omega arith
address_narrow last name (SaturateShift kind n) os h = omega arith
address_narrow last name (Rotate n) os h = omega arith
address_narrow last name (Count z) os h = omega arith
address_narrow last name (Number n) os h = omega arith
address_narrow last name (StatusMask n) os h = omega arith
address_narrow last name (StatusSource s) os h = omega arith
address_narrow last name (WriteBack r) os h = omega arith
address_narrow last name (RegisterList n) os h = omega arith
address_narrow last name (Address n) os h = h
address_narrow last name (Memory m) os h = omega arith
address_narrow last name (Option n) os h = omega arith
address_narrow last name (Coprocessor n) os h = omega arith
address_narrow last name (CoprocessorRegister n) os h = omega arith

places_narrow : (name : ℕ) (os : List Operand) → Laid name os → target_in os < 2 ^ 32
places_narrow name [] h = omega arith
places_narrow name (o ∷ []) h = address_narrow true name o [] h
places_narrow name (o ∷ p ∷ os) h = address_narrow false name o (p ∷ os) h.0

target_narrow : (os : List Operand) (f : Flow) → target_in os < 2 ^ 32 → Aimed os f → flow_target f < 2 ^ 32
target_narrow os Next h e = omega arith
target_narrow os (Branch a) h e = omega (arith, e)
target_narrow os (CondBranch a) h e = omega (arith, e)
target_narrow os IndirectBranch h e = omega arith
target_narrow os (Call a) h e = omega (arith, e)
target_narrow os IndirectCall h e = omega arith
target_narrow os Return h e = omega arith
target_narrow os Trap h e = omega arith

-- operand n, or the empty one
operands_narrow : (name : ℕ) (os : List Operand) → Laid name os → (n : ℕ) → Narrow (get_or os n Empty)
operands_narrow name [] h n = tt
operands_narrow name (o ∷ []) h zero = narrow true name o h
operands_narrow name (o ∷ []) h (suc n) = tt
operands_narrow name (o ∷ p ∷ os) h zero = narrow false name o h.0
operands_narrow name (o ∷ p ∷ os) h (suc n) = operands_narrow name (p ∷ os) h.1 n

answer_fits : {addr : ℕ} (i : Insn) → Formed addr i → Fits i
answer_fits i f = record {
  name = omega (arith, f.named);
  cond = omega (arith, f.under);
  target = target_narrow f.operands i.flow (places_narrow i.name f.operands f.sound) f.aimed;
  places = ap length f.laid ∙ places_length f.operands f.few;
  operands = λ n.
      subst (λ (p : Place). Narrow p.operand) (sym (ap (λ (ops : List Place). place_at ops n) f.laid ∙ place_at_lem f.operands n))
      (operands_narrow i.name f.operands f.sound n);
}

pub fits : (w addr : ℕ) → refused_with (decode_of w addr) ≡ 0 → Fits (insn_in (decode_of w addr))
fits w addr ok = answer_fits (insn_in (decode_of w addr)) ((all_good w addr).formed ok)
