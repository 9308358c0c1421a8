-- Two instruction values are the same exactly if they are equal. Assumes nothing.
use mathlib.Core.Path.{◌≡◌, refl, sym, ap, ap₂, ◌∙◌, subst}
use mathlib.Core.Bool.{Bool, true, false, false≢true}
use mathlib.Core.List.{List, [], ◌∷◌}
use mathlib.Core.Logic.{◌↔◌}
use borrow.Author.Tests.{eqb-true, eq-eqb}
use Prim.Native.Nat.{ℕ}
use lib.Dec.{eqb}
use lib.IntN.{ℤ, pos, negsuc, nat_abs}
use Rattle.word.specs.Choice.{pick, both, parts}
use Rattle.word.specs.Signed.{minus}
use Rattle.insn.specs.Numbers.{shift_number, status_number, mode_number, flow_number, flow_target}
use Rattle.insn.specs.declared.Shift.{Shift}
use Rattle.insn.specs.declared.Shift.TheVariants.{Lsl, Lsr, Asr, Ror}
use Rattle.insn.specs.declared.Status.{Status}
use Rattle.insn.specs.declared.Status.TheVariants.{Apsr, Spsr}
use Rattle.insn.specs.declared.AddrMode.{AddrMode}
use Rattle.insn.specs.declared.AddrMode.TheVariants.{Offset, PreIndex, PostIndex}
use Rattle.std.specs.Prelude.{Option, Some, None}
use Rattle.insn.specs.declared.Reg.{Reg}
use Rattle.insn.specs.declared.Mem.{Mem}
use Rattle.insn.specs.declared.Operand.{Operand}
use Rattle.insn.specs.declared.Operand.TheVariants.{Empty, Register, Shifted, ShiftBy, SaturateShift, Rotate, Count, Number, StatusMask}
use Rattle.insn.specs.declared.Operand.TheVariants.{StatusSource, WriteBack, List as RegisterList, Address, Memory, Option as BarrierOption}
use Rattle.insn.specs.declared.Operand.TheVariants.{Coprocessor, CoprocessorRegister}
use Rattle.insn.specs.declared.Place.{Place}
use Rattle.insn.specs.declared.Flow.{Flow}
use Rattle.insn.specs.declared.Flow.TheVariants.{Next, Branch, CondBranch, IndirectBranch, Call, IndirectCall, Return, Trap}
use Rattle.insn.specs.declared.Insn.{Insn}
use Rattle.insn_parts.specs.declared.Flat.{Flat}
use Rattle.insn_parts.specs.Operands.{sign_number, mark_number, index_number, index_reg, index_amount, mem_flat, operand_flat}
use Rattle.insn_same.specs.Same.{same_starts, same_ends, same_flat, same_operand, same_places, same_flow, same_of}

-- the way back from the numbers

abbrev shift_back : ℕ → Shift
shift_back n = pick (eqb n 0) Lsl (pick (eqb n 1) Lsr (pick (eqb n 2) Asr Ror))

pub shift_back_lem : (k : Shift) → shift_back (shift_number k) ≡ k
shift_back_lem Lsl = refl
shift_back_lem Lsr = refl
shift_back_lem Asr = refl
shift_back_lem Ror = refl

abbrev status_back : ℕ → Status
status_back n = pick (eqb n 0) Apsr Spsr

pub status_back_lem : (s : Status) → status_back (status_number s) ≡ s
status_back_lem Apsr = refl
status_back_lem Spsr = refl

abbrev mode_back : ℕ → AddrMode
mode_back n = pick (eqb n 0) Offset (pick (eqb n 1) PreIndex PostIndex)

pub mode_back_lem : (m : AddrMode) → mode_back (mode_number m) ≡ m
mode_back_lem Offset = refl
mode_back_lem PreIndex = refl
mode_back_lem PostIndex = refl

abbrev mark_back : ℕ → Bool
mark_back n = pick (eqb n 0) false true

mark_back_lem : (b : Bool) → mark_back (mark_number b) ≡ b
mark_back_lem false = refl
mark_back_lem true = refl

abbrev signed_back : ℕ → ℕ → ℤ
signed_back s n = pick (eqb s 0) (pos n) (minus n)

signed_back_lem : (z : ℤ) → signed_back (sign_number z) (nat_abs z) ≡ z
signed_back_lem (pos n) = refl
signed_back_lem (negsuc n) = refl

abbrev index_back : ℕ → ℕ → ℕ → Option (Reg × ℕ)
index_back s r n = pick (eqb s 0) None (Some (record { 0 = r }, n))

index_back_lem : (i : Option (Reg × ℕ)) → index_back (index_number i) (index_reg i) (index_amount i) ≡ i
index_back_lem None = refl
index_back_lem (Some (r, n)) = refl

abbrev mem_back : Flat → Mem
mem_back f = record {
  base = record { 0 = f.reg };
  index = index_back f.how f.index f.amount;
  disp = signed_back f.negative f.value;
  mode = mode_back f.mode;
  size = f.size;
  decimal = mark_back f.decimal;
  minus_zero = mark_back f.minus;
}

mem_back_lem : (m : Mem) → mem_back (mem_flat m) ≡ m
mem_back_lem m = λ i. record {
  base = m.base;
  index = index_back_lem m.index i;
  disp = signed_back_lem m.disp i;
  mode = mode_back_lem m.mode i;
  size = m.size;
  decimal = mark_back_lem m.decimal i;
  minus_zero = mark_back_lem m.minus_zero i;
}

abbrev pub operand_back : Flat → Operand
operand_back f =
    pick (eqb f.kind 0) Empty
    (pick (eqb f.kind 1) (Register (record { 0 = f.reg }))
    (pick (eqb f.kind 2) (Shifted (record { 0 = f.reg }) (shift_back f.how) f.amount)
    (pick (eqb f.kind 3) (ShiftBy (shift_back f.how) (record { 0 = f.reg }))
    (pick (eqb f.kind 4) (SaturateShift (shift_back f.how) f.amount)
    (pick (eqb f.kind 5) (Rotate f.amount)
    (pick (eqb f.kind 6) (Count (signed_back f.negative f.value))
    (pick (eqb f.kind 7) (Number f.value)
    (pick (eqb f.kind 8) (StatusMask f.amount)
    (pick (eqb f.kind 9) (StatusSource (status_back f.how))
    (pick (eqb f.kind 10) (WriteBack (record { 0 = f.reg }))
    (pick (eqb f.kind 11) (RegisterList f.value)
    (pick (eqb f.kind 12) (Address f.value)
    (pick (eqb f.kind 13) (Memory (mem_back f))
    (pick (eqb f.kind 14) (BarrierOption f.amount)
    (pick (eqb f.kind 15) (Coprocessor f.amount) (CoprocessorRegister f.amount))))))))))))))))

pub operand_back_lem : (o : Operand) → operand_back (operand_flat o) ≡ o
operand_back_lem Empty = refl
operand_back_lem (Register r) = refl
operand_back_lem (Shifted r k n) = ap (λ (x : Shift). Shifted r x n) (shift_back_lem k)
operand_back_lem (ShiftBy k r) = ap (λ (x : Shift). ShiftBy x r) (shift_back_lem k)
operand_back_lem (SaturateShift k n) = ap (λ (x : Shift). SaturateShift x n) (shift_back_lem k)
operand_back_lem (Rotate n) = refl
operand_back_lem (Count z) = ap (λ (x : ℤ). Count x) (signed_back_lem z)
operand_back_lem (Number n) = refl
operand_back_lem (StatusMask n) = refl
operand_back_lem (StatusSource s) = ap (λ (x : Status). StatusSource x) (status_back_lem s)
operand_back_lem (WriteBack r) = refl
operand_back_lem (RegisterList n) = refl
operand_back_lem (Address n) = refl
operand_back_lem (Memory m) = ap (λ (x : Mem). Memory x) (mem_back_lem m)
operand_back_lem (BarrierOption n) = refl
operand_back_lem (Coprocessor n) = refl
operand_back_lem (CoprocessorRegister n) = refl

abbrev flow_back : ℕ → ℕ → Flow
flow_back n a =
    pick (eqb n 0) Next
    (pick (eqb n 1) (Branch a)
    (pick (eqb n 2) (CondBranch a)
    (pick (eqb n 3) IndirectBranch
    (pick (eqb n 4) (Call a) (pick (eqb n 5) IndirectCall (pick (eqb n 6) Return Trap))))))

pub flow_back_lem : (f : Flow) → flow_back (flow_number f) (flow_target f) ≡ f
flow_back_lem Next = refl
flow_back_lem (Branch a) = refl
flow_back_lem (CondBranch a) = refl
flow_back_lem IndirectBranch = refl
flow_back_lem (Call a) = refl
flow_back_lem IndirectCall = refl
flow_back_lem Return = refl
flow_back_lem Trap = refl

-- what is the same is equal

step : (a b : ℕ) (u : Bool) → both (eqb a b) u ≡ true → (a ≡ b) × (u ≡ true)
step a b u h = let s = parts (eqb a b) u h in (eqb-true a b s.0, s.1)

flat_equal : (x y : Flat) → same_flat x y ≡ true → x ≡ y
flat_equal x y h =
    let halves = parts (same_starts x y) (same_ends x y) h in
    let kind = step x.kind y.kind _ halves.0 in
    let reg = step x.reg y.reg _ kind.1 in
    let how = step x.how y.how _ reg.1 in
    let amount = step x.amount y.amount _ how.1 in
    let negative = step x.negative y.negative _ amount.1 in
    let index = step x.index y.index _ halves.1 in
    let mode = step x.mode y.mode _ index.1 in
    let size = step x.size y.size _ mode.1 in
    let decimal = step x.decimal y.decimal _ size.1 in
    λ i. record {
      kind = kind.0 i;
      reg = reg.0 i;
      how = how.0 i;
      amount = amount.0 i;
      negative = negative.0 i;
      value = eqb-true x.value y.value negative.1 i;
      index = index.0 i;
      mode = mode.0 i;
      size = size.0 i;
      decimal = decimal.0 i;
      minus = eqb-true x.minus y.minus decimal.1 i;
    }

operand_equal : (x y : Operand) → same_operand x y ≡ true → x ≡ y
operand_equal x y h = sym (operand_back_lem x) ∙ ap (λ (f : Flat). operand_back f) (flat_equal (operand_flat x) (operand_flat y) h) ∙ operand_back_lem y

places_equal : (ps qs : List Place) → same_places ps qs ≡ true → ps ≡ qs
places_equal [] [] h = refl
places_equal [] (q ∷ qs) h = absurd (false≢true h)
places_equal (p ∷ ps) (q ∷ qs) h =
    let s = parts (same_operand p.operand q.operand) (same_places ps qs) h in
    let first = operand_equal p.operand q.operand s.0 in
    let rest = places_equal ps qs s.1 in
    λ i. record { operand = first i } ∷ rest i
places_equal (p ∷ ps) [] h = absurd (false≢true h)

flow_equal : (x y : Flow) → same_flow x y ≡ true → x ≡ y
flow_equal x y h =
    let number = step (flow_number x) (flow_number y) _ h in
    let target = eqb-true (flow_target x) (flow_target y) number.1 in
    sym (flow_back_lem x) ∙ ap₂ flow_back number.0 target ∙ flow_back_lem y

insn_equal : (a b : Insn) → same_of a b ≡ true → a ≡ b
insn_equal a b h =
    let addr = step a.addr b.addr _ h in
    let name = step a.name b.name _ addr.1 in
    let cond = step a.cond.0 b.cond.0 _ name.1 in
    let rest = parts (same_flow a.flow b.flow) (same_places a.ops b.ops) cond.1 in
    let flow = flow_equal a.flow b.flow rest.0 in
    let ops = places_equal a.ops b.ops rest.1 in
    λ i. record {
      addr = addr.0 i;
      name = name.0 i;
      cond = record { 0 = cond.0 i };
      flow = flow i;
      ops = ops i;
    }

-- and a value is the same as itself

itself : (n : ℕ) → eqb n n ≡ true
itself n = eq-eqb n n refl

places_same : (ps : List Place) → same_places ps ps ≡ true
places_same [] = refl
places_same (p ∷ ps) = simp (itself, places_same ps)

insn_same : (a : Insn) → same_of a a ≡ true
insn_same a = simp (itself, places_same a.ops)

pub same_is : (a b : Insn) → (same_of a b ≡ true) ↔ (a ≡ b)
same_is a b = (insn_equal a b, λ e. subst (λ (x : Insn). same_of a x ≡ true) e (insn_same a))
