-- "a line takes at most 96 bytes". Assumes nothing.
use mathlib.Core.Path.{◌≡◌, refl, subst, sym, ap}
use Rattle.insn.specs.Memory.{Index}
use Rattle.std.specs.Prelude.{Some, None}
use Rattle.word.specs.Refusal.{refused_with}
use mathlib.Core.Bool.{Bool, true, false}
use mathlib.Core.List.{List, [], ◌∷◌}
use Prim.Native.Nat.{ℕ, ◌+◌, ◌<◌, ◌≤◌}
use Prim.Native.Char.{code}
use native.Mathlib.Omega.{arith}
use borrow.Author.Tests.{eqb-true}
use lib.Dec.{eqb, lit≤}
use lib.IntN.{nat_abs}
use lib.ListN.{length, length-append}
use Rattle.word.specs.Choice.{pick, tested}
use Rattle.insn.specs.Roots.{NAMES, roots}
use Rattle.insn.specs.Numbers.{shift_number, flow_number}
use Rattle.insn.specs.declared.AddrMode.{AddrMode}
use Rattle.insn.specs.declared.AddrMode.TheVariants.{Offset, PreIndex, PostIndex}
use Rattle.insn.specs.declared.Cond.{Cond}
use Rattle.insn.specs.Answer.{Decoded, insn_in}
use Rattle.insn.specs.declared.Flow.{Flow}
use Rattle.insn.specs.declared.Insn.{Insn}
use Rattle.insn.specs.declared.Mem.{Mem}
use Rattle.insn.specs.declared.Operand.{Operand}
use Rattle.insn.specs.declared.Operand.TheVariants.{Empty, Register, Shifted, ShiftBy, SaturateShift, Rotate, Count, Number, StatusMask}
use Rattle.insn.specs.declared.Operand.TheVariants.{StatusSource, WriteBack, List as RegisterList, Address, Memory, Option}
use Rattle.insn.specs.declared.Operand.TheVariants.{Coprocessor, CoprocessorRegister}
use Rattle.insn.specs.declared.Reg.{Reg}
use Rattle.insn.specs.declared.Shift.{Shift}
use Rattle.insn.specs.declared.Status.TheVariants.{Apsr, Spsr}
use Rattle.a32.specs.Decode.{decode_of}
use Rattle.line_spelling.specs.Names.{suffixes, masks, shifts, barriers, registers, coprocessors, co_registers, flows}
use Rattle.line_spelling.specs.Line.{name_text, register_text, shift_text, index_text, displacement_text, mode_text, memory_text, operand_text}
use Rattle.line_spelling.specs.Line.{flow_text, insn_text}
use Rattle.line_spelling.specs.Line.{refused_text, answer_text, line_text, line_of}
use Rattle.line_spelling.proofs.Digits.{decimal_length, signed_length, hex_length}
use Rattle.line_spelling.proofs.Formed.{Sound, Laid, width_of, room_for, Held, Indexed, Formed, Good, either}
use Rattle.line_spelling.proofs.FormedAll.{all_good}
use Rattle.line_spelling.proofs.Names.{whole}
use Rattle.line_spelling.proofs.Spaced.{spaced, insn_text_lem}
use Rattle.line_spelling.proofs.Tables.{at_most, shift_few, flow_few}

name_length : (n : ℕ) (c : Cond) → n < NAMES → c.0 < 16 → length (name_text n c) ≤ 9
name_length n c h k = unfold name_text in
    simp length-append
    (omega (arith, simp length-append at (ap length (whole n)), at_most roots 7 NAMES tt n h, at_most suffixes 2 16 tt c.0 k))

register_length : (r : Reg) → r.0 < 16 → length (register_text r) ≤ 3
register_length r h = unfold register_text in at_most registers 3 16 tt r.0 h

shift_length : (kind : Shift) → length (shift_text kind) ≤ 3
shift_length kind = unfold shift_text in at_most shifts 3 4 tt (shift_number kind) (shift_few kind)

flow_length : (flow : Flow) → length (flow_text flow) ≤ 5
flow_length flow = unfold flow_text in at_most flows 5 8 tt (flow_number flow) (flow_few flow)

index_length : (x : Index) → Indexed x → length (index_text x) ≤ 6
unfolding index_text
index_length None h = lit≤ tt
index_length (Some (r, n)) h = simp length-append (omega (arith, register_length r h.0, decimal_length 1 n (omega (arith, h.1))))

mode_length : (mode : AddrMode) → length (mode_text mode) ≡ 1
unfolding mode_text
mode_length Offset = refl
mode_length PreIndex = refl
mode_length PostIndex = refl

displacement_length : (m : Mem) → nat_abs m.disp < 4096 → length (displacement_text m) ≤ 5
unfolding displacement_text
displacement_length m h = either (λ (xs : List ℕ). length xs ≤ 5) m.minus_zero (lit≤ tt) (signed_length 3 m.disp (omega arith))

memory_length : (name : ℕ) (m : Mem) → Held name m → length (memory_text m) ≤ 22
memory_length name m h = unfold memory_text in
    simp length-append
    (omega (
      arith,
      register_length m.base h.base,
      index_length m.index h.index,
      displacement_length m h.disp,
      mode_length m.mode,
      decimal_length 0 m.size h.size,
    ))

-- what a memory form takes beyond another operand: it stands last
abbrev more : Bool → ℕ
more last = pick last 10 0

operand_length : (last : Bool) (name : ℕ) (o : Operand) → Sound last name o → length (operand_text o) ≤ width_of o + more last
unfolding operand_text
operand_length last name Empty s = absurd s
operand_length last name (Register r) s = omega (arith, register_length r s)
operand_length last name (Shifted r kind n) s =
    simp length-append (omega (arith, register_length r s.0, shift_length kind, decimal_length 1 n (omega (arith, s.1))))
operand_length last name (ShiftBy kind r) s = simp length-append (omega (arith, shift_length kind, register_length r s))
operand_length last name (SaturateShift kind n) s = simp length-append (omega (arith, shift_length kind, decimal_length 1 n (omega (arith, s.1))))
operand_length last name (Rotate n) s = omega (arith, decimal_length 1 n (omega (arith, s)))
operand_length last name (Count z) s = omega (arith, signed_length 9 z (omega (arith, s.1)))
operand_length last name (Number n) s = omega (arith, decimal_length 9 n (omega (arith, s.1)))
operand_length last name (StatusMask n) s = omega (arith, at_most masks 11 32 tt n s)
operand_length last name (StatusSource Apsr) s = omega arith
operand_length last name (StatusSource Spsr) s = omega arith
operand_length last name (WriteBack r) s = simp length-append (omega (arith, register_length r s))
operand_length last name (RegisterList n) s = simp length-append (omega (arith, hex_length 4 n))
operand_length last name (Address n) s = omega (arith, hex_length 8 n)
operand_length last name (Memory m) s = subst (λ (b : Bool). length (memory_text m) ≤ 12 + more b) (sym s.0) (memory_length name m s.1)
operand_length last name (Option n) s = omega (arith, at_most barriers 5 16 tt n s.1)
operand_length last name (Coprocessor n) s = omega (arith, at_most coprocessors 3 16 tt n s)
operand_length last name (CoprocessorRegister n) s = omega (arith, at_most co_registers 3 16 tt n s)

spaced_length : (name : ℕ) (ops : List Operand) → Laid name ops → (rest : List ℕ) → length (spaced ops rest) ≤ room_for ops + 10 + length rest
spaced_length name [] laid rest = omega arith
spaced_length name (o ∷ []) s rest = simp length-append (omega (arith, operand_length true name o s))
spaced_length name (o ∷ p ∷ os) laid rest =
    omega (
      arith,
      length-append (operand_text o) (spaced (p ∷ os) rest),
      operand_length false name o laid.0,
      spaced_length name (p ∷ os) laid.1 rest,
    )

insn_length : {addr : ℕ} (i : Insn) → Formed addr i → length (insn_text i) ≤ 77
insn_length i f =
    subst (λ (xs : List ℕ). length xs ≤ 77) (sym (insn_text_lem i f))
    (simp length-append
    (omega (
      arith,
      name_length i.name i.cond f.named f.under,
      spaced_length i.name f.operands f.sound
          (code " " ∷ flow_text i.flow),
      flow_length i.flow,
      f.brief,
    )))

refused_length : (n : ℕ) → n < 10 → length (refused_text n) ≤ 77
refused_length n h = unfold refused_text in simp length-append (omega (arith, decimal_length 0 n h))

answer_length : {addr : ℕ} (d : Decoded) → Good addr d → length (answer_text d) ≤ 77
answer_length d good = unfold answer_text in
    tested (λ (xs : List ℕ). length xs ≤ 77) (eqb (refused_with d) 0)
    (λ e. insn_length (insn_in d) (good.formed (eqb-true (refused_with d) 0 e)))
    (λ e. refused_length (refused_with d) good.refusal)

pub line_fits : (addr w : ℕ) → length (line_of addr w) ≤ 96
unfolding line_text
line_fits addr w = simp length-append (omega (arith, hex_length 8 addr, hex_length 8 w, answer_length (decode_of w addr) (all_good w addr)))
