-- An instruction value from a row of numbers: a row that any program can fill. Every row is read as some value: a number that is too large
-- counts by its low bits, and beyond the row's end there are zeros. Whether the value's row is the row that was read is for the encoder to say.
use Rattle.std.specs.Prelude.{Bool, not, List, [], ◌∷◌, ◌++◌, ℕ, zero, suc, ◌+◌, ◌*◌, ◌%◌, ◌^◌, eqb, ℤ, pos, negsuc, get_or, Option, Some, None}
use Rattle.word.specs.Choice.{pick}
use Rattle.insn.specs.Answer.{PLACES, used, insn_of}
use Rattle.insn.specs.declared.Reg.{Reg}
use Rattle.insn.specs.declared.Shift.{Shift}
use Rattle.insn.specs.declared.Shift.TheVariants.{Lsl, Lsr, Asr, Ror}
use Rattle.insn.specs.declared.Status.{Status}
use Rattle.insn.specs.declared.Status.TheVariants.{Apsr, Spsr}
use Rattle.insn.specs.declared.AddrMode.{AddrMode}
use Rattle.insn.specs.declared.AddrMode.TheVariants.{Offset, PreIndex, PostIndex}
use Rattle.insn.specs.declared.Mem.{Mem}
use Rattle.insn.specs.declared.Operand.{Operand}
use Rattle.insn.specs.declared.Operand.TheVariants.{Empty, Register, Shifted, ShiftBy, SaturateShift, Rotate, Count, Number, StatusMask}
use Rattle.insn.specs.declared.Operand.TheVariants.{StatusSource, WriteBack, List as RegisterList, Address, Memory, Option as BarrierOption}
use Rattle.insn.specs.declared.Operand.TheVariants.{Coprocessor, CoprocessorRegister}
use Rattle.insn.specs.declared.Flow.{Flow}
use Rattle.insn.specs.declared.Flow.TheVariants.{Next, Branch, CondBranch, IndirectBranch, Call, IndirectCall, Return, Trap}
use Rattle.insn.specs.declared.Place.{Place}
use Rattle.insn.specs.declared.Insn.{Insn}

-- number n of a row, by its low k bits
abbrev pub low : ℕ → List ℕ → ℕ → ℕ
low k row n = get_or row n 0 % 2 ^ k

abbrev pub marked : List ℕ → ℕ → Bool
marked row n = not (eqb (get_or row n 0) 0)

abbrev pub reg_from : List ℕ → ℕ → Reg
reg_from row n = record { 0 = low 8 row n }

-- the inverses of `shift_number`, `status_number`, `mode_number` and `flow_number`; a number beyond the last stands for the last
abbrev pub shift_from : ℕ → Shift
shift_from n = pick (eqb n 0) Lsl (pick (eqb n 1) Lsr (pick (eqb n 2) Asr Ror))

abbrev pub status_from : ℕ → Status
status_from n = pick (eqb n 0) Apsr Spsr

abbrev pub mode_from : ℕ → AddrMode
mode_from n = pick (eqb n 0) Offset (pick (eqb n 1) PreIndex PostIndex)

abbrev pub flow_from : ℕ → ℕ → Flow
flow_from n target =
    pick (eqb n 0) Next
    (pick (eqb n 1) (Branch target)
    (pick (eqb n 2) (CondBranch target)
    (pick (eqb n 3) IndirectBranch
    (pick (eqb n 4) (Call target)
    (pick (eqb n 5) IndirectCall
    (pick (eqb n 6) Return Trap))))))

-- a sign at place p, and what follows it: minus one is a sign and 0
abbrev pub signed_from : List ℕ → ℕ → ℤ
signed_from row p = pick (marked row p) (negsuc (low 63 row (p + 1))) (pos (low 63 row (p + 1)))

-- an operand's eleven numbers, from place p on: kind; register or base; shift's kind, status register or whether there is an index;
-- amount, mask, option or coprocessor's number; sign; value or displacement; index; mode; size; decimal; minus zero
abbrev pub index_from : List ℕ → ℕ → Option (Reg × ℕ)
index_from row p = pick (marked row (p + 2)) (Some (reg_from row (p + 6), low 8 row (p + 3))) None

abbrev pub mem_from : List ℕ → ℕ → Mem
mem_from row p = record {
  base = reg_from row (p + 1);
  index = index_from row p;
  disp = signed_from row (p + 4);
  mode = mode_from (get_or row (p + 7) 0);
  size = low 8 row (p + 8);
  decimal = marked row (p + 9);
  minus_zero = marked row (p + 10);
}

-- by the operand's number; a kind beyond the last is the empty one
abbrev pub operand_as : ℕ → List ℕ → ℕ → Operand
operand_as kind row p =
    pick (eqb kind 1) (Register r)
    (pick (eqb kind 2) (Shifted r k n)
    (pick (eqb kind 3) (ShiftBy k r)
    (pick (eqb kind 4) (SaturateShift k n)
    (pick (eqb kind 5) (Rotate n)
    (pick (eqb kind 6) (Count (signed_from row (p + 4)))
    (pick (eqb kind 7) (Number (low 32 row (p + 5)))
    (pick (eqb kind 8) (StatusMask n)
    (pick (eqb kind 9) (StatusSource (status_from (get_or row (p + 2) 0)))
    (pick (eqb kind 10) (WriteBack r)
    (pick (eqb kind 11) (RegisterList (low 16 row (p + 5)))
    (pick (eqb kind 12) (Address (low 32 row (p + 5)))
    (pick (eqb kind 13) (Memory (mem_from row p))
    (pick (eqb kind 14) (BarrierOption n)
    (pick (eqb kind 15) (Coprocessor n)
    (pick (eqb kind 16) (CoprocessorRegister n) Empty)))))))))))))))
  where
    r : Reg
    r = reg_from row (p + 1)

    k : Shift
    k = shift_from (get_or row (p + 2) 0)

    n : ℕ
    n = low 8 row (p + 3)

abbrev pub operand_from : List ℕ → ℕ → Operand
operand_from row p = operand_as (get_or row p 0) row p

-- the first n places: the numbers of each are eleven, and the first five are no operand's
abbrev pub places_from : List ℕ → ℕ → List Place
places_from row zero = []
places_from row (suc n) = places_from row n ++ (used (operand_from row (5 + 11 * n)) ∷ [])

-- address, name, condition, flow and its target, then the operands
abbrev pub insn_from : List ℕ → Insn
insn_from row =
    insn_of (get_or row 0 0) (low 16 row 1) (record { 0 = low 8 row 2 })
    (flow_from (get_or row 3 0) (low 32 row 4))
    (places_from row PLACES)
