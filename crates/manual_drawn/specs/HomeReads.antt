-- What the manual says of a word and of its home word: the same, but for two kinds of words. 02, P9: "at home, W is set when P is clear, and U is
-- set when the offset is 0"; 01: "In addition bit 23 is set".
use Rattle.std.specs.Prelude.{◌≡◌, Bool, false, not, map, ℕ, ◌*◌, ◌^◌}
use Prim.Native.String.{String}
use Rattle.word.specs.Choice.{pick, both}
use Rattle.word.specs.Field.{field}
use Rattle.insn.specs.Answer.{insn_of, accepted, insn_in}
use Rattle.insn.specs.declared.Mem.{Mem}
use Rattle.insn.specs.declared.Operand.{Operand}
use Rattle.insn.specs.declared.Operand.TheVariants.{Empty, Register, Shifted, ShiftBy, SaturateShift, Rotate, Count, Number, StatusMask}
use Rattle.insn.specs.declared.Operand.TheVariants.{StatusSource, WriteBack, Address, Memory, Option, Coprocessor, CoprocessorRegister}
use Rattle.insn.specs.declared.Operand.TheVariants as Op
use Rattle.insn.specs.declared.Place.{Place}
use Rattle.manual.specs.A8.{is_among, Said, reads, beyond, names, unlisted, undefined, unpredictable, said_of, row_of}
use Rattle.manual.specs.Departures.{displaced, preloads, coprocessor_transfers, is_offset}
use Rattle.manual.specs.Reads.{is_set, addressing, is_minus_zero}

-- what the manual says of a word, by the page that reads it
abbrev pub said_at : ℕ → ℕ → Said
said_at w addr = said_of w addr (row_of w)

-- how what is said of its home word stands to what is said of a word: it is the same; it lacks the mark of minus zero; it writes the base back
pub data Homely : Type 0 where
  alike : Homely
  unmarking : Homely
  writing : Homely

-- U is set at home where nothing is added: the access is the same
abbrev pub loses_mark : String → ℕ → Bool
loses_mark row w =
    pick (is_among row displaced) (both (is_offset (addressing w)) (is_minus_zero w (field w 0 12)))
    (pick (is_among row preloads) (is_minus_zero w (field w 0 12))
    (both (is_among row coprocessor_transfers) (is_minus_zero w (field w 0 8 * 2 ^ 2))))

-- W is set at home where P is clear: the unindexed form, with an option for the coprocessor and no write-back, is another instruction
abbrev pub is_unindexed : String → ℕ → Bool
is_unindexed row w = both (is_among row coprocessor_transfers) (both (not (is_set w 24)) (not (is_set w 21)))

unfoldable pub homely_as : String → ℕ → Homely
homely_as row w = pick (is_unindexed row w) writing (pick (loses_mark row w) unmarking alike)

abbrev pub homely : ℕ → Homely
homely w = homely_as (row_of w) w

-- an answer without the mark of minus zero
abbrev unmarked_mem : Mem → Mem
unmarked_mem m =
    record { base = m.base; index = m.index; disp = m.disp; mode = m.mode; size = m.size; decimal = m.decimal; minus_zero = false }

abbrev unmarked_op : Operand → Operand
unmarked_op Empty = Empty
unmarked_op (Register r) = Register r
unmarked_op (Shifted r k n) = Shifted r k n
unmarked_op (ShiftBy k r) = ShiftBy k r
unmarked_op (SaturateShift k n) = SaturateShift k n
unmarked_op (Rotate n) = Rotate n
unmarked_op (Count z) = Count z
unmarked_op (Number n) = Number n
unmarked_op (StatusMask n) = StatusMask n
unmarked_op (StatusSource s) = StatusSource s
unmarked_op (WriteBack r) = WriteBack r
unmarked_op (Op.List n) = Op.List n
unmarked_op (Address n) = Address n
unmarked_op (Memory m) = Memory (unmarked_mem m)
unmarked_op (Option n) = Option n
unmarked_op (Coprocessor n) = Coprocessor n
unmarked_op (CoprocessorRegister n) = CoprocessorRegister n

abbrev unmarked_place : Place → Place
unmarked_place p = record { operand = unmarked_op p.operand }

abbrev pub unmarked : Said → Said
unmarked (reads d) = reads (accepted (insn_of (insn_in d).addr (insn_in d).name (insn_in d).cond (insn_in d).flow (map unmarked_place (insn_in d).ops)))
unmarked (beyond s) = beyond s
unmarked (names s) = names s
unmarked unlisted = unlisted
unmarked undefined = undefined
unmarked unpredictable = unpredictable

abbrev pub IsRead : Said → Type 0
IsRead (reads d) = Unit
IsRead (beyond s) = ⊥
IsRead (names s) = ⊥
IsRead unlisted = ⊥
IsRead undefined = ⊥
IsRead unpredictable = ⊥

abbrev pub IsBeyond : Said → Type 0
IsBeyond (reads d) = ⊥
IsBeyond (beyond s) = Unit
IsBeyond (names s) = ⊥
IsBeyond unlisted = ⊥
IsBeyond undefined = ⊥
IsBeyond unpredictable = ⊥

-- what is said of a word, and of its home word
abbrev pub SaidAs : Homely → Said → Said → Type 0
SaidAs alike said home = said ≡ home
SaidAs unmarking said home = (unmarked said ≡ home) × (said ≡ home → ⊥)
SaidAs writing said home = IsBeyond said × IsRead home
