-- How a word's answer reads, and its line of the listing (01, "Section and listing").
use Rattle.std.specs.Prelude.{List, [], ◌++◌, ℕ, eqb, Some, None}
use Rattle.insn.specs.Memory.{Index}
use Rattle.word.specs.Refusal.{refused_with}
use Rattle.word.specs.Choice.{pick}
use Rattle.text.specs.Text.{bytes, decimal_of, signed_of, hex_of}
use Rattle.insn.specs.Answer.{spread, insn_in}
use Rattle.insn.specs.Numbers.{shift_number, status_number, operand_number, flow_number}
use Rattle.insn.specs.declared.Reg.{Reg}
use Rattle.insn.specs.declared.Cond.{Cond}
use Rattle.insn.specs.declared.Shift.{Shift}
use Rattle.insn.specs.declared.AddrMode.{AddrMode}
use Rattle.insn.specs.declared.AddrMode.TheVariants.{Offset, PreIndex, PostIndex}
use Rattle.insn.specs.declared.Mem.{Mem}
use Rattle.insn.specs.declared.Operand.{Operand}
use Rattle.insn.specs.declared.Operand.TheVariants.{Empty, Register, Shifted, ShiftBy, SaturateShift, Rotate, Count, Number, StatusMask}
use Rattle.insn.specs.declared.Operand.TheVariants.{StatusSource, WriteBack, List as RegisterList, Address, Memory, Option}
use Rattle.insn.specs.declared.Operand.TheVariants.{Coprocessor, CoprocessorRegister}
use Rattle.insn.specs.declared.Place.{Place}
use Rattle.insn.specs.declared.Flow.{Flow}
use Rattle.insn.specs.declared.Insn.{Insn}
use Rattle.insn.specs.Answer.{Decoded}
use Rattle.insn.specs.Roots.{name, roots}
use Rattle.a32.specs.Decode.{decode_of}
use Rattle.line_spelling.specs.Names.{suffixes, masks, shifts, sources, barriers, registers, coprocessors, co_registers, flows, entry}

-- 02, P9: "In the `l` names the condition stands before the `l`": such a root is the stem, a root too, and the tail `l`
abbrev pub stem_of : ℕ → ℕ
stem_of n = pick (eqb n (name "ldcl")) (name "ldc") (pick (eqb n (name "stcl")) (name "stc") n)

abbrev pub tail_of : ℕ → List ℕ
tail_of n = pick (eqb (stem_of n) n) [] (bytes "l")

-- "A name is its root, then eq ne hs lo mi pl vs vc hi ls ge lt gt le, then nothing for 14 and 15"
unfoldable pub name_text : ℕ → Cond → List ℕ
name_text name cond = entry roots (stem_of name) ++ entry suffixes cond.0 ++ tail_of name

unfoldable pub register_text : Reg → List ℕ
register_text r = entry registers r.0

unfoldable pub shift_text : Shift → List ℕ
shift_text kind = entry shifts (shift_number kind)

-- "index with its shift (`r3<2`, `r3<0`) or `-`"
unfoldable pub index_text : Index → List ℕ
index_text None = bytes "-"
index_text (Some (r, n)) = register_text r ++ bytes "<" ++ decimal_of n

-- "displacement (`-0` if marked)"
unfoldable pub displacement_text : Mem → List ℕ
displacement_text m = pick m.minus_zero (bytes "-0") (signed_of m.disp)

-- "o pre=b post=a"
unfoldable pub mode_text : AddrMode → List ℕ
mode_text Offset = bytes "o"
mode_text PreIndex = bytes "b"
mode_text PostIndex = bytes "a"

-- "Memory in brackets, `:` between: base, index .., displacement .., o pre=b post=a, size"
unfoldable pub memory_text : Mem → List ℕ
memory_text m =
    bytes "[" ++ register_text m.base ++
    bytes ":" ++ index_text m.index ++
    bytes ":" ++ displacement_text m ++
    bytes ":" ++ mode_text m.mode ++
    bytes ":" ++ decimal_of m.size ++
    bytes "]"

-- "write-back adds `!`; shifted `r2,lsr,3`; shift alone `asr,32`; by register `lsl,r3`; numbers `#`; rotate `ror,8`; list four hex
-- digits in braces; address `@` and eight"; 02, P1: the option "is spelled from the source's BARRIERS table"; P9: coprocessors and their registers
unfoldable pub operand_text : Operand → List ℕ
operand_text Empty = []
operand_text (Register r) = register_text r
operand_text (Shifted r kind n) = register_text r ++ bytes "," ++ shift_text kind ++ bytes "," ++ decimal_of n
operand_text (ShiftBy kind r) = shift_text kind ++ bytes "," ++ register_text r
operand_text (SaturateShift kind n) = shift_text kind ++ bytes "," ++ decimal_of n
operand_text (Rotate n) = bytes "ror," ++ decimal_of n
operand_text (Count z) = bytes "#" ++ signed_of z
operand_text (Number n) = bytes "#" ++ decimal_of n
operand_text (StatusMask n) = entry masks n
operand_text (StatusSource s) = entry sources (status_number s)
operand_text (WriteBack r) = register_text r ++ bytes "!"
operand_text (RegisterList n) = bytes "{" ++ hex_of 4 n ++ bytes "}"
operand_text (Address n) = bytes "@" ++ hex_of 8 n
operand_text (Memory m) = memory_text m
operand_text (Option n) = entry barriers n
operand_text (Coprocessor n) = entry coprocessors n
operand_text (CoprocessorRegister n) = entry co_registers n

-- "one space between": before each operand; an unused place has none
unfoldable pub place_text : Operand → List ℕ
place_text operand = pick (eqb (operand_number operand) 0) [] (bytes " " ++ operand_text operand)

abbrev pub places_text : List Place → List ℕ
places_text = spread place_text

-- "flow (next jump jump? ijump call icall ret trap)"
unfoldable pub flow_text : Flow → List ℕ
flow_text flow = entry flows (flow_number flow)

-- "name, operands, flow"
unfoldable pub insn_text : Insn → List ℕ
insn_text i = name_text i.name i.cond ++ places_text i.ops ++ bytes " " ++ flow_text i.flow

-- ".. or refusal"
unfoldable pub refused_text : ℕ → List ℕ
refused_text n = bytes "refused " ++ decimal_of n

unfoldable pub answer_text : Decoded → List ℕ
answer_text d = pick (eqb (refused_with d) 0) (insn_text (insn_in d)) (refused_text (refused_with d))

-- "Lines: address (low 32 bits), word, name, operands, flow .., or refusal, one space between, a newline at the end that counts"
unfoldable pub line_text : ℕ → ℕ → Decoded → List ℕ
line_text addr w d = hex_of 8 addr ++ bytes " " ++ hex_of 8 w ++ bytes " " ++ answer_text d ++ bytes "\n"

abbrev pub line_of : ℕ → ℕ → List ℕ
line_of addr w = line_text addr w (decode_of w addr)
