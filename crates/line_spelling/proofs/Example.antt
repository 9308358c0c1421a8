-- Lines of coprocessor words: six operands, and the condition before an `l`. Assumes nothing.
use mathlib.Core.Path.{◌≡◌, refl}
use Rattle.word.specs.Field.{field}
use Rattle.text.specs.Text.{bytes, decimal_of, signed_of, hex_of}
use Rattle.a32.specs.Decode.{decode_of, group_of}
use Rattle.a32_coproc.specs.Coproc.{floating_of}
use Rattle.line_spelling.specs.Line.{name_text, register_text, index_text, displacement_text, mode_text, memory_text, operand_text, place_text}
use Rattle.line_spelling.specs.Line.{flow_text, insn_text, answer_text, line_text, line_of}

lines :
    (line_of 0x8000 0xee070f9a ≡ bytes "00008000 ee070f9a mcr p15 #0 r0 c7 c10 #4 next\n") ×
    (line_of 0x8000 0x0c7cffff ≡ bytes "00008000 0c7cffff ldceql p15 c15 [r12:-:-1020:a:4] next\n") ×
    (line_of 0x8000 0xedc15e01 ≡ bytes "00008000 edc15e01 stcl p14 c5 [r1:-:4:o:4] next\n")
unfolding field decimal_of signed_of hex_of decode_of group_of floating_of name_text register_text index_text displacement_text mode_text memory_text operand_text
    place_text flow_text insn_text answer_text line_text
lines = (refl, refl, refl)
