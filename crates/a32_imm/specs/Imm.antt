-- The rotated immediates (01, "Immediate data processing").
use Rattle.std.specs.Prelude.{Bool, true, not, List, [], ◌∷◌, ℕ, zero, suc, ◌+◌, ◌-◌, ◌*◌, ◌/◌, ◌%◌, ◌^◌, ltb, ℤ, pos}
use Rattle.word.specs.Field.{field}
use Rattle.word.specs.Choice.{pick, both}
use Rattle.word.specs.Signed.{signed}
use Rattle.insn.specs.Answer.{filled}
use Rattle.insn.specs.declared.Insn.{Insn}
use Rattle.insn.specs.declared.Operand.{Operand}
use Rattle.insn.specs.declared.Operand.TheVariants.{Count}

-- 32 bits turned right by n places, and left
abbrev pub turned_right : ℕ → ℕ → ℕ
turned_right v n = v % 2 ^ n * 2 ^ (32 - n) + v / 2 ^ n

abbrev pub turned_left : ℕ → ℕ → ℕ
turned_left v n = v % 2 ^ (32 - n) * 2 ^ n + v / 2 ^ (32 - n)

-- what a rotation field and a byte give: "Byte 7:0 turned right by twice 11:8 gives a value"
abbrev pub value_of : ℕ → ℕ → ℕ
value_of rotation byte = turned_right byte (2 * rotation)

abbrev pub byte_of : ℕ → ℕ
byte_of imm12 = field imm12 0 8

abbrev pub rotation_of : ℕ → ℕ
rotation_of imm12 = field imm12 8 4

unfoldable pub so_imm_of : ℕ → ℕ
so_imm_of imm12 = value_of (rotation_of imm12) (byte_of imm12)

-- no rotation field below r gives v with a byte: turned back by each, v is no byte
abbrev pub none_below : ℕ → ℕ → Bool
none_below zero v = true
none_below (suc r) v = both (not (ltb (turned_left v (2 * r)) 256)) (none_below r v)

-- "It is one count exactly if no smaller rotation field, with any byte, gives that value" (`least-exactly` says that this test is that)
unfoldable pub least_of : ℕ → Bool
least_of imm12 = none_below (rotation_of imm12) (so_imm_of imm12)

-- the field with the least of n rotations from r on that gives v with a byte
abbrev pub least_from : ℕ → ℕ → ℕ → ℕ
least_from zero r v = 0
least_from (suc n) r v = pick (ltb (turned_left v (2 * r)) 256) (256 * r + turned_left v (2 * r)) (least_from n (suc r) v)

-- "The table holds, for each twelve-bit field, the field with the least rotation that gives its value" (02, P8; `field-least` says that it is that)
unfoldable pub least_field : ℕ → ℕ
least_field imm12 = least_from 16 0 (so_imm_of imm12)

-- "One count is signed 32-bit, except unsigned for msr and for mov to 15"
abbrev pub count_of : Bool → ℕ → ℤ
count_of unsigned v = pick unsigned (pos v) (signed v)

-- one count, "else byte and rotation amount are two counts"
abbrev pub imm_of : ℕ → Bool → List Operand
imm_of imm12 unsigned =
    pick (least_of imm12)
    (Count (count_of unsigned (so_imm_of imm12)) ∷ [])
    (Count (pos (byte_of imm12)) ∷ Count (pos (2 * rotation_of imm12)) ∷ [])

-- the same as a step: the operand places of i from n on
abbrev pub imm_filled : Insn → ℕ → ℕ → Bool → Insn
imm_filled i n imm12 unsigned =
    pick (least_of imm12)
    (filled i n (Count (count_of unsigned (so_imm_of imm12))))
    (filled (filled i n (Count (pos (byte_of imm12)))) (n + 1) (Count (pos (2 * rotation_of imm12))))
