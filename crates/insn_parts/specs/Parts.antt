-- What a word's fields read off an instruction value, a number that an operand does not have counting as 0.
use Rattle.std.specs.Prelude.{Bool, ℕ, ◌-◌, ◌^◌, eqb}
use Rattle.word.specs.Choice.{pick}
use Rattle.insn.specs.Answer.{place_at}
use Rattle.insn.specs.declared.Insn.{Insn}
use Rattle.insn_parts.specs.declared.Flat.{Flat}
use Rattle.insn_parts.specs.Operands.{operand_flat}

-- the numbers of the operand at a place
abbrev pub at : Insn → ℕ → Flat
at i n = operand_flat (place_at i.ops n).operand

-- an operand of a kind
abbrev pub is_register : Flat → Bool
is_register f = eqb f.kind 1

abbrev pub is_shift_by : Flat → Bool
is_shift_by f = eqb f.kind 3

abbrev pub is_count : Flat → Bool
is_count f = eqb f.kind 6

abbrev pub is_write_back : Flat → Bool
is_write_back f = eqb f.kind 10

abbrev pub is_address : Flat → Bool
is_address f = eqb f.kind 12

-- the low 32 bits of a signed number; of one that is not negative, all
abbrev pub bits32 : ℕ → ℕ → ℕ
bits32 negative value = pick (eqb negative 0) value (2 ^ 32 - value)

abbrev pub number : Flat → ℕ
number f = bits32 f.negative f.value

-- U: a displacement is added, or taken away; with the mark of minus zero
abbrev pub up : ℕ → ℕ
up negative = pick (eqb negative 0) 1 0

abbrev pub bit_u : ℕ → ℕ → ℕ
bit_u negative minus = pick (eqb minus 0) (up negative) 0

-- P and W, by the mode
abbrev pub bit_p : ℕ → ℕ
bit_p mode = pick (eqb mode 2) 0 1

abbrev pub bit_w : ℕ → ℕ
bit_w mode = pick (eqb mode 1) 1 0
