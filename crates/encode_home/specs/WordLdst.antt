-- The word of a load or a store, from its answer.
use Rattle.std.specs.Prelude.{List, [], ◌∷◌, ℕ, ◌-◌, ◌/◌, ◌%◌, eqb}
use Rattle.word.specs.Choice.{pick}
use Rattle.word.specs.Layout.{join}
use Rattle.insn.specs.Roots.{name}
use Rattle.insn.specs.declared.Insn.{Insn}
use Rattle.insn_parts.specs.declared.Flat.{Flat}
use Rattle.insn_parts.specs.Parts.{at, bit_p, bit_u, bit_w}

-- ldr, ldrb, str, strb, and the `t` names in that order: L, B and whether it is one of those
abbrev pub load_bit : ℕ → ℕ
load_bit n = 1 - (n - name "ldr") / 2 % 2

abbrev pub byte_bit : ℕ → ℕ
byte_bit n = (n - name "ldr") % 2

abbrev pub user_bit : ℕ → ℕ
user_bit n = (n - name "ldr") / 4

-- W by the mode or the name
unfoldable pub write_bit : ℕ → ℕ → ℕ
write_bit mode n = pick (eqb mode 2) (user_bit n) (bit_w mode)

-- 11:0: the displacement, or the index with its shift, rm 0 00 shift from bit 0 up
abbrev pub index_layout : List ℕ
index_layout = 4 ∷ 1 ∷ 2 ∷ 5 ∷ []

unfoldable pub offset12 : Flat → ℕ
offset12 f = pick (eqb f.how 0) f.value (join index_layout (f.index ∷ 0 ∷ 0 ∷ f.amount ∷ []))

-- U: an index is added
unfoldable pub added_bit : Flat → ℕ
added_bit f = pick (eqb f.how 0) (bit_u f.negative f.minus) 1

-- 11:0 rd rn L W B U P I 01 cond, from bit 0 up
abbrev pub layout : List ℕ
layout = 12 ∷ 4 ∷ 4 ∷ 1 ∷ 1 ∷ 1 ∷ 1 ∷ 1 ∷ 1 ∷ 2 ∷ 4 ∷ []

abbrev pub laid : Insn → Flat → ℕ
laid i f =
    join layout
    (offset12 f ∷ (at i 0).reg ∷ f.reg ∷ load_bit i.name ∷ write_bit f.mode i.name ∷ byte_bit i.name ∷ added_bit f ∷ bit_p f.mode ∷ f.how ∷
    1 ∷ i.cond.0 ∷ [])

abbrev pub ldst_word : Insn → ℕ
ldst_word i = laid i (at i 1)
