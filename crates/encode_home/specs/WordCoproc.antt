-- The word of a coprocessor instruction, from its answer.
use Rattle.std.specs.Prelude.{List, [], ◌∷◌, ℕ, ◌-◌, ◌/◌, ◌%◌, eqb, leb}
use Rattle.word.specs.Choice.{pick}
use Rattle.word.specs.Layout.{join}
use Rattle.insn.specs.Roots.{name}
use Rattle.insn.specs.declared.Insn.{Insn}
use Rattle.insn_parts.specs.declared.Flat.{Flat}
use Rattle.insn_parts.specs.Parts.{at, number, up, bit_p}

-- crm 1 opc2 coprocessor rt crn L opc1 1110 cond, from bit 0 up
abbrev pub move_layout : List ℕ
move_layout = 4 ∷ 1 ∷ 3 ∷ 4 ∷ 4 ∷ 4 ∷ 1 ∷ 3 ∷ 4 ∷ 4 ∷ []

-- mrc, mcr
abbrev pub move_word : Insn → ℕ
move_word i =
    join move_layout
    ((at i 4).amount ∷ 1 ∷ number (at i 5) ∷ (at i 0).amount ∷ (at i 2).reg ∷ (at i 3).amount ∷ pick (eqb i.name (name "mrc")) 1 0 ∷ number (at i 1) ∷
    14 ∷ i.cond.0 ∷ [])

-- crm 0 opc2 coprocessor crd crn opc1 1110 cond, from bit 0 up
abbrev pub operation_layout : List ℕ
operation_layout = 4 ∷ 1 ∷ 3 ∷ 4 ∷ 4 ∷ 4 ∷ 4 ∷ 4 ∷ 4 ∷ []

-- cdp
abbrev pub operation_word : Insn → ℕ
operation_word i =
    join operation_layout
    ((at i 4).amount ∷ 0 ∷ number (at i 5) ∷ (at i 0).amount ∷ (at i 2).amount ∷ (at i 3).amount ∷ number (at i 1) ∷ 14 ∷ i.cond.0 ∷ [])

-- crm opc1 coprocessor rt rt2 L 1100010 cond, from bit 0 up
abbrev pub pair_layout : List ℕ
pair_layout = 4 ∷ 4 ∷ 4 ∷ 4 ∷ 4 ∷ 1 ∷ 7 ∷ 4 ∷ []

-- mrrc, mcrr
abbrev pub pair_word : Insn → ℕ
pair_word i =
    join pair_layout
    ((at i 4).amount ∷ number (at i 1) ∷ (at i 0).amount ∷ (at i 2).reg ∷ (at i 3).reg ∷ pick (eqb i.name (name "mrrc")) 1 0 ∷ 98 ∷ i.cond.0 ∷ [])

-- ldc, ldcl, stc, stcl in that order: L and D
abbrev pub load_bit : ℕ → ℕ
load_bit n = 1 - (n - name "ldc") / 2

abbrev pub long_bit : ℕ → ℕ
long_bit n = (n - name "ldc") % 2

-- W: 02, P9, "at home, W is set when P is clear"
abbrev pub write_bit : ℕ → ℕ
write_bit mode = pick (eqb mode 0) 0 1

-- words of displacement, coprocessor crd rn L W D U P 110 cond, from bit 0 up
abbrev pub transfer_layout : List ℕ
transfer_layout = 8 ∷ 4 ∷ 4 ∷ 4 ∷ 1 ∷ 1 ∷ 1 ∷ 1 ∷ 1 ∷ 3 ∷ 4 ∷ []

-- "and U is set when the offset is 0", which is not negative
abbrev pub laid_transfer : Insn → Flat → ℕ
laid_transfer i f =
    join transfer_layout
    (f.value / 4 ∷ (at i 0).amount ∷ (at i 1).amount ∷ f.reg ∷ load_bit i.name ∷ write_bit f.mode ∷ long_bit i.name ∷ up f.negative ∷
    bit_p f.mode ∷ 6 ∷ i.cond.0 ∷ [])

abbrev pub transfer_word : Insn → ℕ
transfer_word i = laid_transfer i (at i 2)

-- by the last name of each kind, in the order of the numbers
abbrev pub coproc_word : Insn → ℕ
coproc_word i =
    pick (leb i.name (name "mcr")) (move_word i)
    (pick (leb i.name (name "cdp")) (operation_word i)
    (pick (leb i.name (name "mcrr")) (pair_word i) (transfer_word i)))
