-- The word of an extra load or store, or of another word with bits 7 and 4 set, from its answer.
use Rattle.std.specs.Prelude.{List, [], ◌∷◌, ℕ, ◌+◌, ◌-◌, ◌/◌, ◌%◌, eqb, leb}
use Rattle.word.specs.Choice.{pick, both}
use Rattle.word.specs.Layout.{join}
use Rattle.insn.specs.Roots.{name}
use Rattle.insn.specs.declared.Insn.{Insn}
use Rattle.insn_parts.specs.declared.Flat.{Flat}
use Rattle.insn_parts.specs.Parts.{at, bit_p, bit_u, bit_w}
use Rattle.encode_home.specs.WordMultiply.{multiply_word, sync_word}

-- bit 22 is set without an index
abbrev pub bit_i : Flat → ℕ
bit_i f = pick (eqb f.how 0) 1 0

-- 3:0 and 11:8: the index, or the displacement's digits
abbrev pub low_of : Flat → ℕ
low_of f = pick (eqb f.how 0) (f.value % 16) f.index

abbrev pub high_of : Flat → ℕ
high_of f = pick (eqb f.how 0) (f.value / 16) 0

-- 3:0 1 kind 1 11:8 rd rn l w i u p 000 cond, from bit 0 up
abbrev pub extra_layout : List ℕ
extra_layout = 4 ∷ 1 ∷ 2 ∷ 1 ∷ 4 ∷ 4 ∷ 4 ∷ 1 ∷ 1 ∷ 1 ∷ 1 ∷ 1 ∷ 3 ∷ 4 ∷ []

-- the word of this condition, Rd, kind, L and memory form
abbrev pub transfer : ℕ → ℕ → ℕ → ℕ → Flat → ℕ
transfer cond rd kind l f =
    join extra_layout
    (
    low_of f ∷
    1 ∷
    kind ∷
    1 ∷
    high_of f ∷
    rd ∷
    f.reg ∷
    l ∷
    bit_w f.mode ∷
    bit_i f ∷
    bit_u f.negative f.minus ∷
    bit_p f.mode ∷
    0 ∷
    cond ∷
    []
    )

-- the memory form stands at place 1, and at place 2 beside a pair
abbrev pub single : Insn → ℕ → ℕ → ℕ
single i kind l = transfer i.cond.0 (at i 0).reg kind l (at i 1)

abbrev pub pair : Insn → ℕ → ℕ → ℕ
pair i kind l = transfer i.cond.0 (at i 0).reg kind l (at i 2)

-- the pairs, ldrd and strd, have L clear
abbrev pub kinded : Insn → ℕ → ℕ → ℕ
kinded i kind l = pick (both (leb 2 kind) (eqb l 0)) (pair i kind l) (single i kind l)

-- strh, ldrh, ldrd, ldrsb, strd, ldrsh: by kind, and L
abbrev pub transfer_word : Insn → ℕ
transfer_word i = kinded i ((i.name - name "strh") / 2 + 1) ((i.name - name "strh") % 2)

abbrev pub extra_word : Insn → ℕ
extra_word i =
    pick (leb i.name 62) (multiply_word i)
    (pick (leb i.name 68) (sync_word i)
    (transfer_word i))
