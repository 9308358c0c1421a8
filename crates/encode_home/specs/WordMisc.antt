-- The word of a control instruction, from its answer.
use Rattle.std.specs.Prelude.{List, [], ◌∷◌, ℕ, ◌-◌, ◌/◌, ◌%◌, eqb}
use Rattle.word.specs.Choice.{pick}
use Rattle.word.specs.Layout.{join}
use Rattle.insn.specs.Roots.{name}
use Rattle.insn.specs.declared.Insn.{Insn}
use Rattle.insn_parts.specs.Parts.{at, number}

-- rm 000 0 0 0 00 rd mask 0 m r 10 000 cond, from bit 0 up
abbrev pub status_layout : List ℕ
status_layout = 4 ∷ 3 ∷ 1 ∷ 1 ∷ 1 ∷ 2 ∷ 4 ∷ 4 ∷ 1 ∷ 1 ∷ 1 ∷ 2 ∷ 3 ∷ 4 ∷ []

abbrev pub status : Insn → ℕ → ℕ → ℕ → ℕ → ℕ → ℕ
status i rm rd mask m r =
    join status_layout (rm ∷ 0 ∷ 0 ∷ 0 ∷ 0 ∷ 0 ∷ rd ∷ mask ∷ 0 ∷ m ∷ r ∷ 2 ∷ 0 ∷ i.cond.0 ∷ [])

-- rm kind 0 19:8 0 op 10 000 cond
abbrev pub single_layout : List ℕ
single_layout = 4 ∷ 3 ∷ 1 ∷ 12 ∷ 1 ∷ 2 ∷ 2 ∷ 3 ∷ 4 ∷ []

abbrev pub single : Insn → ℕ → ℕ → ℕ → ℕ
single i rm kind upper = join single_layout (rm ∷ kind ∷ 0 ∷ upper ∷ 0 ∷ 1 ∷ 2 ∷ 0 ∷ i.cond.0 ∷ [])

-- rm kind 0 0000 rd rn 0 op 10 000 cond
abbrev pub several_layout : List ℕ
several_layout = 4 ∷ 3 ∷ 1 ∷ 4 ∷ 4 ∷ 4 ∷ 1 ∷ 2 ∷ 2 ∷ 3 ∷ 4 ∷ []

-- with Rd and Rm at places 0 and 1
abbrev pub several : Insn → ℕ → ℕ → ℕ → ℕ
several i kind rn op =
    join several_layout ((at i 1).reg ∷ kind ∷ 0 ∷ 0 ∷ (at i 0).reg ∷ rn ∷ 0 ∷ op ∷ 2 ∷ 0 ∷ i.cond.0 ∷ [])

abbrev pub saturating : Insn → ℕ → ℕ
saturating i op = several i 5 (at i 2).reg op

abbrev pub misc_word : Insn → ℕ
misc_word i =
    pick (eqb i.name (name "mrs")) (status i 0 (at i 0).reg 0 0 (at i 1).how)
    (pick (eqb i.name (name "msr")) (status i (at i 1).reg 0 ((at i 0).amount % 16) 1 ((at i 0).amount / 16))
    (pick (eqb i.name (name "bx")) (single i (at i 0).reg 1 0)
    (pick (eqb i.name (name "clz")) (several i 1 0 3)
    (pick (eqb i.name (name "bxj")) (single i (at i 0).reg 2 0)
    (pick (eqb i.name (name "blx")) (single i (at i 0).reg 3 0)
    (pick (eqb i.name (name "bkpt")) (single i (number (at i 0) % 16) 7 (number (at i 0) / 16))
    (saturating i (i.name - name "qadd"))))))))
