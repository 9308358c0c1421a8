-- The word of a multiply, a halfword multiply or an exclusive, from its answer.
use Rattle.std.specs.Prelude.{Bool, true, List, [], ◌∷◌, ℕ, ◌+◌, ◌-◌, ◌*◌, ◌/◌, ◌%◌, eqb, leb, get_or}
use Rattle.word.specs.Choice.{pick}
use Rattle.word.specs.Layout.{join}
use Rattle.insn.specs.Roots.{name}
use Rattle.insn.specs.declared.Insn.{Insn}
use Rattle.insn_parts.specs.Parts.{at}

-- rm 7:4 rs rd rn 23:20 p 000 cond, from bit 0 up
abbrev pub layout : List ℕ
layout = 4 ∷ 4 ∷ 4 ∷ 4 ∷ 4 ∷ 4 ∷ 1 ∷ 3 ∷ 4 ∷ []

-- the word with these bits at 7:4, 23:20 and 24, and these registers at 3:0, 11:8, 15:12 and 19:16
abbrev pub laid : Insn → ℕ → ℕ → ℕ → ℕ → ℕ → ℕ → ℕ → ℕ
laid i low op p rm rs rd rn = join layout (rm ∷ low ∷ rs ∷ rd ∷ rn ∷ op ∷ p ∷ 0 ∷ i.cond.0 ∷ [])

abbrev pub short : Insn → ℕ → ℕ → ℕ → ℕ
short i low op p = laid i low op p (at i 1).reg (at i 2).reg (at i 3).reg (at i 0).reg

abbrev pub long : Insn → ℕ → ℕ → ℕ → ℕ
long i low op p = laid i low op p (at i 2).reg (at i 3).reg (at i 0).reg (at i 1).reg

-- 23:20 of the names muls .. smlals
abbrev pub operations : List ℕ
operations = 1 ∷ 0 ∷ 3 ∷ 2 ∷ 4 ∷ 6 ∷ 8 ∷ 9 ∷ 10 ∷ 11 ∷ 12 ∷ 13 ∷ 14 ∷ 15 ∷ []

-- umaal and the long ones
abbrev pub is_long : ℕ → Bool
is_long op = pick (eqb op 4) true (leb 8 op)

abbrev pub multiplied : Insn → ℕ → ℕ
multiplied i op = pick (is_long op) (long i 9 op 0) (short i 9 op 0)

abbrev pub multiply_word : Insn → ℕ
multiply_word i = multiplied i (get_or operations (i.name - name "muls") 0)

-- a halfword multiply by its place among the names, which is 22:21, bit 5, bit 6; smlal has 22:21 = 10
abbrev pub halves : ℕ → ℕ
halves n = 8 + n % 2 * 4 + n / 2 % 2 * 2

abbrev pub halved : Insn → ℕ → ℕ
halved i n = pick (eqb (n / 4) 2) (long i (halves n) (n / 4 * 2) 1) (short i (halves n) (n / 4 * 2) 1)

abbrev pub halfword_word : Insn → ℕ
halfword_word i = halved i (i.name - name "smlabb")

-- the exclusives, which load where bit 20 is set
abbrev pub store : Insn → ℕ → ℕ
store i op = laid i 9 op 1 (at i 1).reg 0 (at i 0).reg (at i 2).reg

abbrev pub load : Insn → ℕ → ℕ
load i op = laid i 9 op 1 0 0 (at i 0).reg (at i 1).reg

-- 23:20 of the names strex .. ldrexh
abbrev pub exclusives : List ℕ
exclusives = 8 ∷ 9 ∷ 12 ∷ 13 ∷ 14 ∷ 15 ∷ []

abbrev pub excluded : Insn → ℕ → ℕ
excluded i op = pick (eqb (op % 2) 0) (store i op) (load i op)

abbrev pub sync_word : Insn → ℕ
sync_word i = excluded i (get_or exclusives (i.name - name "strex") 0)
