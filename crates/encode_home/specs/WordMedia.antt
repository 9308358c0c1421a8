-- The word of a media instruction, from its answer.
use Rattle.std.specs.Prelude.{List, [], ◌∷◌, ℕ, ◌+◌, ◌-◌, ◌*◌, ◌/◌, ◌%◌, eqb, leb, get_or}
use Rattle.word.specs.Choice.{pick}
use Rattle.word.specs.Layout.{join}
use Rattle.insn.specs.Roots.{name}
use Rattle.insn.specs.declared.Insn.{Insn}
use Rattle.insn_parts.specs.Parts.{at, number}

-- from bit 0 up, in each layout: cond 011 op on top, and bit 4 set

-- number 1 7:5 number op 011 cond
abbrev pub udf_layout : List ℕ
udf_layout = 4 ∷ 1 ∷ 3 ∷ 12 ∷ 5 ∷ 3 ∷ 4 ∷ []

abbrev pub udf_word : Insn → ℕ
udf_word i = join udf_layout (number (at i 0) % 16 ∷ 1 ∷ 7 ∷ number (at i 0) / 16 ∷ 31 ∷ 3 ∷ i.cond.0 ∷ [])

-- rm 1 6:5 lsb rd 20:16 24:21 011 cond
abbrev pub bits_layout : List ℕ
bits_layout = 4 ∷ 1 ∷ 2 ∷ 5 ∷ 4 ∷ 5 ∷ 4 ∷ 3 ∷ 4 ∷ []

abbrev pub bits_laid : Insn → ℕ → ℕ → ℕ → ℕ → ℕ → ℕ
bits_laid i op low rm lsb rest = join bits_layout (rm ∷ 1 ∷ low ∷ lsb ∷ (at i 0).reg ∷ rest ∷ op ∷ 3 ∷ i.cond.0 ∷ [])

abbrev pub bfx_word : ℕ → Insn → ℕ
bfx_word op i = bits_laid i op 2 (at i 1).reg (number (at i 2)) (number (at i 3) - 1)

-- 20:16 is the last bit that is written
abbrev pub bf_laid : Insn → ℕ → ℕ → ℕ → ℕ
bf_laid i rm lsb width = bits_laid i 14 0 rm lsb (lsb + width - 1)

abbrev pub bfc_word : Insn → ℕ
bfc_word i = bf_laid i 15 (number (at i 1)) (number (at i 2))

abbrev pub bfi_word : Insn → ℕ
bfi_word i = bf_laid i (at i 1).reg (number (at i 2)) (number (at i 3))

-- rm 1 7:5 11:8 15:12 19:16 op 011 cond
abbrev pub layout : List ℕ
layout = 4 ∷ 1 ∷ 3 ∷ 4 ∷ 4 ∷ 4 ∷ 5 ∷ 3 ∷ 4 ∷ []

abbrev pub laid : Insn → ℕ → ℕ → ℕ → ℕ → ℕ → ℕ → ℕ
laid i op low rm rs rd rn = join layout (rm ∷ 1 ∷ low ∷ rs ∷ rd ∷ rn ∷ op ∷ 3 ∷ i.cond.0 ∷ [])

abbrev pub div_word : ℕ → Insn → ℕ
div_word op i = laid i op 0 (at i 1).reg (at i 2).reg 0 (at i 0).reg

abbrev pub rev_word : ℕ → ℕ → Insn → ℕ
rev_word op low i = laid i op low (at i 1).reg 15 (at i 0).reg 15

-- 11:10 is the rotate
abbrev pub extend_laid : Insn → ℕ → ℕ → ℕ → ℕ → ℕ
extend_laid i op rm rotate rn = laid i op 3 rm (rotate / 8 * 4) (at i 0).reg rn

abbrev pub extend_word : ℕ → Insn → ℕ
extend_word op i = extend_laid i op (at i 1).reg (at i 2).amount 15

abbrev pub add_extend_word : ℕ → Insn → ℕ
add_extend_word op i = extend_laid i op (at i 2).reg (at i 3).amount (at i 1).reg

-- rm 5:4 asr amount rd number 24:21 011 cond
abbrev pub sat_layout : List ℕ
sat_layout = 4 ∷ 2 ∷ 1 ∷ 5 ∷ 4 ∷ 5 ∷ 4 ∷ 3 ∷ 4 ∷ []

-- asr by 32 is written 0
abbrev pub sat_laid : ℕ → ℕ → Insn → ℕ
sat_laid op n i =
    join sat_layout ((at i 2).reg ∷ 1 ∷ (at i 3).how / 2 ∷ (at i 3).amount % 32 ∷ (at i 0).reg ∷ n ∷ op ∷ 3 ∷ i.cond.0 ∷ [])

abbrev pub ssat_word : Insn → ℕ
ssat_word i = sat_laid 5 (number (at i 1) - 1) i

abbrev pub usat_word : Insn → ℕ
usat_word i = sat_laid 7 (number (at i 1)) i

-- 24:20 of the names rev, rev16, rbit, revsh, and sxtb16 .. uxtah
abbrev pub operations : List ℕ
operations = 11 ∷ 11 ∷ 15 ∷ 15 ∷ 8 ∷ 8 ∷ 10 ∷ 10 ∷ 11 ∷ 11 ∷ 12 ∷ 12 ∷ 14 ∷ 14 ∷ 15 ∷ 15 ∷ []

-- 7:5 of rev and rbit is 1, and of the others 5; every second extend adds
abbrev pub reversed : ℕ → Insn → ℕ
reversed n = rev_word (get_or operations n 0) (n % 2 * 4 + 1)

abbrev pub extended : ℕ → Insn → ℕ
extended n = pick (eqb (n % 2) 0) (extend_word (get_or operations n 0)) (add_extend_word (get_or operations n 0))

abbrev pub moved : ℕ → Insn → ℕ
moved n = pick (leb n (name "revsh")) (reversed (n - name "rev")) (extended (n - name "rev"))

-- how a name's words are laid
unfoldable pub laid_as : ℕ → Insn → ℕ
laid_as n =
    pick (eqb n (name "udf")) udf_word
    (pick (eqb n (name "sbfx")) (bfx_word 13)
    (pick (eqb n (name "ubfx")) (bfx_word 15)
    (pick (eqb n (name "bfc")) bfc_word
    (pick (eqb n (name "bfi")) bfi_word
    (pick (eqb n (name "sdiv")) (div_word 17)
    (pick (eqb n (name "udiv")) (div_word 19)
    (pick (eqb n (name "ssat")) ssat_word
    (pick (eqb n (name "usat")) usat_word
    (moved n)))))))))

abbrev pub media_word : Insn → ℕ
media_word i = laid_as i.name i
