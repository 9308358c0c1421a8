-- 01, "Control, bit 7 clear, 6:4 and 22:21".
use Rattle.std.specs.Prelude.{[], ◌∷◌, ℕ, eqb}
use Rattle.word.specs.Field.{field}
use Rattle.word.specs.Layout.{joined}
use Rattle.word.specs.Choice.{pick}
use Rattle.insn.specs.Roots.{name}
use Rattle.insn.specs.Answer.{Decoded}
use Rattle.insn.specs.declared.Flow.{Flow}
use Rattle.insn.specs.declared.Flow.TheVariants.{Next, IndirectBranch, IndirectCall, Return, Trap}
use Rattle.insn.specs.declared.Operand.{Operand}
use Rattle.insn.specs.declared.Operand.TheVariants.{StatusSource, Number}
use Rattle.insn.specs.declared.Status.TheVariants.{Apsr, Spsr}
use Rattle.a32_shared.specs.Row.{among, ◌⇒◌, rd, rn, rm, reg_of, mask_of, answer, no_row}

-- "apsr or by bit 22 spsr"
abbrev pub source_of : ℕ → Operand
source_of w = pick (eqb (field w 22 1) 0) (StatusSource Apsr) (StatusSource Spsr)

abbrev pub mrs_of : ℕ → ℕ → Decoded
mrs_of w addr = answer w addr (name "mrs") Next (reg_of w rd ∷ source_of w ∷ [])

abbrev pub msr_of : ℕ → ℕ → Decoded
msr_of w addr = answer w addr (name "msr") Next (mask_of w ∷ reg_of w rm ∷ [])

-- "000 and bit 9 clear: bit 21 clear mrs (Rd, apsr or by bit 22 spsr), set msr (mask bit 22 then 19:16; Rm)"
abbrev pub status_of : ℕ → ℕ → Decoded
status_of w addr = pick (eqb (field w 9 1) 0) (pick (eqb (field w 21 1) 0) (mrs_of w addr) (msr_of w addr)) no_row

-- "return for register 14, else indirect branch"
abbrev pub return_flow : ℕ → Flow
return_flow w = pick (eqb (field w rm 4) 14) Return IndirectBranch

-- "001: 01 bx (..), 11 clz"
abbrev pub bx_clz_of : ℕ → ℕ → Decoded
bx_clz_of w addr =
    among (field w 21 2)
    (1 ⇒ answer w addr (name "bx") (return_flow w) (reg_of w rm ∷ []) ∷ 3 ⇒ answer w addr (name "clz") Next (reg_of w rd ∷ reg_of w rm ∷ []) ∷ [])

-- "01" of "010" and of "011"
abbrev pub through_of : ℕ → ℕ → ℕ → Flow → Decoded
through_of w addr name flow = among (field w 21 2) (1 ⇒ answer w addr name flow (reg_of w rm ∷ []) ∷ [])

-- "010, 01: bxj, indirect branch"
abbrev pub bxj_of : ℕ → ℕ → Decoded
bxj_of w addr = through_of w addr (name "bxj") IndirectBranch

-- "011, 01: blx, indirect call"
abbrev pub blx_of : ℕ → ℕ → Decoded
blx_of w addr = through_of w addr (name "blx") IndirectCall

-- "101: qadd qsub qdadd qdsub (Rd, Rm, Rn)"
abbrev pub saturating_of : ℕ → ℕ → Decoded
saturating_of w addr = among (field w 21 2) (0 ⇒ of (name "qadd") ∷ 1 ⇒ of (name "qsub") ∷ 2 ⇒ of (name "qdadd") ∷ 3 ⇒ of (name "qdsub") ∷ [])
  where
    of : ℕ → Decoded
    of name = answer w addr name Next (reg_of w rd ∷ reg_of w rm ∷ reg_of w rn ∷ [])

-- "111, 01: bkpt, number 19:8 then 3:0, trap"
abbrev pub bkpt_of : ℕ → ℕ → Decoded
bkpt_of w addr = among (field w 21 2) (1 ⇒ answer w addr (name "bkpt") Trap (Number (joined w 8 12 0 4) ∷ []) ∷ [])

abbrev pub misc_of : ℕ → ℕ → Decoded
misc_of w addr =
    among (field w 4 3)
    (
    0 ⇒ status_of w addr ∷
    1 ⇒ bx_clz_of w addr ∷
    2 ⇒ bxj_of w addr ∷
    3 ⇒ blx_of w addr ∷
    5 ⇒ saturating_of w addr ∷
    7 ⇒ bkpt_of w addr ∷
    []
    )
