-- 01, "Media": "27:25 = 011, bit 4 set, by 24:20 and 7:5", and 02, P4.
use Rattle.std.specs.Prelude.{[], ◌∷◌, ℕ, ◌+◌, ◌-◌, ◌*◌, eqb, ltb, pos}
use Rattle.word.specs.Field.{field}
use Rattle.word.specs.Layout.{joined}
use Rattle.word.specs.Choice.{pick}
use Rattle.insn.specs.Roots.{name}
use Rattle.insn.specs.Answer.{Decoded}
use Rattle.insn.specs.declared.Flow.TheVariants.{Next, Trap}
use Rattle.insn.specs.declared.Operand.{Operand}
use Rattle.insn.specs.declared.Operand.TheVariants.{Empty, SaturateShift, Rotate, Count, Number}
use Rattle.insn.specs.declared.Shift.TheVariants.{Lsl, Asr}
use Rattle.a32_shared.specs.Row.{among, ◌⇒◌, rd, rn, rm, reg_of, answer, no_row}

-- "31, 111: udf, number 19:8 then 3:0, trap"
abbrev pub udf_of : ℕ → ℕ → Decoded
udf_of w addr = answer w addr (name "udf") Trap (Number (joined w 8 12 0 4) ∷ [])

-- "26, 27 sbfx and 30, 31 ubfx with 6:5 = 10: Rd, Rm, 11:7, 20:16 plus 1"
abbrev pub bfx_of : ℕ → ℕ → ℕ → Decoded
bfx_of w addr name =
    pick (eqb (field w 5 2) 2)
    (answer w addr name Next (reg_of w rd ∷ reg_of w rm ∷ Number (field w 7 5) ∷ Number (field w 16 5 + 1) ∷ []))
    no_row

-- "bfi, or bfc if Rm is 15; Rd, Rm for bfi only, 11:7, width"
abbrev pub bf_width_of : ℕ → ℕ → ℕ → ℕ → Decoded
bf_width_of w addr lsb width =
    pick (eqb (field w rm 4) 15)
    (answer w addr (name "bfc") Next (reg_of w rd ∷ Count (pos lsb) ∷ Count (pos width) ∷ []))
    (answer w addr (name "bfi") Next (reg_of w rd ∷ reg_of w rm ∷ Count (pos lsb) ∷ Count (pos width) ∷ []))

-- "28, 29 with 6:5 = 00", "width 20:16 - 11:7 + 1, refused below 1", which is where 20:16 is below 11:7
abbrev pub bf_of : ℕ → ℕ → Decoded
bf_of w addr =
    pick (eqb (field w 5 2) 0)
    (pick (ltb (field w 16 5) (field w 7 5)) no_row (bf_width_of w addr (field w 7 5) (field w 16 5 - field w 7 5 + 1)))
    no_row

-- "17 sdiv, 19 udiv with 000: 19:16, 3:0, 11:8"
abbrev pub div_of : ℕ → ℕ → ℕ → Decoded
div_of w addr name =
    pick (eqb (field w 5 3) 0) (answer w addr name Next (reg_of w 16 ∷ reg_of w 0 ∷ reg_of w 8 ∷ [])) no_row

-- "then lsl 11:7 if not 0, or with bit 6 asr, 0 meaning 32"
abbrev pub sat_shift_of : ℕ → Operand
sat_shift_of w =
    pick (eqb (field w 6 1) 1)
    (SaturateShift Asr (pick (eqb (field w 7 5) 0) 32 (field w 7 5)))
    (pick (eqb (field w 7 5) 0) Empty (SaturateShift Lsl (field w 7 5)))

-- "Rd, saturate number .., Rm, then" the shift
abbrev pub sat_of : ℕ → ℕ → ℕ → ℕ → Decoded
sat_of w addr name number =
    answer w addr name Next (reg_of w rd ∷ Count (pos number) ∷ reg_of w rm ∷ sat_shift_of w ∷ [])

-- 02, P4: "five bits, 20:16", "ssat adds 1 and gives 1 to 32, usat 0 to 31"
abbrev pub ssat_of : ℕ → ℕ → Decoded
ssat_of w addr = sat_of w addr (name "ssat") (field w 16 5 + 1)

abbrev pub usat_of : ℕ → ℕ → Decoded
usat_of w addr = sat_of w addr (name "usat") (field w 16 5)

-- "With Rn and 11:8 both 15"
abbrev pub rev_of : ℕ → ℕ → ℕ → Decoded
rev_of w addr name =
    pick (eqb (field w rn 4) 15)
    (pick (eqb (field w 8 4) 15) (answer w addr name Next (reg_of w rd ∷ reg_of w rm ∷ [])) no_row)
    no_row

-- "rotate 11:10 times 8 unless 0"
abbrev pub rotate_of : ℕ → Operand
rotate_of w = pick (eqb (field w 10 2) 0) Empty (Rotate (field w 10 2 * 8))

-- "and the `xta` names with Rn when Rn isn't 15"
abbrev pub extend_by_of : ℕ → ℕ → ℕ → ℕ → Decoded
extend_by_of w addr plain adding =
    pick (eqb (field w rn 4) 15)
    (answer w addr plain Next (reg_of w rd ∷ reg_of w rm ∷ rotate_of w ∷ []))
    (answer w addr adding Next (reg_of w rd ∷ reg_of w rn ∷ reg_of w rm ∷ rotate_of w ∷ []))

-- "7:5 = 011 and 9:8 = 00"
abbrev pub extend_of : ℕ → ℕ → ℕ → ℕ → Decoded
extend_of w addr plain adding =
    pick (eqb (field w 5 3) 3) (pick (eqb (field w 8 2) 0) (extend_by_of w addr plain adding) no_row) no_row

-- "/001" and "/101", or an extend
abbrev pub rev_or_extend_of : ℕ → ℕ → ℕ → ℕ → ℕ → ℕ → Decoded
rev_or_extend_of w addr rev1 rev5 plain adding =
    pick (eqb (field w 5 3) 1)
    (rev_of w addr rev1)
    (pick (eqb (field w 5 3) 5) (rev_of w addr rev5) (extend_of w addr plain adding))

-- a saturate "with 5:4 = 01", or another row
abbrev pub sat_or : ℕ → Decoded → Decoded → Decoded
sat_or w a b = pick (eqb (field w 4 2) 1) a b

-- "by 24:20"; the tests on the lower bits tell rows that share a value apart
abbrev pub media_of : ℕ → ℕ → Decoded
media_of w addr =
    among (field w 20 5)
    (
    31 ⇒ pick (eqb (field w 5 3) 7) (udf_of w addr) (bfx_of w addr (name "ubfx")) ∷
    26 ⇒ bfx_of w addr (name "sbfx") ∷
    27 ⇒ bfx_of w addr (name "sbfx") ∷
    30 ⇒ bfx_of w addr (name "ubfx") ∷
    28 ⇒ bf_of w addr ∷
    29 ⇒ bf_of w addr ∷
    17 ⇒ div_of w addr (name "sdiv") ∷
    19 ⇒ div_of w addr (name "udiv") ∷
    10 ⇒ sat_or w (ssat_of w addr) (extend_of w addr (name "sxtb") (name "sxtab")) ∷
    11 ⇒ sat_or w (ssat_of w addr) (rev_or_extend_of w addr (name "rev") (name "rev16") (name "sxth") (name "sxtah")) ∷
    14 ⇒ sat_or w (usat_of w addr) (extend_of w addr (name "uxtb") (name "uxtab")) ∷
    15 ⇒ sat_or w (usat_of w addr) (rev_or_extend_of w addr (name "rbit") (name "revsh") (name "uxth") (name "uxtah")) ∷
    8 ⇒ extend_of w addr (name "sxtb16") (name "sxtab16") ∷
    12 ⇒ extend_of w addr (name "uxtb16") (name "uxtab16") ∷
    []
    )
