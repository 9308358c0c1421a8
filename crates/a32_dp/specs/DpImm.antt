-- 01, "Immediate data processing".
use Rattle.std.specs.Prelude.{Bool, true, false, List, [], ◌∷◌, ◌++◌, ℕ, eqb}
use Rattle.word.specs.Field.{field}
use Rattle.word.specs.Layout.{joined}
use Rattle.word.specs.Choice.{pick, both}
use Rattle.insn.specs.Answer.{accepted}
use Rattle.insn.specs.Roots.{name}
use Rattle.insn.specs.Answer.{Decoded}
use Rattle.insn.specs.declared.Insn.{Insn}
use Rattle.insn.specs.declared.Flow.{Flow}
use Rattle.insn.specs.declared.Flow.TheVariants.{Next}
use Rattle.insn.specs.declared.Operand.{Operand}
use Rattle.insn.specs.declared.Operand.TheVariants.{Number}
use Rattle.a32_shared.specs.Row.{among, ◌⇒◌, rd, rn, reg_of, mask_of, pc_flow, answer}
use Rattle.a32_imm.specs.Imm.{imm_of, imm_filled}
use Rattle.a32_dp.specs.Names.{dp_name}

-- "movw .. movt: Rd, 19:16 then 11:0"
abbrev pub wide_of : ℕ → ℕ → ℕ → Decoded
wide_of w addr name = answer w addr name Next (reg_of w rd ∷ Number (joined w 16 4 0 12) ∷ [])

abbrev pub hint_named : ℕ → ℕ → ℕ → Decoded
hint_named w addr name = answer w addr name Next []

-- "18 with Rn 0 and Rd 15"
unfoldable pub hint_slot : ℕ → Bool
hint_slot w = both (eqb (field w rn 4) 0) (eqb (field w rd 4) 15)

-- "7:0 from 0 to 4 is nop yield wfe wfi sev, else refused"
abbrev pub hint_of : ℕ → ℕ → Decoded
hint_of w addr =
    among (field w 0 8)
    (
    0 ⇒ hint_named w addr (name "nop") ∷
    1 ⇒ hint_named w addr (name "yield") ∷
    2 ⇒ hint_named w addr (name "wfe") ∷
    3 ⇒ hint_named w addr (name "wfi") ∷
    4 ⇒ hint_named w addr (name "sev") ∷
    []
    )

-- "msr (mask as above, then the value)", "unsigned for msr"
abbrev pub msr_of : ℕ → ℕ → Decoded
msr_of w addr = answer w addr (name "msr") Next (mask_of w ∷ imm_of (field w 0 12) true)

abbrev pub msr_hint_of : ℕ → ℕ → Decoded
msr_hint_of w addr = pick (hint_slot w) (hint_of w addr) (msr_of w addr)

-- "unsigned .. for mov to 15"
abbrev pub to_pc : ℕ → Bool
to_pc w = eqb (field w rd 4) 15

-- the value of w as a step: the operand places of i from n on
abbrev pub valued : Insn → ℕ → ℕ → Bool → Decoded
valued i n w unsigned = accepted (imm_filled i n (field w 0 12) unsigned)

-- "Else operation as above; Rd 15 outside compares is an indirect branch"
abbrev pub operation_of : ℕ → ℕ → Decoded
operation_of w addr =
    pick (eqb (field w 23 2) 2) (with_value Next (reg_of w rn ∷ []) false)
    (pick (eqb (field w 21 4) 13) (with_value (pc_flow w) (reg_of w rd ∷ []) (to_pc w))
    (pick (eqb (field w 21 4) 15) (with_value (pc_flow w) (reg_of w rd ∷ []) false)
    (with_value (pc_flow w) (reg_of w rd ∷ reg_of w rn ∷ []) false)))
  where
    with_value : Flow → List Operand → Bool → Decoded
    with_value flow lead unsigned = answer w addr (dp_name w) flow (lead ++ imm_of (field w 0 12) unsigned)

-- "24:20 = 16 movw, 20 movt", "18 with Rn 0 and Rd 15", "Other 18, and 22: msr"
abbrev pub dp_imm_of : ℕ → ℕ → Decoded
dp_imm_of w addr =
    pick (eqb (field w 20 5) 16) (wide_of w addr (name "movw"))
    (pick (eqb (field w 20 5) 20) (wide_of w addr (name "movt"))
    (pick (eqb (field w 20 5) 18) (msr_hint_of w addr)
    (pick (eqb (field w 20 5) 22) (msr_of w addr)
    (operation_of w addr))))
