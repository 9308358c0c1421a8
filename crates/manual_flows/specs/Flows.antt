-- DDI 0406C, chapters A8 and B9: what the operation of a word's row does with control, in 01's terms.
use Rattle.std.specs.Prelude.{◌≡◌, List, [], ◌∷◌, ℕ, eqb}
use Prim.Native.String.{String}
use lib.Text.{eqt}
use Rattle.word.specs.Choice.{pick}
use Rattle.word.specs.Field.{field}
use Rattle.insn.specs.Numbers.{flow_number}
use Rattle.insn.specs.declared.Flow.{Flow}
use Rattle.insn.specs.declared.Flow.TheVariants.{Next, Branch, CondBranch, IndirectBranch, Call, IndirectCall, Return, Trap}
use Rattle.manual.specs.A5.{table_row}
use Rattle.manual.specs.A8.{returning, row_of, loads_pc, from_pc, imm24, imm24_h}
use Rattle.manual.specs.Departures.{Standing, departs, compare_15, shifted_15, load_15}
use Rattle.manual.specs.Reads.{writes_pc, branches_to}
use Rattle.manual_flows.specs.Opens.{Group, ◌are◌, kind_among, opens}

-- control goes as a flow of 01's says; another mode serves a call, and comes back; or nothing is said
pub data Control : Type 0 where
  goes : Flow → Control
  served : Control
  unknown : Control

-- how the page of a title writes the PC: not at all, or
abbrev pub RESULT : ℕ
RESULT = 1

abbrev pub MOVE : ℕ
MOVE = 2

abbrev pub EXCHANGE : ℕ
EXCHANGE = 3

abbrev pub JAZELLE : ℕ
JAZELLE = 4

abbrev pub LINK : ℕ
LINK = 5

abbrev pub LOADS : ℕ
LOADS = 6

abbrev pub TO_LABEL : ℕ
TO_LABEL = 7

abbrev pub CALLS : ℕ
CALLS = 8

abbrev pub CALLS_THUMB : ℕ
CALLS_THUMB = 9

abbrev pub RETURNS : ℕ
RETURNS = 10

abbrev pub TRAPS : ℕ
TRAPS = 11

abbrev pub SERVED : ℕ
SERVED = 12

abbrev pub RESTORES : ℕ
RESTORES = 13

-- a title that is on none of these lists has a page that does not write the PC, but for a destination of 15 of which it says "UNPREDICTABLE"
abbrev pub writers : List Group
writers =
    -- 01: a branch to what register 14 holds is a return
    (("MOV (register, ARM)" ∷ []) are MOVE) ∷
    (("BX" ∷ []) are EXCHANGE) ∷
    -- "if d == 15 then ALUWritePC(result)"; with S it is SUBS PC, LR
    (returning are RESULT) ∷
    -- "if t == 15 then .. LoadWritePC(data)"
    (("LDR (immediate, ARM)" ∷ "LDR (literal)" ∷ "LDR (register, ARM)" ∷ "POP, one register" ∷ []) are RESULT) ∷
    -- "BXJWritePC(R[m])"; "LR = next_instr_addr .. BXWritePC(target)"
    (("BXJ" ∷ []) are JAZELLE) ∷
    (("BLX (register)" ∷ []) are LINK) ∷
    -- "if registers<15> == '1' then LoadWritePC(..)"
    (("LDMDA" ∷ "LDM" ∷ "POP" ∷ "LDMDB" ∷ "LDMIB" ∷ []) are LOADS) ∷
    -- "BranchWritePC(PC + imm32)", and with a link
    (("B" ∷ []) are TO_LABEL) ∷
    (("BL" ∷ []) are CALLS) ∷
    (("BLX (immediate)" ∷ []) are CALLS_THUMB) ∷
    -- B9.3: returns from an exception
    (("LDM (exception return)" ∷ "RFE" ∷ "ERET" ∷ []) are RETURNS) ∷
    (("BKPT" ∷ "UDF" ∷ []) are TRAPS) ∷
    -- "CallSupervisor(..)", "CallHypervisor(..)", "TakeSMCException()": whether the other mode stores is said elsewhere
    (("SVC" ∷ "HVC" ∷ "SMC" ∷ []) are SERVED) ∷
    -- B9.3: a return from an exception too; 01 has the flow of the row that leads to it, as departure subs-pc-lr says
    (("SUBS PC, LR and related instructions" ∷ []) are RESTORES) ∷
    []

module _ (w addr : ℕ) where
  abbrev pub moves : Flow
  moves = branches_to (field w 0 4)

  abbrev pub restores : Flow
  restores = pick (eqt (table_row w) "MOV (register, ARM)") moves IndirectBranch

  -- 01 tells a branch under a condition from one without
  abbrev pub branches : Flow
  branches = pick (eqb (field w 28 4) 14) (Branch (from_pc w addr (imm24 w addr))) (CondBranch (from_pc w addr (imm24 w addr)))

  abbrev pub control_by : ℕ → Control
  control_by kind =
      pick (eqb kind 0) (goes Next)
      (pick (eqb kind RESULT) (goes (writes_pc w))
      (pick (eqb kind MOVE) (goes (pick (eqb (field w 12 4) 15) moves Next))
      (pick (eqb kind EXCHANGE) (goes moves)
      (pick (eqb kind JAZELLE) (goes IndirectBranch)
      (pick (eqb kind LINK) (goes IndirectCall)
      (pick (eqb kind LOADS) (goes (loads_pc w addr))
      (pick (eqb kind TO_LABEL) (goes branches)
      (pick (eqb kind CALLS) (goes (Call (from_pc w addr (imm24 w addr))))
      (pick (eqb kind CALLS_THUMB) (goes (Call (from_pc w addr (imm24_h w addr))))
      (pick (eqb kind RETURNS) (goes Return)
      (pick (eqb kind TRAPS) (goes Trap)
      (pick (eqb kind SERVED) served (goes restores)))))))))))))

  -- by the title, were every destination one that the page allows; and of a word
  unfoldable pub control_as : String → Control
  control_as title = control_by (kind_among title writers)

  unfoldable pub control_of : Control
  control_of = pick (opens (row_of w) w) unknown (control_as (row_of w))

-- the departures of which the decoder's flow is a branch and the manual's is not
abbrev pub Kept : Standing → Type 0
Kept s = (s ≡ departs compare_15 → ⊥) × (s ≡ departs shifted_15 → ⊥) × (s ≡ departs load_15 → ⊥)

-- the number of 01's flow; 8 and 9 are none of these
abbrev pub control_number : Control → ℕ
control_number (goes f) = flow_number f
control_number served = 8
control_number unknown = 9

-- a number tells how control goes at every address
abbrev pub Tells : ℕ → (ℕ → Control) → Type 0
Tells r at = (addr : ℕ) → r ≡ control_number (at addr)
