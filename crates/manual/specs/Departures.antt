-- Where the decoder departs from DDI 0406C: which words, by the manual's row, and what it answers. docs/DIFFERENCES.md has an entry for each,
-- under its name.
use Rattle.std.specs.Prelude.{Bool, true, false, not, List, [], ◌∷◌, ℕ, ◌*◌, ◌%◌, ◌^◌, eqb, ltb, Some, None}
use Prim.Native.String.{String}
use Rattle.word.specs.Choice.{pick, both}
use Rattle.word.specs.Field.{field}
use Rattle.word.specs.Refusal.{NO_ROW}
use Rattle.insn.specs.Answer.{insn_of, accepted, refused, insn_in}
use Rattle.insn.specs.Roots.{name}
use Rattle.insn.specs.declared.AddrMode.{AddrMode}
use Rattle.insn.specs.declared.AddrMode.TheVariants.{Offset, PreIndex, PostIndex}
use Rattle.insn.specs.Answer.{Decoded}
use Rattle.insn.specs.declared.Flow.{Flow}
use Rattle.insn.specs.declared.Flow.TheVariants.{Next, IndirectBranch}
use Rattle.manual.specs.A8.{is_among, other_page_of, Said, reads, beyond, names, unlisted, undefined, unpredictable, Page, said_among, said_of}
use Rattle.manual.specs.A8.{reading_as, reading, transfers, immediate, with_index, extra, one, pair, cp, CR, imm8_words, register_move}
use Rattle.manual.specs.A8.{◌:=◌}
use Rattle.manual.specs.Reads.{is_set, writes_pc, addressing, offset, is_minus_zero, memory}

pub data Departure : Type 0 where
  adr : Departure
  subs_pc_lr : Departure
  compare_15 : Departure
  shifted_15 : Departure
  push_pop_one : Departure
  pair_write_back : Departure
  odd_pair : Departure
  index : Departure
  load_15 : Departure
  literal_index : Departure
  minus_zero : Departure
  empty_list : Departure
  width : Departure
  reverse_bits : Departure
  extend_bits : Departure
  hint_bits : Departure
  trap_condition : Departure
  preload_bits : Departure
  preload_literal : Departure
  barrier_bits : Departure
  unindexed : Departure
  flags_15 : Departure

abbrev pub compares : List String
compares =
    "TST (register)" ∷ "TEQ (register)" ∷ "CMP (register)" ∷ "CMN (register)" ∷ "TST (register-shifted register)" ∷
    "TEQ (register-shifted register)" ∷ "CMP (register-shifted register)" ∷ "CMN (register-shifted register)" ∷ []

abbrev pub register_shifts : List String
register_shifts =
    "AND (register-shifted register)" ∷ "EOR (register-shifted register)" ∷ "SUB (register-shifted register)" ∷
    "RSB (register-shifted register)" ∷ "ADD (register-shifted register)" ∷ "ADC (register-shifted register)" ∷
    "SBC (register-shifted register)" ∷ "RSC (register-shifted register)" ∷ "ORR (register-shifted register)" ∷ "LSL (register)" ∷
    "LSR (register)" ∷ "ASR (register)" ∷ "ROR (register)" ∷ "BIC (register-shifted register)" ∷ "MVN (register-shifted register)" ∷ []

abbrev pub pairs : List String
pairs = "LDRD (register)" ∷ "LDRD (immediate)" ∷ "LDRD (literal)" ∷ "STRD (register)" ∷ "STRD (immediate)" ∷ []

abbrev pub extra_indexes : List String
extra_indexes =
    "STRH (register)" ∷ "LDRH (register)" ∷ "LDRD (register)" ∷ "LDRSB (register)" ∷ "STRD (register)" ∷ "LDRSH (register)" ∷ []

abbrev pub indexes : List String
indexes = "STR (register)" ∷ "LDR (register, ARM)" ∷ "STRB (register)" ∷ "LDRB (register)" ∷ []

abbrev pub unprivilegeds : List String
unprivilegeds = "STRT" ∷ "LDRT" ∷ "STRBT" ∷ "LDRBT" ∷ []

abbrev pub literals : List String
literals =
    "LDR (literal)" ∷ "LDRB (literal)" ∷ "LDRH (literal)" ∷ "LDRD (literal)" ∷ "LDRSB (literal)" ∷ "LDRSH (literal)" ∷ []

abbrev pub displaced : List String
displaced =
    "STR (immediate, ARM)" ∷ "LDR (immediate, ARM)" ∷ "LDR (literal)" ∷ "STRB (immediate, ARM)" ∷ "LDRB (immediate, ARM)" ∷
    "LDRB (literal)" ∷ []

abbrev pub multiples : List String
multiples =
    "STMDA" ∷ "LDMDA" ∷ "STM" ∷ "LDM" ∷ "STMDB" ∷ "LDMDB" ∷ "STMIB" ∷ "LDMIB" ∷ []

abbrev pub extends : List String
extends =
    "SXTAB16" ∷ "SXTB16" ∷ "SXTAB" ∷ "SXTB" ∷ "SXTAH" ∷ "SXTH" ∷ "UXTAB16" ∷ "UXTB16" ∷ "UXTAB" ∷ "UXTB" ∷ "UXTAH" ∷ "UXTH" ∷ []

abbrev pub hints : List String
hints = "NOP" ∷ "YIELD" ∷ "WFE" ∷ "WFI" ∷ "SEV" ∷ "DBG" ∷ "unallocated hint" ∷ []

abbrev pub coprocessor_transfers : List String
coprocessor_transfers = "STC" ∷ "LDC (immediate)" ∷ "LDC (literal)" ∷ []

abbrev pub preloads : List String
preloads = "PLDW (immediate)" ∷ "PLD (immediate)" ∷ "PLD (literal)" ∷ []

-- an index that is added and shifted left
abbrev pub left_index : ℕ → Bool
left_index w = both (is_set w 23) (eqb (field w 5 2) 0)

abbrev pub is_offset : AddrMode → Bool
is_offset Offset = true
is_offset PreIndex = false
is_offset PostIndex = false

abbrev pub barriers : List String
barriers = "CLREX" ∷ "DSB" ∷ "DMB" ∷ "ISB" ∷ []

-- a PLDW from R[15], with 15:12 as expected
unfoldable pub literal_pldw : ℕ → Bool
literal_pldw w =
    both (eqb (field w 28 4) 15)
    (both (eqb (field w 24 4) 5)
    (both (eqb (field w 20 3) 1) (both (eqb (field w 16 4) 15) (eqb (field w 12 4) 15))))

-- a departure covers the words of some rows that pass a test
pub record Covering : Type 0 where
  pub departure : Departure
  pub rows : List String
  pub covers : Bool

infix 60 ◌covers◌when◌
abbrev pub ◌covers◌when◌ : Departure → List String → Bool → Covering
d covers rows when test = record { departure = d; rows = rows; covers = test }

abbrev pub coverings : ℕ → List Covering
coverings w =
    (adr covers ("ADR" ∷ []) when true) ∷
    (subs_pc_lr covers ("SUBS PC, LR and related instructions" ∷ []) when true) ∷
    (compare_15 covers compares when eqb (field w 12 4) 15) ∷
    (shifted_15 covers register_shifts when eqb (field w 12 4) 15) ∷
    (push_pop_one covers ("PUSH, one register" ∷ "POP, one register" ∷ []) when true) ∷
    (pair_write_back covers pairs when both (not (is_set w 24)) (is_set w 21)) ∷
    (odd_pair covers pairs when eqb (field w 12 4 % 2) 1) ∷
    (index covers extra_indexes when not (is_set w 23)) ∷
    (index covers indexes when not (left_index w)) ∷
    (index covers unprivilegeds when both (is_set w 25) (not (left_index w))) ∷
    (load_15 covers ("LDRB (immediate, ARM)" ∷ "LDRB (literal)" ∷ "LDRB (register)" ∷ "LDRT" ∷ "LDRBT" ∷ []) when eqb (field w 12 4) 15) ∷
    (literal_index covers literals when not (is_offset (addressing w))) ∷
    (minus_zero covers displaced when both (is_offset (addressing w)) (is_minus_zero w (field w 0 12))) ∷
    (empty_list covers multiples when eqb (field w 0 16) 0) ∷
    (width covers ("BFC" ∷ "BFI" ∷ []) when ltb (field w 16 5) (field w 7 5)) ∷
    (reverse_bits covers ("REV" ∷ "REV16" ∷ "RBIT" ∷ "REVSH" ∷ []) when not (both (eqb (field w 16 4) 15) (eqb (field w 8 4) 15))) ∷
    (extend_bits covers extends when not (eqb (field w 8 2) 0)) ∷
    (hint_bits covers hints when not (eqb (field w 12 4) 15)) ∷
    (trap_condition covers ("BKPT" ∷ "UDF" ∷ []) when not (eqb (field w 28 4) 14)) ∷
    (preload_bits covers preloads when not (eqb (field w 12 4) 15)) ∷
    (minus_zero covers preloads when is_minus_zero w (field w 0 12)) ∷
    (preload_literal covers ("UNPREDICTABLE" ∷ []) when literal_pldw w) ∷
    (barrier_bits covers barriers when not (eqb (field w 8 12) 0xff0)) ∷
    (unindexed covers coprocessor_transfers when both (not (is_set w 24)) (not (is_set w 21))) ∷
    (literal_index covers ("LDC (literal)" ∷ []) when is_set w 21) ∷
    (minus_zero covers coprocessor_transfers when is_minus_zero w (field w 0 8 * 2 ^ 2)) ∷
    (flags_15 covers ("MRC" ∷ []) when eqb (field w 12 4) 15) ∷
    []

-- the first that covers a word of this row
pub data Standing : Type 0 where
  follows : Standing
  departs : Departure → Standing

abbrev pub standing_among : String → List Covering → Standing
standing_among row [] = follows
standing_among row (c ∷ cs) = pick (both (is_among row c.rows) c.covers) (departs c.departure) (standing_among row cs)

unfoldable pub standing_of : String → ℕ → Standing
standing_of row w = standing_among row (coverings w)

-- what a page reads, as an answer
abbrev pub answered : Said → Decoded
answered (reads d) = d
answered (beyond s) = refused NO_ROW
answered (names s) = refused NO_ROW
answered unlisted = refused NO_ROW
answered undefined = refused NO_ROW
answered unpredictable = refused NO_ROW

-- an answer with another flow, and with the word's own condition
abbrev pub branching : Decoded → Decoded
branching d = accepted (insn_of (insn_in d).addr (insn_in d).name (insn_in d).cond IndirectBranch (insn_in d).ops)

abbrev pub conditioned : ℕ → Decoded → Decoded
conditioned w d = accepted (insn_of (insn_in d).addr (insn_in d).name (record { 0 = field w 28 4 }) (insn_in d).flow (insn_in d).ops)

module _ (w addr : ℕ) where
  -- P and W give the mode from R[15] too; minus zero is told from zero in no offset mode
  abbrev displacing : String → Flow → Said
  displacing root flow = transfers w addr root flow (addressing w) (both (not (is_offset (addressing w))) (is_minus_zero w (field w 0 12)))

  abbrev preloading : String → Said
  preloading root = reading w addr root Next (memory (field w 16 4) None (offset w (field w 0 12)) Offset 1 false false ∷ [])

  -- any P and W give a mode that writes back or has an offset, from R[15] too; minus zero is told from zero in none
  abbrev coprocessor_moving : String → String → Said
  coprocessor_moving plain long =
      reading_as w addr (pick (is_set w 22) (name long) (name plain)) Next
      (cp w addr ∷ CR w addr 12 ∷ memory (field w 16 4) None (offset w (imm8_words w addr)) (addressing w) 4 false false ∷ [])

  -- any load to 15 is a branch
  abbrev pub port_loads : List Page
  port_loads =
      ("STR (immediate, ARM)" := displacing "str" Next) ∷
      ("LDR (immediate, ARM)" := displacing "ldr" (writes_pc w)) ∷
      ("LDR (literal)" := displacing "ldr" (writes_pc w)) ∷
      ("STRB (immediate, ARM)" := displacing "strb" Next) ∷
      ("LDRB (immediate, ARM)" := displacing "ldrb" (writes_pc w)) ∷
      ("LDRB (literal)" := displacing "ldrb" (writes_pc w)) ∷
      ("LDRB (register)" := with_index w addr "LDRB (register)" "ldrb" (writes_pc w)) ∷
      ("LDRT" := pick (is_set w 25) (with_index w addr "LDRT" "ldrt" (writes_pc w)) (immediate w addr "ldrt" (writes_pc w))) ∷
      ("LDRBT" := pick (is_set w 25) (with_index w addr "LDRBT" "ldrbt" (writes_pc w)) (immediate w addr "ldrbt" (writes_pc w))) ∷
      ("LDRH (literal)" := extra w addr "ldrh" 2 (one w addr) (addressing w)) ∷
      ("LDRD (literal)" := extra w addr "ldrd" 8 (pair w addr) (addressing w)) ∷
      ("LDRSB (literal)" := extra w addr "ldrsb" 1 (one w addr) (addressing w)) ∷
      ("LDRSH (literal)" := extra w addr "ldrsh" 2 (one w addr) (addressing w)) ∷
      ("PLDW (immediate)" := preloading "pldw") ∷
      ("PLD (immediate)" := preloading "pld") ∷
      ("PLD (literal)" := preloading "pld") ∷
      ("STC" := coprocessor_moving "stc" "stcl") ∷
      ("LDC (immediate)" := coprocessor_moving "ldc" "ldcl") ∷
      ("LDC (literal)" := coprocessor_moving "ldc" "ldcl") ∷
      []

  -- what the decoder answers, of a row of A5's tables and the page that reads it
  abbrev pub port_of : Departure → String → String → Decoded
  port_of adr row page = answered (said_of w addr (pick (is_set w 23) "ADD (immediate, ARM)" "SUB (immediate, ARM)"))
  port_of subs_pc_lr row page = answered (said_of w addr (other_page_of row w))
  port_of compare_15 row page = branching (answered (said_of w addr page))
  port_of shifted_15 row page = branching (answered (said_of w addr page))
  port_of push_pop_one row page = answered (said_of w addr row)
  port_of pair_write_back row page = refused NO_ROW
  port_of odd_pair row page = refused NO_ROW
  port_of index row page = refused NO_ROW
  port_of load_15 row page = answered (said_among page port_loads)
  port_of literal_index row page = answered (said_among page port_loads)
  port_of minus_zero row page = answered (said_among page port_loads)
  port_of empty_list row page = refused NO_ROW
  port_of width row page = refused NO_ROW
  port_of reverse_bits row page = refused NO_ROW
  port_of extend_bits row page = refused NO_ROW
  port_of hint_bits row page = answered (said_of w addr "MSR (immediate)")
  port_of trap_condition row page = conditioned w (answered (said_of w addr page))
  port_of preload_bits row page = refused NO_ROW
  port_of preload_literal row page = answered (preloading "pldw")
  port_of barrier_bits row page = refused NO_ROW
  port_of unindexed row page = answered (said_among page port_loads)
  port_of flags_15 row page = answered (register_move w addr "mrc")
