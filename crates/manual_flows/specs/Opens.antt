-- DDI 0406C, chapters A7, A8 and B9: where nothing is said of how control goes on. That is what a table of A5 leaves undefined or unpredictable, and
-- a destination of 15 of which a page says "UNPREDICTABLE". A destination is a register that the operation writes, a base that is written back among
-- them. What chapter A7 leaves undefined in its own tables is not told apart.
use Rattle.std.specs.Prelude.{Bool, true, false, not, List, [], ◌∷◌, ℕ, eqb}
use Prim.Native.String.{String}
use Rattle.word.specs.Choice.{pick, both}
use Rattle.word.specs.Field.{field}
use Rattle.manual.specs.A8.{is_among}
use Rattle.manual.specs.Departures.{register_shifts, extends}
use Rattle.manual.specs.Reads.{is_set}

-- titles of one kind, and the first kind that a title is among; 0 is the kind of the others
pub record Group : Type 0 where
  pub kind : ℕ
  pub titles : List String

infix 60 ◌are◌
abbrev pub ◌are◌ : List String → ℕ → Group
ts are k = record { kind = k; titles = ts }

abbrev pub kind_among : String → List Group → ℕ
kind_among title [] = 0
kind_among title (g ∷ gs) = pick (is_among title g.titles) g.kind (kind_among title gs)

-- the destinations that the page of a title has, if it says this of any: the register at 15:12, at 19:16, or both; a pair, the one at 15:12 and the
-- next; a base at 19:16 that is written back, alone or with these; registers of a list; those of chapter A7
abbrev pub NO_PAGE : ℕ
NO_PAGE = 1

abbrev pub LOW : ℕ
LOW = 2

abbrev pub HIGH : ℕ
HIGH = 3

abbrev pub BOTH : ℕ
BOTH = 4

abbrev pub PAIR : ℕ
PAIR = 5

abbrev pub BASE : ℕ
BASE = 6

abbrev pub LOW_BASE : ℕ
LOW_BASE = 7

abbrev pub PAIR_BASE : ℕ
PAIR_BASE = 8

abbrev pub MANY_BASE : ℕ
MANY_BASE = 9

abbrev pub LIST : ℕ
LIST = 10

abbrev pub FLOATING : ℕ
FLOATING = 11

abbrev pub ELEMENTS : ℕ
ELEMENTS = 12

abbrev pub destinations : List Group
destinations =
    (("UNDEFINED" ∷ "UNPREDICTABLE" ∷ []) are NO_PAGE) ∷
    -- "d = UInt(Rd)" at 15:12: register-shifted; 16-bit constants; saturating; media; status
    (register_shifts are LOW) ∷
    (("MOV (immediate), 16-bit" ∷ "MOVT" ∷ "QADD" ∷ "QSUB" ∷ "QDADD" ∷ "QDSUB" ∷ "CLZ" ∷ "MRS" ∷ "MRS (Banked register)" ∷ []) are LOW) ∷
    (("SADD16" ∷ "SASX" ∷ "SSAX" ∷ "SSUB16" ∷ "SADD8" ∷ "SSUB8" ∷ "QADD16" ∷ "QASX" ∷ "QSAX" ∷ "QSUB16" ∷ "QADD8" ∷ "QSUB8" ∷
    "SHADD16" ∷ "SHASX" ∷ "SHSAX" ∷ "SHSUB16" ∷ "SHADD8" ∷ "SHSUB8" ∷ "UADD16" ∷ "UASX" ∷ "USAX" ∷ "USUB16" ∷ "UADD8" ∷ "USUB8" ∷
    "UQADD16" ∷ "UQASX" ∷ "UQSAX" ∷ "UQSUB16" ∷ "UQADD8" ∷ "UQSUB8" ∷ "UHADD16" ∷ "UHASX" ∷ "UHSAX" ∷ "UHSUB16" ∷ "UHADD8" ∷ "UHSUB8" ∷ [])
    are LOW) ∷
    (extends are LOW) ∷
    (("PKH" ∷ "SSAT" ∷ "USAT" ∷ "SEL" ∷ "SSAT16" ∷ "USAT16" ∷ "REV" ∷ "REV16" ∷ "RBIT" ∷ "REVSH" ∷ "SBFX" ∷ "BFC" ∷ "BFI" ∷ "UBFX" ∷ [])
    are LOW) ∷
    -- "t = UInt(Rt)" of loads that write no base, or one that is not 15; "d = UInt(Rd)" of the exclusive stores
    (("LDRB (immediate, ARM)" ∷ "LDRB (literal)" ∷ "LDRH (immediate, ARM)" ∷ "LDRH (literal)" ∷ "LDRSB (immediate)" ∷ "LDRSB (literal)" ∷
    "LDRSH (immediate)" ∷ "LDRSH (literal)" ∷ "SWP, SWPB" ∷ "LDREX" ∷ "LDREXB" ∷ "LDREXH" ∷ "STREX" ∷ "STREXB" ∷ "STREXH" ∷ "STREXD" ∷ [])
    are LOW) ∷
    -- "d = UInt(Rd)" at 19:16: multiplies, and divisions
    (("MUL" ∷ "MLA" ∷ "MLS" ∷ "SMLABB, SMLABT, SMLATB, SMLATT" ∷ "SMLAWB, SMLAWT" ∷ "SMULWB, SMULWT" ∷ "SMULBB, SMULBT, SMULTB, SMULTT" ∷
    "SMLAD" ∷ "SMUAD" ∷ "SMLSD" ∷ "SMUSD" ∷ "SMMLA" ∷ "SMMUL" ∷ "SMMLS" ∷ "SDIV" ∷ "UDIV" ∷ "USAD8" ∷ "USADA8" ∷ []) are HIGH) ∷
    -- "dLo = UInt(RdLo); dHi = UInt(RdHi)"; "t = UInt(Rt); t2 = UInt(Rt2)": 15:12 and 19:16
    (("UMAAL" ∷ "UMULL" ∷ "UMLAL" ∷ "SMULL" ∷ "SMLAL" ∷ "SMLALBB, SMLALBT, SMLALTB, SMLALTT" ∷ "SMLALD" ∷ "SMLSLD" ∷ "MRRC" ∷ "MRRC2" ∷ [])
    are BOTH) ∷
    -- "t2 = t+1"
    (("LDRD (immediate)" ∷ "LDRD (literal)" ∷ "LDREXD" ∷ []) are PAIR) ∷
    -- "if wback && (n == 15 || n == t) then UNPREDICTABLE"
    (("STR (immediate, ARM)" ∷ "STR (register)" ∷ "STRB (immediate, ARM)" ∷ "STRB (register)" ∷ "STRH (register)" ∷ "STRH (immediate, ARM)" ∷
    "STRD (register)" ∷ "STRD (immediate)" ∷ "STRT" ∷ "STRBT" ∷ "STRHT" ∷ "LDR (register, ARM)" ∷ []) are BASE) ∷
    (("LDRB (register)" ∷ "LDRH (register)" ∷ "LDRSB (register)" ∷ "LDRSH (register)" ∷ "LDRT" ∷ "LDRBT" ∷ "LDRHT" ∷ "LDRSBT" ∷ "LDRSHT" ∷ [])
    are LOW_BASE) ∷
    (("LDRD (register)" ∷ []) are PAIR_BASE) ∷
    -- "wback = (W == '1')", and "if n == 15 .. then UNPREDICTABLE"
    (("STMDA" ∷ "STM" ∷ "STMDB" ∷ "STMIB" ∷ "LDM (exception return)" ∷ "RFE" ∷ "STC" ∷ "LDC (immediate)" ∷ "LDC (literal)" ∷ "STC2" ∷
    "LDC2" ∷ []) are MANY_BASE) ∷
    -- the same, and "BitCount(registers) < 1 then UNPREDICTABLE": a list of none
    (("LDMDA" ∷ "LDM" ∷ "LDMDB" ∷ "LDMIB" ∷ "LDM (User registers)" ∷ []) are LIST) ∷
    (("Advanced SIMD, Floating-point" ∷ []) are FLOATING) ∷
    (("Advanced SIMD load/store" ∷ []) are ELEMENTS) ∷
    []

abbrev pub either : Bool → Bool → Bool
either a b = pick a true b

module _ (w : ℕ) where
  -- the register that four bits name is the PC
  abbrev pub is_pc : ℕ → Bool
  is_pc lo = eqb (field w lo 4) 15

  -- "wback = (P == '0') || (W == '1')"
  abbrev pub writes_base : Bool
  writes_base = both (is_pc 16) (either (not (is_set w 24)) (is_set w 21))

  abbrev pub many_base : Bool
  many_base = both (is_pc 16) (is_set w 21)

  -- t or t+1 is 15
  abbrev pub pair_has_pc : Bool
  pair_has_pc = eqb (field w 13 3) 7

  -- A7.8, VMRS of FPSCR: "if t == 15 .. APSR"
  abbrev pub to_flags : Bool
  to_flags = both (eqb (field w 16 8) 0xf1) (eqb (field w 8 4) 10)

  -- A7.6, VLDM and VSTM, which write the base back; A7.9, two core registers, from D with bit 20; A7.8, one, from S or D with bit 20
  abbrev pub floating_opens : Bool
  floating_opens =
      pick (eqb (field w 25 3) 6)
      (pick (eqb (field w 21 4) 2) (both (is_set w 20) (either (is_pc 12) (is_pc 16))) many_base)
      (both (is_set w 4) (both (is_set w 20) (both (is_pc 12) (not to_flags))))

  -- A7.7: "wback = (m != 15)"
  abbrev pub elements_open : Bool
  elements_open = both (is_pc 16) (not (is_pc 0))

  abbrev pub opens_by : ℕ → Bool
  opens_by kind =
      pick (eqb kind 0) false
      (pick (eqb kind NO_PAGE) true
      (pick (eqb kind LOW) (is_pc 12)
      (pick (eqb kind HIGH) (is_pc 16)
      (pick (eqb kind BOTH) (either (is_pc 12) (is_pc 16))
      (pick (eqb kind PAIR) pair_has_pc
      (pick (eqb kind BASE) writes_base
      (pick (eqb kind LOW_BASE) (either (is_pc 12) writes_base)
      (pick (eqb kind PAIR_BASE) (either pair_has_pc writes_base)
      (pick (eqb kind MANY_BASE) many_base
      (pick (eqb kind LIST) (either (eqb (field w 0 16) 0) many_base)
      (pick (eqb kind FLOATING) floating_opens elements_open)))))))))))

-- whether nothing is said of a word of the row with this title
unfoldable pub opens : String → ℕ → Bool
opens title w = opens_by w (kind_among title destinations)
