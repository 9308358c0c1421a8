-- DDI 0406C: the bits that the encoding diagram of a page draws in parentheses, "(0)" and "(1)", by the page's title and in the order of A5's tables.
-- They should be so (A5.1.2). No page tests them: a word in which they are otherwise is still read by its page.
use Rattle.std.specs.Prelude.{Bool, true, not, List, [], ◌∷◌, ℕ, ◌+◌, ◌-◌, ◌^◌, eqb}
use Prim.Native.String.{String}
use Rattle.word.specs.Choice.{pick, both}
use Rattle.word.specs.Field.{field}
use Rattle.manual.specs.A8.{is_among}
use Rattle.manual.specs.Reads.{is_set}

-- a field, and what it should be
pub record Bits : Type 0 where
  pub lo : ℕ
  pub width : ℕ
  pub value : ℕ

-- bits "19:16" drawn (0)(0)(0)(0) are zeros 19 16
abbrev pub zeros : ℕ → ℕ → Bits
zeros hi lo = record { lo = lo; width = hi - lo + 1; value = 0 }

abbrev pub ones : ℕ → ℕ → Bits
ones hi lo = record { lo = lo; width = hi - lo + 1; value = 2 ^ (hi - lo + 1) - 1 }

-- what pages draw, and whether it is drawn in the encoding that a word has
pub record Drawing : Type 0 where
  pub titles : List String
  pub applies : Bool
  pub bits : List Bits

infix 60 ◌draw◌
abbrev pub ◌draw◌ : List String → List Bits → Drawing
titles draw bits = record { titles = titles; applies = true; bits = bits }

infix 60 ◌draws◌
abbrev pub ◌draws◌ : String → List Bits → Drawing
title draws bits = title ∷ [] draw bits

-- of a page with several encodings, one
abbrev pub only : Bool → Drawing → Drawing
only test d = record { titles = d.titles; applies = test; bits = d.bits }

abbrev pub drawings : ℕ → List Drawing
drawings w =
    -- A5.2.1 to A5.2.3: Rn of the moves and shifts, also to PC (B9.3.20), where opcode 11x1 is MOV or MVN; Rd of the compares
    ("MOV (register, ARM)" ∷ "LSL (immediate)" ∷ "LSR (immediate)" ∷ "ASR (immediate)" ∷ "RRX" ∷ "ROR (immediate)" ∷ "MVN (register)" ∷
    "LSL (register)" ∷ "LSR (register)" ∷ "ASR (register)" ∷ "ROR (register)" ∷ "MVN (register-shifted register)" ∷ "MOV (immediate)" ∷
    "MVN (immediate)" ∷ [] draw zeros 19 16 ∷ []) ∷
    only (both (is_set w 24) (both (is_set w 23) (is_set w 21))) ("SUBS PC, LR and related instructions" draws zeros 19 16 ∷ []) ∷
    ("TST (register)" ∷ "TEQ (register)" ∷ "CMP (register)" ∷ "CMN (register)" ∷ "TST (register-shifted register)" ∷
    "TEQ (register-shifted register)" ∷ "CMP (register-shifted register)" ∷ "CMN (register-shifted register)" ∷ "TST (immediate)" ∷
    "TEQ (immediate)" ∷ "CMP (immediate)" ∷ "CMN (immediate)" ∷ [] draw zeros 15 12 ∷ []) ∷
    -- A5.2.5
    ("MUL" draws zeros 15 12 ∷ []) ∷
    -- A5.2.6
    ("QADD" ∷ "QSUB" ∷ "QDADD" ∷ "QDSUB" ∷ [] draw zeros 11 8 ∷ []) ∷
    -- A5.2.7
    ("SMULWB, SMULWT" ∷ "SMULBB, SMULBT, SMULTB, SMULTT" ∷ [] draw zeros 15 12 ∷ []) ∷
    -- A5.2.8
    ("STRH (register)" ∷ "LDRH (register)" ∷ "LDRD (register)" ∷ "LDRSB (register)" ∷ "STRD (register)" ∷ "LDRSH (register)" ∷ []
    draw zeros 11 8 ∷ []) ∷
    ("LDRH (literal)" ∷ "LDRD (literal)" ∷ "LDRSB (literal)" ∷ "LDRSH (literal)" ∷ [] draw ones 24 24 ∷ zeros 21 21 ∷ []) ∷
    -- A5.2.9: encoding A2, by a register
    only (not (is_set w 22)) ("STRHT" ∷ "LDRHT" ∷ "LDRSBT" ∷ "LDRSHT" ∷ [] draw zeros 11 8 ∷ []) ∷
    -- A5.2.10
    ("SWP, SWPB" draws zeros 11 8 ∷ []) ∷
    ("STREX" ∷ "STREXD" ∷ "STREXB" ∷ "STREXH" ∷ [] draw ones 11 8 ∷ []) ∷
    ("LDREX" ∷ "LDREXD" ∷ "LDREXB" ∷ "LDREXH" ∷ [] draw ones 11 8 ∷ ones 3 0 ∷ []) ∷
    -- A5.2.11; the unallocated hints have no page, and are drawn as NOP is
    ("NOP" ∷ "YIELD" ∷ "WFE" ∷ "WFI" ∷ "SEV" ∷ "DBG" ∷ "unallocated hint" ∷ [] draw ones 15 12 ∷ zeros 11 8 ∷ []) ∷
    ("MSR (immediate)" draws ones 15 12 ∷ []) ∷
    -- A5.2.12
    ("MRS (Banked register)" draws zeros 11 10 ∷ zeros 3 0 ∷ []) ∷
    ("MSR (Banked register)" draws ones 15 12 ∷ zeros 11 10 ∷ []) ∷
    ("MRS" draws ones 19 16 ∷ zeros 11 10 ∷ zeros 8 8 ∷ zeros 3 0 ∷ []) ∷
    ("MSR (register)" draws ones 15 12 ∷ zeros 11 10 ∷ zeros 8 8 ∷ []) ∷
    ("BX" ∷ "BXJ" ∷ "BLX (register)" ∷ [] draw ones 19 8 ∷ []) ∷
    ("CLZ" draws ones 19 16 ∷ ones 11 8 ∷ []) ∷
    ("ERET" draws zeros 19 8 ∷ ones 3 1 ∷ zeros 0 0 ∷ []) ∷
    ("SMC" draws zeros 19 8 ∷ []) ∷
    -- A5.3
    ("LDR (literal)" ∷ "LDRB (literal)" ∷ [] draw ones 24 24 ∷ zeros 21 21 ∷ []) ∷
    -- A5.4.1 and A5.4.2
    ("SADD16" ∷ "SASX" ∷ "SSAX" ∷ "SSUB16" ∷ "SADD8" ∷ "SSUB8" ∷ "QADD16" ∷ "QASX" ∷ "QSAX" ∷ "QSUB16" ∷ "QADD8" ∷ "QSUB8" ∷ "SHADD16" ∷
    "SHASX" ∷ "SHSAX" ∷ "SHSUB16" ∷ "SHADD8" ∷ "SHSUB8" ∷ "UADD16" ∷ "UASX" ∷ "USAX" ∷ "USUB16" ∷ "UADD8" ∷ "USUB8" ∷ "UQADD16" ∷
    "UQASX" ∷ "UQSAX" ∷ "UQSUB16" ∷ "UQADD8" ∷ "UQSUB8" ∷ "UHADD16" ∷ "UHASX" ∷ "UHSAX" ∷ "UHSUB16" ∷ "UHADD8" ∷ "UHSUB8" ∷ []
    draw ones 11 8 ∷ []) ∷
    -- A5.4.3
    ("SEL" ∷ "SSAT16" ∷ "USAT16" ∷ [] draw ones 11 8 ∷ []) ∷
    ("SXTAB16" ∷ "SXTB16" ∷ "SXTAB" ∷ "SXTB" ∷ "SXTAH" ∷ "SXTH" ∷ "UXTAB16" ∷ "UXTB16" ∷ "UXTAB" ∷ "UXTB" ∷ "UXTAH" ∷ "UXTH" ∷ []
    draw zeros 9 8 ∷ []) ∷
    ("REV" ∷ "REV16" ∷ "RBIT" ∷ "REVSH" ∷ [] draw ones 19 16 ∷ ones 11 8 ∷ []) ∷
    -- A5.4.4
    ("SDIV" ∷ "UDIV" ∷ [] draw ones 15 12 ∷ []) ∷
    -- A5.5
    ("STM (User registers)" ∷ "LDM (User registers)" ∷ [] draw zeros 21 21 ∷ []) ∷
    -- A5.7.1
    ("CPS" draws zeros 15 9 ∷ []) ∷
    ("SETEND" draws zeros 19 17 ∷ zeros 15 10 ∷ zeros 8 8 ∷ zeros 3 0 ∷ []) ∷
    ("PLI (immediate, literal)" ∷ "PLDW (immediate)" ∷ "PLD (immediate)" ∷ "PLI (register)" ∷ "PLDW (register)" ∷ "PLD (register)" ∷ []
    draw ones 15 12 ∷ []) ∷
    ("PLD (literal)" draws ones 22 22 ∷ ones 15 12 ∷ []) ∷
    ("CLREX" draws ones 19 12 ∷ zeros 11 8 ∷ ones 3 0 ∷ []) ∷
    ("DSB" ∷ "DMB" ∷ "ISB" ∷ [] draw ones 19 12 ∷ zeros 11 8 ∷ []) ∷
    -- A5.7
    ("SRS" draws ones 19 18 ∷ zeros 17 17 ∷ ones 16 16 ∷ zeros 15 11 ∷ ones 10 10 ∷ zeros 9 9 ∷ ones 8 8 ∷ zeros 7 5 ∷ []) ∷
    ("RFE" draws zeros 15 12 ∷ ones 11 11 ∷ zeros 10 10 ∷ ones 9 9 ∷ zeros 8 0 ∷ []) ∷
    []

abbrev pub bits_among : String → List Drawing → List Bits
bits_among title [] = []
bits_among title (d ∷ ds) = pick (both (is_among title d.titles) d.applies) d.bits (bits_among title ds)

-- what a page draws for a word
unfoldable pub should_be : String → ℕ → List Bits
should_be title w = bits_among title (drawings w)

abbrev pub are_in : ℕ → List Bits → Bool
are_in w [] = true
are_in w (b ∷ bs) = both (eqb (field w b.lo b.width) b.value) (are_in w bs)

-- a word is as a page draws it
unfoldable pub as_drawn : String → ℕ → Bool
as_drawn title w = are_in w (should_be title w)
