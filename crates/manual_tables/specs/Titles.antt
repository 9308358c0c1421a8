-- The titles of the manual's rows, in the order of chapter A5, and a title's number among them.
use Rattle.std.specs.Prelude.{◌≡◌, List, [], ◌∷◌, ℕ, zero, suc, ◌+◌, ◌-◌, ◌<◌, eqb, ltb}
use Prim.Native.String.{String}
use Rattle.word.specs.Choice.{pick}
use Rattle.insn.specs.Roots.{place_in}

abbrev pub titles : List String
titles =
    -- no page reads these
    "UNDEFINED" ∷ "UNPREDICTABLE" ∷
    -- table A5-3
    "AND (register)" ∷ "EOR (register)" ∷ "SUB (register)" ∷ "RSB (register)" ∷ "ADD (register)" ∷ "ADC (register)" ∷
    "SBC (register)" ∷ "RSC (register)" ∷ "TST (register)" ∷ "TEQ (register)" ∷ "CMP (register)" ∷ "CMN (register)" ∷
    "ORR (register)" ∷ "MOV (register, ARM)" ∷ "LSL (immediate)" ∷ "LSR (immediate)" ∷ "ASR (immediate)" ∷ "RRX" ∷
    "ROR (immediate)" ∷ "BIC (register)" ∷ "MVN (register)" ∷
    -- table A5-4
    "AND (register-shifted register)" ∷ "EOR (register-shifted register)" ∷ "SUB (register-shifted register)" ∷
    "RSB (register-shifted register)" ∷ "ADD (register-shifted register)" ∷ "ADC (register-shifted register)" ∷
    "SBC (register-shifted register)" ∷ "RSC (register-shifted register)" ∷ "TST (register-shifted register)" ∷
    "TEQ (register-shifted register)" ∷ "CMP (register-shifted register)" ∷ "CMN (register-shifted register)" ∷
    "ORR (register-shifted register)" ∷ "LSL (register)" ∷ "LSR (register)" ∷ "ASR (register)" ∷ "ROR (register)" ∷
    "BIC (register-shifted register)" ∷ "MVN (register-shifted register)" ∷
    -- table A5-5
    "AND (immediate)" ∷ "EOR (immediate)" ∷ "SUB (immediate, ARM)" ∷ "ADR" ∷ "RSB (immediate)" ∷ "ADD (immediate, ARM)" ∷
    "ADC (immediate)" ∷ "SBC (immediate)" ∷ "RSC (immediate)" ∷ "TST (immediate)" ∷ "TEQ (immediate)" ∷ "CMP (immediate)" ∷
    "CMN (immediate)" ∷ "ORR (immediate)" ∷ "MOV (immediate)" ∷ "BIC (immediate)" ∷ "MVN (immediate)" ∷
    -- table A5-2
    "MOV (immediate), 16-bit" ∷ "MOVT" ∷
    -- table A5-7
    "MUL" ∷ "MLA" ∷ "UMAAL" ∷ "MLS" ∷ "UMULL" ∷ "UMLAL" ∷ "SMULL" ∷ "SMLAL" ∷
    -- table A5-9
    "SMLABB, SMLABT, SMLATB, SMLATT" ∷ "SMLAWB, SMLAWT" ∷ "SMULWB, SMULWT" ∷ "SMLALBB, SMLALBT, SMLALTB, SMLALTT" ∷
    "SMULBB, SMULBT, SMULTB, SMULTT" ∷
    -- table A5-10
    "STRH (register)" ∷ "LDRH (register)" ∷ "STRH (immediate, ARM)" ∷ "LDRH (immediate, ARM)" ∷ "LDRH (literal)" ∷
    "LDRD (register)" ∷ "LDRSB (register)" ∷ "LDRD (immediate)" ∷ "LDRD (literal)" ∷ "LDRSB (immediate)" ∷ "LDRSB (literal)" ∷
    "STRD (register)" ∷ "LDRSH (register)" ∷ "STRD (immediate)" ∷ "LDRSH (immediate)" ∷ "LDRSH (literal)" ∷
    -- table A5-11
    "STRHT" ∷ "LDRHT" ∷ "LDRSBT" ∷ "LDRSHT" ∷
    -- table A5-12
    "SWP, SWPB" ∷ "STREX" ∷ "LDREX" ∷ "STREXD" ∷ "LDREXD" ∷ "STREXB" ∷ "LDREXB" ∷ "STREXH" ∷ "LDREXH" ∷
    -- table A5-13
    "NOP" ∷ "YIELD" ∷ "WFE" ∷ "WFI" ∷ "SEV" ∷ "DBG" ∷ "unallocated hint" ∷ "MSR (immediate)" ∷
    -- table A5-14
    "MRS (Banked register)" ∷ "MSR (Banked register)" ∷ "MRS" ∷ "MSR (register)" ∷ "BX" ∷ "CLZ" ∷ "BXJ" ∷ "BLX (register)" ∷
    "ERET" ∷ "BKPT" ∷ "HVC" ∷ "SMC" ∷
    -- table A5-8
    "QADD" ∷ "QSUB" ∷ "QDADD" ∷ "QDSUB" ∷
    -- table A5-15
    "STRT" ∷ "LDRT" ∷ "STRBT" ∷ "LDRBT" ∷ "STR (immediate, ARM)" ∷ "STR (register)" ∷ "LDR (immediate, ARM)" ∷ "LDR (literal)" ∷
    "LDR (register, ARM)" ∷ "STRB (immediate, ARM)" ∷ "STRB (register)" ∷ "LDRB (immediate, ARM)" ∷ "LDRB (literal)" ∷
    "LDRB (register)" ∷
    -- table A5-17
    "SADD16" ∷ "SASX" ∷ "SSAX" ∷ "SSUB16" ∷ "SADD8" ∷ "SSUB8" ∷ "QADD16" ∷ "QASX" ∷ "QSAX" ∷ "QSUB16" ∷ "QADD8" ∷ "QSUB8" ∷
    "SHADD16" ∷ "SHASX" ∷ "SHSAX" ∷ "SHSUB16" ∷ "SHADD8" ∷ "SHSUB8" ∷
    -- table A5-18
    "UADD16" ∷ "UASX" ∷ "USAX" ∷ "USUB16" ∷ "UADD8" ∷ "USUB8" ∷ "UQADD16" ∷ "UQASX" ∷ "UQSAX" ∷ "UQSUB16" ∷ "UQADD8" ∷ "UQSUB8" ∷
    "UHADD16" ∷ "UHASX" ∷ "UHSAX" ∷ "UHSUB16" ∷ "UHADD8" ∷ "UHSUB8" ∷
    -- table A5-19
    "PKH" ∷ "SSAT" ∷ "USAT" ∷ "SXTAB16" ∷ "SXTB16" ∷ "SEL" ∷ "SSAT16" ∷ "SXTAB" ∷ "SXTB" ∷ "REV" ∷ "SXTAH" ∷ "SXTH" ∷ "REV16" ∷
    "UXTAB16" ∷ "UXTB16" ∷ "USAT16" ∷ "UXTAB" ∷ "UXTB" ∷ "RBIT" ∷ "UXTAH" ∷ "UXTH" ∷ "REVSH" ∷
    -- table A5-20
    "SMLAD" ∷ "SMUAD" ∷ "SMLSD" ∷ "SMUSD" ∷ "SDIV" ∷ "UDIV" ∷ "SMLALD" ∷ "SMLSLD" ∷ "SMMLA" ∷ "SMMUL" ∷ "SMMLS" ∷
    -- table A5-16
    "USAD8" ∷ "USADA8" ∷ "SBFX" ∷ "BFC" ∷ "BFI" ∷ "UBFX" ∷ "UDF" ∷
    -- table A5-21
    "STMDA" ∷ "LDMDA" ∷ "STM" ∷ "LDM" ∷ "POP" ∷ "STMDB" ∷ "PUSH" ∷ "LDMDB" ∷ "STMIB" ∷ "LDMIB" ∷ "STM (User registers)" ∷
    "LDM (User registers)" ∷ "LDM (exception return)" ∷ "B" ∷ "BL" ∷
    -- table A5-22
    "SVC" ∷ "STC" ∷ "LDC (immediate)" ∷ "LDC (literal)" ∷ "MCRR" ∷ "MRRC" ∷ "CDP" ∷ "MCR" ∷ "MRC" ∷ "Advanced SIMD, Floating-point" ∷
    -- table A5-24
    "CPS" ∷ "SETEND" ∷ "Advanced SIMD data-processing" ∷ "Advanced SIMD load/store" ∷ "unallocated memory hint" ∷
    "PLI (immediate, literal)" ∷ "PLDW (immediate)" ∷ "PLD (immediate)" ∷ "PLD (literal)" ∷ "CLREX" ∷ "DSB" ∷ "DMB" ∷ "ISB" ∷
    "PLI (register)" ∷ "PLDW (register)" ∷ "PLD (register)" ∷
    -- table A5-23
    "SRS" ∷ "RFE" ∷ "BLX (immediate)" ∷ "LDC2" ∷ "STC2" ∷ "MCRR2" ∷ "MRRC2" ∷ "CDP2" ∷ "MCR2" ∷
    "MRC2" ∷
    -- the pages that only a SEE leads to
    "SUBS PC, LR and related instructions" ∷ "PUSH, one register" ∷ "POP, one register" ∷
    []

unfoldable pub number_of : String → ℕ
number_of s = place_in s titles

-- the title at a place
abbrev pub title_in : List String → ℕ → String
title_in [] n = "UNDEFINED"
title_in (t ∷ ts) zero = t
title_in (t ∷ ts) (suc n) = title_in ts n

unfoldable pub title_at : ℕ → String
title_at n = title_in titles n

-- a row's number; each row that a word can have is in the list
pub record Numbered (row : String) (n : ℕ) : Type 0 where
  pub number : n ≡ number_of row
  pub known : n < 271

-- an entry of a table's array: a letter is a title, the number `first` for an a, and so on; a dot is UNDEFINED, and ? UNPREDICTABLE
abbrev pub entry_of : ℕ → ℕ → ℕ
entry_of first byte = pick (ltb byte 97) (pick (eqb byte 63) 1 0) (first + (byte - 97))
