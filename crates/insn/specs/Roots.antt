-- The roots of the names (01, "What is built": "Roots, suffixes, the 32 status masks and the shift names are fixed tables"), copied as facts
-- from a32.rs and mod.rs of source document 000, the 129 in the order in which it first spells them, then the barriers; the halfword multiplies,
-- which are not there, from 02, P3; last the coprocessor words (P9), in the order in which mod.rs spells them. A name's number is the place of its
-- root.
use Rattle.std.specs.Prelude.{List, [], ◌∷◌, ℕ, suc, length}
use Prim.Native.String.{String}
use lib.Text.{eqt}
use Rattle.word.specs.Choice.{pick}

abbrev pub roots : List String
roots =
    "and" ∷ "eor" ∷ "sub" ∷ "rsb" ∷ "add" ∷ "adc" ∷ "sbc" ∷ "rsc" ∷
    "tst" ∷ "teq" ∷ "cmp" ∷ "cmn" ∷ "orr" ∷ "mov" ∷ "bic" ∷ "mvn" ∷
    "ands" ∷ "eors" ∷ "subs" ∷ "rsbs" ∷ "adds" ∷ "adcs" ∷ "sbcs" ∷ "rscs" ∷
    "orrs" ∷ "movs" ∷ "bics" ∷ "mvns" ∷ "lsl" ∷ "lsr" ∷ "asr" ∷ "ror" ∷
    "lsls" ∷ "lsrs" ∷ "asrs" ∷ "rors" ∷ "rrxs" ∷ "rrx" ∷ "mrs" ∷ "msr" ∷
    "bx" ∷ "clz" ∷ "bxj" ∷ "blx" ∷ "qadd" ∷ "qsub" ∷ "qdadd" ∷ "qdsub" ∷
    "bkpt" ∷ "muls" ∷ "mul" ∷ "mlas" ∷ "mla" ∷ "umaal" ∷ "mls" ∷ "umull" ∷
    "umulls" ∷ "umlal" ∷ "umlals" ∷ "smull" ∷ "smulls" ∷ "smlal" ∷ "smlals" ∷ "strex" ∷
    "ldrex" ∷ "strexb" ∷ "ldrexb" ∷ "strexh" ∷ "ldrexh" ∷ "strh" ∷ "ldrh" ∷ "ldrd" ∷
    "ldrsb" ∷ "strd" ∷ "ldrsh" ∷ "movt" ∷ "movw" ∷ "nop" ∷ "yield" ∷ "wfe" ∷
    "wfi" ∷ "sev" ∷ "ldr" ∷ "ldrb" ∷ "str" ∷ "strb" ∷ "ldrt" ∷ "ldrbt" ∷
    "strt" ∷ "strbt" ∷ "udf" ∷ "sbfx" ∷ "ubfx" ∷ "bfc" ∷ "bfi" ∷ "sdiv" ∷
    "udiv" ∷ "ssat" ∷ "usat" ∷ "rev" ∷ "rev16" ∷ "rbit" ∷ "revsh" ∷ "sxtb16" ∷
    "sxtab16" ∷ "sxtb" ∷ "sxtab" ∷ "sxth" ∷ "sxtah" ∷ "uxtb16" ∷ "uxtab16" ∷ "uxtb" ∷
    "uxtab" ∷ "uxth" ∷ "uxtah" ∷ "ldmda" ∷ "ldm" ∷ "ldmdb" ∷ "ldmib" ∷ "stmda" ∷
    "stm" ∷ "stmdb" ∷ "stmib" ∷ "pop" ∷ "push" ∷ "bl" ∷ "b" ∷ "pld" ∷
    "pldw" ∷ "clrex" ∷ "dsb" ∷ "dmb" ∷ "isb" ∷ "smlabb" ∷ "smlabt" ∷ "smlatb" ∷
    "smlatt" ∷ "smlawb" ∷ "smlawt" ∷ "smulwb" ∷ "smulwt" ∷ "smlalbb" ∷ "smlalbt" ∷ "smlaltb" ∷
    "smlaltt" ∷ "smulbb" ∷ "smulbt" ∷ "smultb" ∷ "smultt" ∷ "mrc" ∷ "mcr" ∷ "cdp" ∷
    "mrrc" ∷ "mcrr" ∷ "ldc" ∷ "ldcl" ∷ "stc" ∷ "stcl" ∷
    []

abbrev pub NAMES : ℕ
NAMES = length roots

-- the place of a text in a list, which is the list's length if it is not there
abbrev pub place_in : String → List String → ℕ
place_in s [] = 0
place_in s (t ∷ ts) = pick (eqt s t) 0 (suc (place_in s ts))

-- a name's number, by its root
abbrev pub name : String → ℕ
name root = place_in root roots
