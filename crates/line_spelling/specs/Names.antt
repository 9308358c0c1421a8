-- The tables of names beside the roots (01, "What is built": "Roots, suffixes, the 32 status masks and the shift names are fixed tables"), copied as
-- facts from a32.rs and mod.rs of source document 000.
use Rattle.std.specs.Prelude.{List, [], ◌∷◌, ℕ, get_or}
use Prim.Native.String.{String}
use Rattle.text.specs.Text.{bytes}

-- by condition: "eq ne hs lo mi pl vs vc hi ls ge lt gt le, then nothing for 14 and 15"
abbrev pub suffixes : List String
suffixes =
    "eq" ∷ "ne" ∷ "hs" ∷ "lo" ∷ "mi" ∷ "pl" ∷ "vs" ∷ "vc" ∷
    "hi" ∷ "ls" ∷ "ge" ∷ "lt" ∷ "gt" ∷ "le" ∷ "" ∷ "" ∷
    []

-- by bit 22, then 19:16: MSR_MASKS of mod.rs
abbrev pub masks : List String
masks =
    "CPSR" ∷ "CPSR_c" ∷ "CPSR_x" ∷ "CPSR_xc" ∷
    "APSR_g" ∷ "CPSR_sc" ∷ "CPSR_sx" ∷ "CPSR_sxc" ∷
    "APSR_nzcvq" ∷ "CPSR_fc" ∷ "CPSR_fx" ∷ "CPSR_fxc" ∷
    "APSR_nzcvqg" ∷ "CPSR_fsc" ∷ "CPSR_fsx" ∷ "CPSR_fsxc" ∷
    "SPSR" ∷ "SPSR_c" ∷ "SPSR_x" ∷ "SPSR_xc" ∷
    "SPSR_s" ∷ "SPSR_sc" ∷ "SPSR_sx" ∷ "SPSR_sxc" ∷
    "SPSR_f" ∷ "SPSR_fc" ∷ "SPSR_fx" ∷ "SPSR_fxc" ∷
    "SPSR_fs" ∷ "SPSR_fsc" ∷ "SPSR_fsx" ∷ "SPSR_fsxc" ∷
    []

-- by the number of a shift's kind
abbrev pub shifts : List String
shifts =
    "lsl" ∷ "lsr" ∷ "asr" ∷ "ror" ∷
    []

-- by the number of a status register: "apsr or by bit 22 spsr"
abbrev pub sources : List String
sources =
    "apsr" ∷ "spsr" ∷
    []

-- by 3:0: BARRIERS of mod.rs
abbrev pub barriers : List String
barriers =
    "#0x0" ∷ "oshld" ∷ "oshst" ∷ "osh" ∷ "#0x4" ∷ "nshld" ∷ "nshst" ∷ "nsh" ∷
    "#0x8" ∷ "ishld" ∷ "ishst" ∷ "ish" ∷ "#0xc" ∷ "ld" ∷ "st" ∷ "sy" ∷
    []

-- "Registers r0 to r12 sp lr pc"
abbrev pub registers : List String
registers =
    "r0" ∷ "r1" ∷ "r2" ∷ "r3" ∷ "r4" ∷ "r5" ∷ "r6" ∷ "r7" ∷
    "r8" ∷ "r9" ∷ "r10" ∷ "r11" ∷ "r12" ∷ "sp" ∷ "lr" ∷ "pc" ∷
    []

-- a coprocessor, and a register of one, by number: PN and CN of mod.rs
abbrev pub coprocessors : List String
coprocessors =
    "p0" ∷ "p1" ∷ "p2" ∷ "p3" ∷ "p4" ∷ "p5" ∷ "p6" ∷ "p7" ∷
    "p8" ∷ "p9" ∷ "p10" ∷ "p11" ∷ "p12" ∷ "p13" ∷ "p14" ∷ "p15" ∷
    []

abbrev pub co_registers : List String
co_registers =
    "c0" ∷ "c1" ∷ "c2" ∷ "c3" ∷ "c4" ∷ "c5" ∷ "c6" ∷ "c7" ∷
    "c8" ∷ "c9" ∷ "c10" ∷ "c11" ∷ "c12" ∷ "c13" ∷ "c14" ∷ "c15" ∷
    []

-- by the number of a flow: "next jump jump? ijump call icall ret trap"
abbrev pub flows : List String
flows =
    "next" ∷ "jump" ∷ "jump?" ∷ "ijump" ∷ "call" ∷ "icall" ∷ "ret" ∷ "trap" ∷
    []

-- the bytes of a table's entry; there are none beyond its last
abbrev pub entry : List String → ℕ → List ℕ
entry table n = bytes (get_or table n "")
