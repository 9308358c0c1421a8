-- DDI 0406C, chapter A8: from the row that chapter A5's tables lead to, by each page's "SEE", to the page that reads the word, and what it
-- reads. The pages stand in the order of A5's tables. A row without a page here is named and not read.
-- Bits that a page draws in parentheses are not tested: ShouldBe has them.
use Rattle.std.specs.Prelude.{Bool, true, false, not, List, [], ◌∷◌, ◌++◌, ℕ, ◌+◌, ◌-◌, ◌*◌, ◌%◌, ◌^◌, eqb, leb, pos, Some, None}
use Prim.Native.String.{String}
use Rattle.std.specs.Int.Count.{ones_in}
use lib.Text.{eqt}
use Rattle.word.specs.Choice.{pick, both}
use Rattle.word.specs.Field.{field}
use Rattle.insn.specs.Answer.{insn_of, places, accepted}
use Rattle.insn.specs.Roots.{name}
use Rattle.insn.specs.declared.AddrMode.{AddrMode}
use Rattle.insn.specs.declared.AddrMode.TheVariants.{Offset}
use Rattle.insn.specs.Answer.{Decoded}
use Rattle.insn.specs.declared.Flow.{Flow}
use Rattle.insn.specs.declared.Flow.TheVariants.{Next, Branch, CondBranch, IndirectBranch, Call, IndirectCall, Return, Trap}
use Rattle.insn.specs.declared.Operand.{Operand}
use Rattle.insn.specs.declared.Operand.TheVariants.{Register, Count, Number, StatusMask, StatusSource, WriteBack, Address, Option}
use Rattle.insn.specs.declared.Operand.TheVariants.{Coprocessor, CoprocessorRegister}
use Rattle.insn.specs.declared.Operand.TheVariants as Op
use Rattle.insn.specs.declared.Status.TheVariants.{Apsr, Spsr}
use Rattle.manual.specs.A5.{table_row}
use Rattle.manual.specs.Reads.{is_set, R, setflags, half, halves, writes_pc, branches_to, shifted, register_shifted, shift_count}
use Rattle.manual.specs.Reads.{constant, SignExtend, addressing, offset, is_minus_zero, memory, is_post, indexed, saturate_shift, rotation}

abbrev pub is_among : String → List String → Bool
is_among row [] = false
is_among row (s ∷ ss) = pick (eqt row s) true (is_among row ss)

-- a page's "SEE": from any of these rows, where the test holds, to another page
pub record See : Type 0 where
  pub rows : List String
  pub holds : Bool
  pub to : String

abbrev pub see_of : String → List See → String
see_of row [] = row
see_of row (s ∷ ss) = pick (both (is_among row s.rows) s.holds) s.to (see_of row ss)

-- the pages that have "if Rd == '1111' && S == '1' then SEE SUBS PC, LR and related instructions"
abbrev pub returning : List String
returning =
    "AND (register)" ∷ "EOR (register)" ∷ "SUB (register)" ∷ "RSB (register)" ∷ "ADD (register)" ∷ "ADC (register)" ∷ "SBC (register)" ∷
    "RSC (register)" ∷ "ORR (register)" ∷ "MOV (register, ARM)" ∷ "LSL (immediate)" ∷ "LSR (immediate)" ∷ "ASR (immediate)" ∷
    "ROR (immediate)" ∷ "RRX" ∷ "BIC (register)" ∷ "MVN (register)" ∷ "AND (immediate)" ∷ "EOR (immediate)" ∷
    "SUB (immediate, ARM)" ∷ "RSB (immediate)" ∷ "ADD (immediate, ARM)" ∷ "ADC (immediate)" ∷ "SBC (immediate)" ∷ "RSC (immediate)" ∷
    "ORR (immediate)" ∷ "MOV (immediate)" ∷ "BIC (immediate)" ∷ "MVN (immediate)" ∷ "ADR" ∷ []

-- "BitCount(register_list) < 2"
unfoldable pub fewer_than_two : ℕ → Bool
fewer_than_two w = not (leb 2 (ones_in 16 (field w 0 16)))

-- "Rn == '1101'", P, U and W as given, "imm12 == '000000000100'"
unfoldable pub one_word : ℕ → ℕ → ℕ → ℕ → Bool
one_word w p u wb =
    both (eqb (field w 16 4) 13)
    (both (eqb (field w 24 1) p)
    (both (eqb (field w 23 1) u)
    (both (eqb (field w 21 1) wb) (eqb (field w 0 12) 4))))

-- "SEE SUBS PC, LR and related instructions", and the others
abbrev pub see_return : ℕ → See
see_return w =
    record { rows = returning; holds = both (eqb (field w 12 4) 15) (is_set w 20); to = "SUBS PC, LR and related instructions" }

abbrev pub other_sees : ℕ → List See
other_sees w =
    -- A8.8.12 has bit 20 clear; A8.8.5 and A8.8.222: "if Rn == '1111' && S == '0' then SEE ADR"
    record { rows = "ADR" ∷ []; holds = both (is_set w 20) (is_set w 23); to = "ADD (immediate, ARM)" } ∷
    record { rows = "ADR" ∷ []; holds = is_set w 20; to = "SUB (immediate, ARM)" } ∷
    -- A8.8.204 and A8.8.63
    record { rows = "STR (immediate, ARM)" ∷ []; holds = one_word w 1 0 1; to = "PUSH, one register" } ∷
    record { rows = "LDR (immediate, ARM)" ∷ []; holds = one_word w 0 1 0; to = "POP, one register" } ∷
    -- A8.8.131 and A8.8.133
    record { rows = "POP" ∷ []; holds = fewer_than_two w; to = "LDM" } ∷
    record { rows = "PUSH" ∷ []; holds = fewer_than_two w; to = "STMDB" } ∷
    []

abbrev pub sees : ℕ → List See
sees w = see_return w ∷ other_sees w

-- the page that reads a word of a row; and the one that would, were there no SUBS PC, LR
unfoldable pub page_of : String → ℕ → String
page_of row w = see_of row (sees w)

unfoldable pub other_page_of : String → ℕ → String
other_page_of row w = see_of row (other_sees w)

-- the page that reads a word
unfoldable pub row_of : ℕ → String
row_of w = page_of (table_row w) w

-- what the manual says of a word: a page reads it; it reads what 01's answer has no place for; a page names it; it is on none of these lists, which
-- is shown not to be; or neither
pub data Said : Type 0 where
  reads : Decoded → Said
  beyond : String → Said
  names : String → Said
  unlisted : Said
  undefined : Said
  unpredictable : Said

-- the rows that the decoder refuses
abbrev pub refused_rows : List String
refused_rows =
    -- A5.2.9
    "STRHT" ∷ "LDRHT" ∷ "LDRSBT" ∷ "LDRSHT" ∷
    -- A5.2.10
    "SWP, SWPB" ∷ "STREXD" ∷ "LDREXD" ∷
    -- A5.2.11
    "DBG" ∷ "unallocated hint" ∷
    -- A5.2.12
    "MRS (Banked register)" ∷ "MSR (Banked register)" ∷ "ERET" ∷ "HVC" ∷ "SMC" ∷
    -- A5.4.1
    "SADD16" ∷ "SASX" ∷ "SSAX" ∷ "SSUB16" ∷ "SADD8" ∷ "SSUB8" ∷ "QADD16" ∷ "QASX" ∷ "QSAX" ∷ "QSUB16" ∷ "QADD8" ∷ "QSUB8" ∷ "SHADD16" ∷
    "SHASX" ∷ "SHSAX" ∷ "SHSUB16" ∷ "SHADD8" ∷ "SHSUB8" ∷
    -- A5.4.2
    "UADD16" ∷ "UASX" ∷ "USAX" ∷ "USUB16" ∷ "UADD8" ∷ "USUB8" ∷ "UQADD16" ∷ "UQASX" ∷ "UQSAX" ∷ "UQSUB16" ∷ "UQADD8" ∷ "UQSUB8" ∷
    "UHADD16" ∷ "UHASX" ∷ "UHSAX" ∷ "UHSUB16" ∷ "UHADD8" ∷ "UHSUB8" ∷
    -- A5.4.3
    "PKH" ∷ "SEL" ∷ "SSAT16" ∷ "USAT16" ∷
    -- A5.4.4
    "SMLAD" ∷ "SMUAD" ∷ "SMLSD" ∷ "SMUSD" ∷ "SMLALD" ∷ "SMLSLD" ∷ "SMMLA" ∷ "SMMUL" ∷ "SMMLS" ∷
    -- A5.4
    "USAD8" ∷ "USADA8" ∷
    -- A5.5
    "STM (User registers)" ∷ "LDM (User registers)" ∷ "LDM (exception return)" ∷
    -- A5.6
    "SVC" ∷
    -- A5.7.1
    "CPS" ∷ "SETEND" ∷ "Advanced SIMD data-processing" ∷ "Advanced SIMD load/store" ∷ "unallocated memory hint" ∷
    "PLI (immediate, literal)" ∷ "PLI (register)" ∷ "PLDW (register)" ∷ "PLD (register)" ∷
    -- A5.7
    "SRS" ∷ "RFE" ∷ "LDC2" ∷ "STC2" ∷ "MCRR2" ∷ "MRRC2" ∷ "CDP2" ∷ "MCR2" ∷ "MRC2" ∷
    []

pub record Page : Type 0 where
  pub title : String
  pub said : Said

infix 60 ◌:=◌
abbrev pub ◌:=◌ : String → Said → Page
t := s = record { title = t; said = s }

abbrev pub said_among : String → List Page → Said
said_among row [] =
    pick (eqt row "UNDEFINED") undefined
    (pick (eqt row "UNPREDICTABLE") unpredictable
    (pick (is_among row refused_rows) (names row) unlisted))
said_among row (p ∷ ps) = pick (eqt row p.title) p.said (said_among row ps)

module _ (w addr : ℕ) where
  -- under a condition, "<c>"; and without one
  abbrev pub reading_as : ℕ → Flow → List Operand → Said
  reading_as number flow ops = reads (accepted (insn_of addr number (record { 0 = field w 28 4 }) flow (places ops)))

  abbrev pub reading : String → Flow → List Operand → Said
  reading root = reading_as (name root)

  abbrev pub always : String → Flow → List Operand → Said
  always root flow ops = reads (accepted (insn_of addr (name root) (record { 0 = 14 }) flow (places ops)))

  -- data-processing: with a result, and with none
  abbrev pub alu : String → String → List Operand → Said
  alu plain s ops = reading_as (setflags w (name plain) (name s)) (writes_pc w) ops

  abbrev pub test : String → List Operand → Said
  test root ops = reading root Next ops

  -- register-shifted: "if d == 15 .. then UNPREDICTABLE", and no ALUWritePC
  abbrev pub by_register : String → String → List Operand → Said
  by_register plain s ops = reading_as (setflags w (name plain) (name s)) Next ops

  -- loads and stores of a word or byte, and the extra ones, which 01 shows in base ten. "P == '0' && W == '1'" are other pages, LDRT and
  -- its like, which are read alike with index = FALSE
  abbrev pub transfers : String → Flow → AddrMode → Bool → Said
  transfers root flow mode marked =
      reading root flow (R w 12 ∷ memory (field w 16 4) None (offset w (field w 0 12)) mode size (is_post mode) marked ∷ [])
    where
      size : ℕ
      size = pick (is_set w 22) 1 4

  -- "imm32 = ZeroExtend(imm12, 32)"
  abbrev pub immediate : String → Flow → Said
  immediate root flow = transfers root flow (addressing w) (is_minus_zero w (field w 0 12))

  -- from R[15], of which 24 should be one and 21 zero
  abbrev pub literal : String → Flow → Said
  literal root flow = transfers root flow Offset (is_minus_zero w (field w 0 12))

  -- with R[m], "(shift_t, shift_n) = DecodeImmShift(type, imm5)". 01's answer has a place for an index that is added and shifted left
  abbrev pub with_index : String → String → Flow → Said
  with_index title root flow =
      pick (both (is_set w 23) (eqb (field w 5 2) 0))
      (reading root flow (R w 12 ∷ memory (field w 16 4) (indexed (field w 0 4) (field w 7 5)) (pos 0) (addressing w) size
      (is_post (addressing w)) false ∷ []))
      (beyond title)
    where
      size : ℕ
      size = pick (is_set w 22) 1 4

  -- A8.8.92 and its like: bit 25 tells the two encodings apart
  abbrev pub unprivileged : String → String → Said
  unprivileged title root = pick (is_set w 25) (with_index title root Next) (immediate root Next)

  -- "if t == 15 then .. LoadWritePC(data)" is of LDR alone
  abbrev pub imm8 : ℕ
  imm8 = field w 8 4 * 2 ^ 4 + field w 0 4

  abbrev pub extra : String → ℕ → List Operand → AddrMode → Said
  extra root size to mode = reading root Next (to ++ (memory (field w 16 4) None (offset w imm8) mode size true (is_minus_zero w imm8) ∷ []))

  abbrev pub extra_index : String → String → ℕ → List Operand → Said
  extra_index title root size to =
      pick (is_set w 23)
      (reading root Next (to ++ (memory (field w 16 4) (indexed (field w 0 4) 0) (pos 0) (addressing w) size true false ∷ [])))
      (beyond title)

  -- "t = UInt(Rt)"; "t2 = t+1"
  abbrev pub one : List Operand
  one = R w 12 ∷ []

  abbrev pub pair : List Operand
  pair = R w 12 ∷ Register (record { 0 = field w 12 4 + 1 }) ∷ []

  abbrev pub exclusive : String → ℕ → List Operand → Said
  exclusive root size ops = reading root Next (ops ++ (memory (field w 16 4) None (pos 0) Offset size false false ∷ []))

  -- the status register's fields, R then mask
  abbrev pub mask : Operand
  mask = StatusMask (field w 22 1 * 2 ^ 4 + field w 16 4)

  -- "imm32 = ZeroExtend(imm12:imm4, 32)"
  abbrev pub imm16 : Operand
  imm16 = Number (field w 8 12 * 2 ^ 4 + field w 0 4)

  -- "lsbit = UInt(lsb)"; "<width>" is msbit - lsbit + 1
  abbrev pub lsb : ℕ
  lsb = field w 7 5

  abbrev pub msb : ℕ
  msb = field w 16 5

  -- "registers = register_list", "wback = (W == '1')"; "if registers<15> .. LoadWritePC(..)"
  abbrev pub registers : Operand
  registers = Op.List (field w 0 16)

  abbrev pub base : Operand
  base = pick (is_set w 21) (WriteBack (record { 0 = field w 16 4 })) (R w 16)

  abbrev pub loads_pc : Flow
  loads_pc = pick (is_set w 15) (pick (eqb (field w 16 4) 13) Return IndirectBranch) Next

  abbrev pub load_multiple : String → Said
  load_multiple root = reading root loads_pc (base ∷ registers ∷ [])

  abbrev pub store_multiple : String → Said
  store_multiple root = reading root Next (base ∷ registers ∷ [])

  -- "cp = UInt(coproc)"; its registers and opcodes
  abbrev pub cp : Operand
  cp = Coprocessor (field w 8 4)

  abbrev pub CR : ℕ → Operand
  CR lo = CoprocessorRegister (field w lo 4)

  abbrev pub opc : ℕ → ℕ → Operand
  opc lo n = Count (pos (field w lo n))

  -- "imm32 = ZeroExtend(imm8:'00', 32)"
  abbrev pub imm8_words : ℕ
  imm8_words = field w 0 8 * 2 ^ 2

  -- LDC and STC, with a long form, "D == '1'". With P and W clear imm8 is an option for the coprocessor: 01's answer has no place for that
  abbrev pub coprocessor_transfer : String → String → String → AddrMode → Said
  coprocessor_transfer title plain long mode =
      pick (both (not (is_set w 24)) (not (is_set w 21)))
      (beyond title)
      (reading_as (pick (is_set w 22) (name long) (name plain)) Next
      (cp ∷ CR 12 ∷ memory (field w 16 4) None (offset w imm8_words) mode 4 false (is_minus_zero w imm8_words) ∷ []))

  -- "MRC<c> <coproc>, #<opc1>, <Rt>, <CRn>, <CRm>{, #<opc2>}", and MCR
  abbrev pub register_move : String → Said
  register_move root = reading root Next (cp ∷ opc 21 3 ∷ R w 12 ∷ CR 16 ∷ CR 0 ∷ opc 5 3 ∷ [])

  -- "MRRC<c> <coproc>, #<opc1>, <Rt>, <Rt2>, <CRm>", and MCRR
  abbrev pub pair_move : String → Said
  pair_move root = reading root Next (cp ∷ opc 4 4 ∷ R w 12 ∷ R w 16 ∷ CR 0 ∷ [])

  -- PC is the instruction's address and 8 (A2.3.1); addresses have 32 bits
  abbrev pub from_pc : ℕ → ℕ
  from_pc imm32 = (addr + 8 + imm32) % 2 ^ 32

  -- "imm32 = SignExtend(imm24:'00', 32)", and "SignExtend(imm24:H:'0', 32)"
  abbrev pub imm24 : ℕ
  imm24 = SignExtend (field w 0 24 * 4) 26

  abbrev pub imm24_h : ℕ
  imm24_h = SignExtend (field w 0 24 * 4 + field w 24 1 * 2) 26

  abbrev pub preload : String → Said
  preload root = reading root Next (memory (field w 16 4) None (offset w (field w 0 12)) Offset 1 false (is_minus_zero w (field w 0 12)) ∷ [])

  -- "option"
  abbrev pub barrier : String → Said
  barrier root = reading root Next (Option (field w 0 4) ∷ [])

  abbrev pub pages : List Page
  pages =
      -- A5.2.1
      ("AND (register)" := alu "and" "ands" (R w 12 ∷ R w 16 ∷ shifted w ∷ [])) ∷
      ("EOR (register)" := alu "eor" "eors" (R w 12 ∷ R w 16 ∷ shifted w ∷ [])) ∷
      ("SUB (register)" := alu "sub" "subs" (R w 12 ∷ R w 16 ∷ shifted w ∷ [])) ∷
      ("RSB (register)" := alu "rsb" "rsbs" (R w 12 ∷ R w 16 ∷ shifted w ∷ [])) ∷
      ("ADD (register)" := alu "add" "adds" (R w 12 ∷ R w 16 ∷ shifted w ∷ [])) ∷
      ("ADC (register)" := alu "adc" "adcs" (R w 12 ∷ R w 16 ∷ shifted w ∷ [])) ∷
      ("SBC (register)" := alu "sbc" "sbcs" (R w 12 ∷ R w 16 ∷ shifted w ∷ [])) ∷
      ("RSC (register)" := alu "rsc" "rscs" (R w 12 ∷ R w 16 ∷ shifted w ∷ [])) ∷
      ("TST (register)" := test "tst" (R w 16 ∷ shifted w ∷ [])) ∷
      ("TEQ (register)" := test "teq" (R w 16 ∷ shifted w ∷ [])) ∷
      ("CMP (register)" := test "cmp" (R w 16 ∷ shifted w ∷ [])) ∷
      ("CMN (register)" := test "cmn" (R w 16 ∷ shifted w ∷ [])) ∷
      ("ORR (register)" := alu "orr" "orrs" (R w 12 ∷ R w 16 ∷ shifted w ∷ [])) ∷
      -- 01: a branch to what register 14 holds is a return
      ("MOV (register, ARM)" := reading_as (setflags w (name "mov") (name "movs")) (pick (eqb (field w 12 4) 15) (branches_to (field w 0 4)) Next)
      (R w 12 ∷ R w 0 ∷ [])) ∷
      ("LSL (immediate)" := alu "lsl" "lsls" (R w 12 ∷ R w 0 ∷ shift_count w ∷ [])) ∷
      ("LSR (immediate)" := alu "lsr" "lsrs" (R w 12 ∷ R w 0 ∷ shift_count w ∷ [])) ∷
      ("ASR (immediate)" := alu "asr" "asrs" (R w 12 ∷ R w 0 ∷ shift_count w ∷ [])) ∷
      ("RRX" := alu "rrx" "rrxs" (R w 12 ∷ R w 0 ∷ [])) ∷
      ("ROR (immediate)" := alu "ror" "rors" (R w 12 ∷ R w 0 ∷ shift_count w ∷ [])) ∷
      ("BIC (register)" := alu "bic" "bics" (R w 12 ∷ R w 16 ∷ shifted w ∷ [])) ∷
      ("MVN (register)" := alu "mvn" "mvns" (R w 12 ∷ shifted w ∷ [])) ∷
      -- A5.2.2
      ("AND (register-shifted register)" := by_register "and" "ands" (R w 12 ∷ R w 16 ∷ register_shifted w)) ∷
      ("EOR (register-shifted register)" := by_register "eor" "eors" (R w 12 ∷ R w 16 ∷ register_shifted w)) ∷
      ("SUB (register-shifted register)" := by_register "sub" "subs" (R w 12 ∷ R w 16 ∷ register_shifted w)) ∷
      ("RSB (register-shifted register)" := by_register "rsb" "rsbs" (R w 12 ∷ R w 16 ∷ register_shifted w)) ∷
      ("ADD (register-shifted register)" := by_register "add" "adds" (R w 12 ∷ R w 16 ∷ register_shifted w)) ∷
      ("ADC (register-shifted register)" := by_register "adc" "adcs" (R w 12 ∷ R w 16 ∷ register_shifted w)) ∷
      ("SBC (register-shifted register)" := by_register "sbc" "sbcs" (R w 12 ∷ R w 16 ∷ register_shifted w)) ∷
      ("RSC (register-shifted register)" := by_register "rsc" "rscs" (R w 12 ∷ R w 16 ∷ register_shifted w)) ∷
      ("TST (register-shifted register)" := test "tst" (R w 16 ∷ register_shifted w)) ∷
      ("TEQ (register-shifted register)" := test "teq" (R w 16 ∷ register_shifted w)) ∷
      ("CMP (register-shifted register)" := test "cmp" (R w 16 ∷ register_shifted w)) ∷
      ("CMN (register-shifted register)" := test "cmn" (R w 16 ∷ register_shifted w)) ∷
      ("ORR (register-shifted register)" := by_register "orr" "orrs" (R w 12 ∷ R w 16 ∷ register_shifted w)) ∷
      ("LSL (register)" := by_register "lsl" "lsls" (R w 12 ∷ R w 0 ∷ R w 8 ∷ [])) ∷
      ("LSR (register)" := by_register "lsr" "lsrs" (R w 12 ∷ R w 0 ∷ R w 8 ∷ [])) ∷
      ("ASR (register)" := by_register "asr" "asrs" (R w 12 ∷ R w 0 ∷ R w 8 ∷ [])) ∷
      ("ROR (register)" := by_register "ror" "rors" (R w 12 ∷ R w 0 ∷ R w 8 ∷ [])) ∷
      ("BIC (register-shifted register)" := by_register "bic" "bics" (R w 12 ∷ R w 16 ∷ register_shifted w)) ∷
      ("MVN (register-shifted register)" := by_register "mvn" "mvns" (R w 12 ∷ register_shifted w)) ∷
      -- A5.2.3
      ("AND (immediate)" := alu "and" "ands" (R w 12 ∷ R w 16 ∷ constant w false)) ∷
      ("EOR (immediate)" := alu "eor" "eors" (R w 12 ∷ R w 16 ∷ constant w false)) ∷
      ("SUB (immediate, ARM)" := alu "sub" "subs" (R w 12 ∷ R w 16 ∷ constant w false)) ∷
      ("RSB (immediate)" := alu "rsb" "rsbs" (R w 12 ∷ R w 16 ∷ constant w false)) ∷
      ("ADD (immediate, ARM)" := alu "add" "adds" (R w 12 ∷ R w 16 ∷ constant w false)) ∷
      ("ADC (immediate)" := alu "adc" "adcs" (R w 12 ∷ R w 16 ∷ constant w false)) ∷
      ("SBC (immediate)" := alu "sbc" "sbcs" (R w 12 ∷ R w 16 ∷ constant w false)) ∷
      ("RSC (immediate)" := alu "rsc" "rscs" (R w 12 ∷ R w 16 ∷ constant w false)) ∷
      ("TST (immediate)" := test "tst" (R w 16 ∷ constant w false)) ∷
      ("TEQ (immediate)" := test "teq" (R w 16 ∷ constant w false)) ∷
      ("CMP (immediate)" := test "cmp" (R w 16 ∷ constant w false)) ∷
      ("CMN (immediate)" := test "cmn" (R w 16 ∷ constant w false)) ∷
      ("ORR (immediate)" := alu "orr" "orrs" (R w 12 ∷ R w 16 ∷ constant w false)) ∷
      -- 01: "unsigned .. for mov to 15"
      ("MOV (immediate)" := alu "mov" "movs" (R w 12 ∷ constant w (eqb (field w 12 4) 15))) ∷
      ("BIC (immediate)" := alu "bic" "bics" (R w 12 ∷ R w 16 ∷ constant w false)) ∷
      ("MVN (immediate)" := alu "mvn" "mvns" (R w 12 ∷ constant w false)) ∷
      -- A5.2: "imm32 = ZeroExtend(imm4:imm12, 32)"
      ("MOV (immediate), 16-bit" := reading "movw" Next (R w 12 ∷ Number (field w 16 4 * 2 ^ 12 + field w 0 12) ∷ [])) ∷
      ("MOVT" := reading "movt" Next (R w 12 ∷ Number (field w 16 4 * 2 ^ 12 + field w 0 12) ∷ [])) ∷
      -- A5.2.5: d = 19:16, n = 3:0, m = 11:8, a = 15:12; dHi = 19:16, dLo = 15:12
      ("MUL" := by_register "mul" "muls" (R w 16 ∷ R w 0 ∷ R w 8 ∷ [])) ∷
      ("MLA" := by_register "mla" "mlas" (R w 16 ∷ R w 0 ∷ R w 8 ∷ R w 12 ∷ [])) ∷
      ("UMAAL" := reading "umaal" Next (R w 12 ∷ R w 16 ∷ R w 0 ∷ R w 8 ∷ [])) ∷
      ("MLS" := reading "mls" Next (R w 16 ∷ R w 0 ∷ R w 8 ∷ R w 12 ∷ [])) ∷
      ("UMULL" := by_register "umull" "umulls" (R w 12 ∷ R w 16 ∷ R w 0 ∷ R w 8 ∷ [])) ∷
      ("UMLAL" := by_register "umlal" "umlals" (R w 12 ∷ R w 16 ∷ R w 0 ∷ R w 8 ∷ [])) ∷
      ("SMULL" := by_register "smull" "smulls" (R w 12 ∷ R w 16 ∷ R w 0 ∷ R w 8 ∷ [])) ∷
      ("SMLAL" := by_register "smlal" "smlals" (R w 12 ∷ R w 16 ∷ R w 0 ∷ R w 8 ∷ [])) ∷
      -- A5.2.6: "QADD<c> <Rd>, <Rm>, <Rn>"
      ("QADD" := reading "qadd" Next (R w 12 ∷ R w 0 ∷ R w 16 ∷ [])) ∷
      ("QSUB" := reading "qsub" Next (R w 12 ∷ R w 0 ∷ R w 16 ∷ [])) ∷
      ("QDADD" := reading "qdadd" Next (R w 12 ∷ R w 0 ∷ R w 16 ∷ [])) ∷
      ("QDSUB" := reading "qdsub" Next (R w 12 ∷ R w 0 ∷ R w 16 ∷ [])) ∷
      -- A5.2.7: d, n, m, a, dHi and dLo as in A5.2.5
      ("SMLABB, SMLABT, SMLATB, SMLATT" := reading_as (halves w (name "smlabb") (name "smlabt") (name "smlatb") (name "smlatt")) Next
      (R w 16 ∷ R w 0 ∷ R w 8 ∷ R w 12 ∷ [])) ∷
      ("SMLAWB, SMLAWT" := reading_as (half w (name "smlawb") (name "smlawt")) Next (R w 16 ∷ R w 0 ∷ R w 8 ∷ R w 12 ∷ [])) ∷
      ("SMULWB, SMULWT" := reading_as (half w (name "smulwb") (name "smulwt")) Next (R w 16 ∷ R w 0 ∷ R w 8 ∷ [])) ∷
      ("SMLALBB, SMLALBT, SMLALTB, SMLALTT" := reading_as (halves w (name "smlalbb") (name "smlalbt") (name "smlaltb") (name "smlaltt")) Next
      (R w 12 ∷ R w 16 ∷ R w 0 ∷ R w 8 ∷ [])) ∷
      ("SMULBB, SMULBT, SMULTB, SMULTT" := reading_as (halves w (name "smulbb") (name "smulbt") (name "smultb") (name "smultt")) Next
      (R w 16 ∷ R w 0 ∷ R w 8 ∷ [])) ∷
      -- A5.2.8
      ("STRH (register)" := extra_index "STRH (register)" "strh" 2 one) ∷
      ("LDRH (register)" := extra_index "LDRH (register)" "ldrh" 2 one) ∷
      ("STRH (immediate, ARM)" := extra "strh" 2 one (addressing w)) ∷
      ("LDRH (immediate, ARM)" := extra "ldrh" 2 one (addressing w)) ∷
      ("LDRH (literal)" := extra "ldrh" 2 one Offset) ∷
      ("LDRD (register)" := extra_index "LDRD (register)" "ldrd" 8 pair) ∷
      ("LDRSB (register)" := extra_index "LDRSB (register)" "ldrsb" 1 one) ∷
      ("LDRD (immediate)" := extra "ldrd" 8 pair (addressing w)) ∷
      ("LDRD (literal)" := extra "ldrd" 8 pair Offset) ∷
      ("LDRSB (immediate)" := extra "ldrsb" 1 one (addressing w)) ∷
      ("LDRSB (literal)" := extra "ldrsb" 1 one Offset) ∷
      ("STRD (register)" := extra_index "STRD (register)" "strd" 8 pair) ∷
      ("LDRSH (register)" := extra_index "LDRSH (register)" "ldrsh" 2 one) ∷
      ("STRD (immediate)" := extra "strd" 8 pair (addressing w)) ∷
      ("LDRSH (immediate)" := extra "ldrsh" 2 one (addressing w)) ∷
      ("LDRSH (literal)" := extra "ldrsh" 2 one Offset) ∷
      -- A5.2.10: "STREX<c> <Rd>, <Rt>, [<Rn>]", t = 3:0; "LDREX<c> <Rt>, [<Rn>]", t = 15:12
      ("STREX" := exclusive "strex" 4 (R w 12 ∷ R w 0 ∷ [])) ∷
      ("LDREX" := exclusive "ldrex" 4 (R w 12 ∷ [])) ∷
      ("STREXB" := exclusive "strexb" 1 (R w 12 ∷ R w 0 ∷ [])) ∷
      ("LDREXB" := exclusive "ldrexb" 1 (R w 12 ∷ [])) ∷
      ("STREXH" := exclusive "strexh" 2 (R w 12 ∷ R w 0 ∷ [])) ∷
      ("LDREXH" := exclusive "ldrexh" 2 (R w 12 ∷ [])) ∷
      -- A5.2.11; 01: unsigned for msr
      ("NOP" := reading "nop" Next []) ∷
      ("YIELD" := reading "yield" Next []) ∷
      ("WFE" := reading "wfe" Next []) ∷
      ("WFI" := reading "wfi" Next []) ∷
      ("SEV" := reading "sev" Next []) ∷
      ("MSR (immediate)" := reading "msr" Next (mask ∷ constant w true)) ∷
      -- A5.2.12
      ("MRS" := reading "mrs" Next (R w 12 ∷ pick (is_set w 22) (StatusSource Spsr) (StatusSource Apsr) ∷ [])) ∷
      ("MSR (register)" := reading "msr" Next (mask ∷ R w 0 ∷ [])) ∷
      ("BX" := reading "bx" (branches_to (field w 0 4)) (R w 0 ∷ [])) ∷
      ("CLZ" := reading "clz" Next (R w 12 ∷ R w 0 ∷ [])) ∷
      ("BXJ" := reading "bxj" IndirectBranch (R w 0 ∷ [])) ∷
      ("BLX (register)" := reading "blx" IndirectCall (R w 0 ∷ [])) ∷
      -- "BKPT instruction must be unconditional"
      ("BKPT" := always "bkpt" Trap (imm16 ∷ [])) ∷
      -- A5.3
      ("STRT" := unprivileged "STRT" "strt") ∷
      ("LDRT" := unprivileged "LDRT" "ldrt") ∷
      ("STRBT" := unprivileged "STRBT" "strbt") ∷
      ("LDRBT" := unprivileged "LDRBT" "ldrbt") ∷
      ("STR (immediate, ARM)" := immediate "str" Next) ∷
      ("STR (register)" := with_index "STR (register)" "str" Next) ∷
      ("LDR (immediate, ARM)" := immediate "ldr" (writes_pc w)) ∷
      ("LDR (literal)" := literal "ldr" (writes_pc w)) ∷
      ("LDR (register, ARM)" := with_index "LDR (register, ARM)" "ldr" (writes_pc w)) ∷
      ("STRB (immediate, ARM)" := immediate "strb" Next) ∷
      ("STRB (register)" := with_index "STRB (register)" "strb" Next) ∷
      ("LDRB (immediate, ARM)" := immediate "ldrb" Next) ∷
      ("LDRB (literal)" := literal "ldrb" Next) ∷
      ("LDRB (register)" := with_index "LDRB (register)" "ldrb" Next) ∷
      -- A5.4; a UDF is encoded with the condition always
      ("SSAT" := reading "ssat" Next (R w 12 ∷ Count (pos (field w 16 5 + 1)) ∷ R w 0 ∷ saturate_shift w ∷ [])) ∷
      ("USAT" := reading "usat" Next (R w 12 ∷ Count (pos (field w 16 5)) ∷ R w 0 ∷ saturate_shift w ∷ [])) ∷
      ("SXTAB16" := reading "sxtab16" Next (R w 12 ∷ R w 16 ∷ R w 0 ∷ rotation w ∷ [])) ∷
      ("SXTB16" := reading "sxtb16" Next (R w 12 ∷ R w 0 ∷ rotation w ∷ [])) ∷
      ("SXTAB" := reading "sxtab" Next (R w 12 ∷ R w 16 ∷ R w 0 ∷ rotation w ∷ [])) ∷
      ("SXTB" := reading "sxtb" Next (R w 12 ∷ R w 0 ∷ rotation w ∷ [])) ∷
      ("REV" := reading "rev" Next (R w 12 ∷ R w 0 ∷ [])) ∷
      ("SXTAH" := reading "sxtah" Next (R w 12 ∷ R w 16 ∷ R w 0 ∷ rotation w ∷ [])) ∷
      ("SXTH" := reading "sxth" Next (R w 12 ∷ R w 0 ∷ rotation w ∷ [])) ∷
      ("REV16" := reading "rev16" Next (R w 12 ∷ R w 0 ∷ [])) ∷
      ("UXTAB16" := reading "uxtab16" Next (R w 12 ∷ R w 16 ∷ R w 0 ∷ rotation w ∷ [])) ∷
      ("UXTB16" := reading "uxtb16" Next (R w 12 ∷ R w 0 ∷ rotation w ∷ [])) ∷
      ("UXTAB" := reading "uxtab" Next (R w 12 ∷ R w 16 ∷ R w 0 ∷ rotation w ∷ [])) ∷
      ("UXTB" := reading "uxtb" Next (R w 12 ∷ R w 0 ∷ rotation w ∷ [])) ∷
      ("RBIT" := reading "rbit" Next (R w 12 ∷ R w 0 ∷ [])) ∷
      ("UXTAH" := reading "uxtah" Next (R w 12 ∷ R w 16 ∷ R w 0 ∷ rotation w ∷ [])) ∷
      ("UXTH" := reading "uxth" Next (R w 12 ∷ R w 0 ∷ rotation w ∷ [])) ∷
      ("REVSH" := reading "revsh" Next (R w 12 ∷ R w 0 ∷ [])) ∷
      ("SDIV" := reading "sdiv" Next (R w 16 ∷ R w 0 ∷ R w 8 ∷ [])) ∷
      ("UDIV" := reading "udiv" Next (R w 16 ∷ R w 0 ∷ R w 8 ∷ [])) ∷
      ("SBFX" := reading "sbfx" Next (R w 12 ∷ R w 0 ∷ Number lsb ∷ Number (msb + 1) ∷ [])) ∷
      ("BFC" := reading "bfc" Next (R w 12 ∷ Count (pos lsb) ∷ Count (pos (msb - lsb + 1)) ∷ [])) ∷
      ("BFI" := reading "bfi" Next (R w 12 ∷ R w 0 ∷ Count (pos lsb) ∷ Count (pos (msb - lsb + 1)) ∷ [])) ∷
      ("UBFX" := reading "ubfx" Next (R w 12 ∷ R w 0 ∷ Number lsb ∷ Number (msb + 1) ∷ [])) ∷
      ("UDF" := always "udf" Trap (imm16 ∷ [])) ∷
      -- A5.5
      ("STMDA" := store_multiple "stmda") ∷
      ("LDMDA" := load_multiple "ldmda") ∷
      ("STM" := store_multiple "stm") ∷
      ("LDM" := load_multiple "ldm") ∷
      ("POP" := reading "pop" loads_pc (registers ∷ [])) ∷
      ("STMDB" := store_multiple "stmdb") ∷
      ("PUSH" := reading "push" Next (registers ∷ [])) ∷
      ("LDMDB" := load_multiple "ldmdb") ∷
      ("STMIB" := store_multiple "stmib") ∷
      ("LDMIB" := load_multiple "ldmib") ∷
      -- "BranchWritePC(PC + imm32)"; 01 tells a branch under a condition from one without
      ("B" := reading "b" (pick (eqb (field w 28 4) 14) (Branch (from_pc imm24)) (CondBranch (from_pc imm24))) (Address (from_pc imm24) ∷ [])) ∷
      ("BL" := reading "bl" (Call (from_pc imm24)) (Address (from_pc imm24) ∷ [])) ∷
      -- A5.6; A8.8.107: with t = 15 "APSR_nzcv" is written, which 01's answer has no place for
      ("STC" := coprocessor_transfer "STC" "stc" "stcl" (addressing w)) ∷
      ("LDC (immediate)" := coprocessor_transfer "LDC (immediate)" "ldc" "ldcl" (addressing w)) ∷
      ("LDC (literal)" := coprocessor_transfer "LDC (literal)" "ldc" "ldcl" Offset) ∷
      ("MCRR" := pair_move "mcrr") ∷
      ("MRRC" := pair_move "mrrc") ∷
      ("CDP" := reading "cdp" Next (cp ∷ opc 20 4 ∷ CR 12 ∷ CR 16 ∷ CR 0 ∷ opc 5 3 ∷ [])) ∷
      ("MCR" := register_move "mcr") ∷
      ("MRC" := pick (eqb (field w 12 4) 15) (beyond "MRC") (register_move "mrc")) ∷
      -- other names of words that are read above
      ("ADR" := names "ADR") ∷
      ("SUBS PC, LR and related instructions" := names "SUBS PC, LR and related instructions") ∷
      ("PUSH, one register" := names "PUSH, one register") ∷
      ("POP, one register" := names "POP, one register") ∷
      -- A5.7
      ("PLDW (immediate)" := preload "pldw") ∷
      ("PLD (immediate)" := preload "pld") ∷
      ("PLD (literal)" := preload "pld") ∷
      ("CLREX" := reading "clrex" Next []) ∷
      ("DSB" := barrier "dsb") ∷
      ("DMB" := barrier "dmb") ∷
      ("ISB" := barrier "isb") ∷
      ("BLX (immediate)" := reading "blx" (Call (from_pc imm24_h)) (Address (from_pc imm24_h) ∷ [])) ∷
      []

  -- what the manual says of w at an address, once the page is known
  unfoldable pub said_of : String → Said
  said_of row = said_among row pages
