-- DDI 0406C, chapter A5: the tables that lead from a word's bits to a row, in the manual's names. A cell that a table leaves empty is any.
use Rattle.std.specs.Prelude.{[], ◌∷◌, ℕ}
use Prim.Native.String.{String}
use Rattle.word.specs.Field.{field}
use Rattle.manual.specs.Pattern.{is, isnt, any, ◌⇒◌, table_of}

-- A5.4.1, table A5-17: op1 21:20, op2 7:5
unfoldable pub parallel_signed : ℕ → String
parallel_signed w =
    table_of (field w 20 2 ∷ field w 5 3 ∷ [])
    (
    (is "01" ∷ is "000" ∷ []) ⇒ "SADD16" ∷
    (is "01" ∷ is "001" ∷ []) ⇒ "SASX" ∷
    (is "01" ∷ is "010" ∷ []) ⇒ "SSAX" ∷
    (is "01" ∷ is "011" ∷ []) ⇒ "SSUB16" ∷
    (is "01" ∷ is "100" ∷ []) ⇒ "SADD8" ∷
    (is "01" ∷ is "111" ∷ []) ⇒ "SSUB8" ∷
    (is "10" ∷ is "000" ∷ []) ⇒ "QADD16" ∷
    (is "10" ∷ is "001" ∷ []) ⇒ "QASX" ∷
    (is "10" ∷ is "010" ∷ []) ⇒ "QSAX" ∷
    (is "10" ∷ is "011" ∷ []) ⇒ "QSUB16" ∷
    (is "10" ∷ is "100" ∷ []) ⇒ "QADD8" ∷
    (is "10" ∷ is "111" ∷ []) ⇒ "QSUB8" ∷
    (is "11" ∷ is "000" ∷ []) ⇒ "SHADD16" ∷
    (is "11" ∷ is "001" ∷ []) ⇒ "SHASX" ∷
    (is "11" ∷ is "010" ∷ []) ⇒ "SHSAX" ∷
    (is "11" ∷ is "011" ∷ []) ⇒ "SHSUB16" ∷
    (is "11" ∷ is "100" ∷ []) ⇒ "SHADD8" ∷
    (is "11" ∷ is "111" ∷ []) ⇒ "SHSUB8" ∷
    []
    )

-- A5.4.2, table A5-18: op1 21:20, op2 7:5
unfoldable pub parallel_unsigned : ℕ → String
parallel_unsigned w =
    table_of (field w 20 2 ∷ field w 5 3 ∷ [])
    (
    (is "01" ∷ is "000" ∷ []) ⇒ "UADD16" ∷
    (is "01" ∷ is "001" ∷ []) ⇒ "UASX" ∷
    (is "01" ∷ is "010" ∷ []) ⇒ "USAX" ∷
    (is "01" ∷ is "011" ∷ []) ⇒ "USUB16" ∷
    (is "01" ∷ is "100" ∷ []) ⇒ "UADD8" ∷
    (is "01" ∷ is "111" ∷ []) ⇒ "USUB8" ∷
    (is "10" ∷ is "000" ∷ []) ⇒ "UQADD16" ∷
    (is "10" ∷ is "001" ∷ []) ⇒ "UQASX" ∷
    (is "10" ∷ is "010" ∷ []) ⇒ "UQSAX" ∷
    (is "10" ∷ is "011" ∷ []) ⇒ "UQSUB16" ∷
    (is "10" ∷ is "100" ∷ []) ⇒ "UQADD8" ∷
    (is "10" ∷ is "111" ∷ []) ⇒ "UQSUB8" ∷
    (is "11" ∷ is "000" ∷ []) ⇒ "UHADD16" ∷
    (is "11" ∷ is "001" ∷ []) ⇒ "UHASX" ∷
    (is "11" ∷ is "010" ∷ []) ⇒ "UHSAX" ∷
    (is "11" ∷ is "011" ∷ []) ⇒ "UHSUB16" ∷
    (is "11" ∷ is "100" ∷ []) ⇒ "UHADD8" ∷
    (is "11" ∷ is "111" ∷ []) ⇒ "UHSUB8" ∷
    []
    )

-- A5.4.3, table A5-19: op1 22:20, op2 7:5, A 19:16
unfoldable pub packing : ℕ → String
packing w =
    table_of (field w 20 3 ∷ field w 5 3 ∷ field w 16 4 ∷ [])
    (
    (is "000" ∷ is "xx0" ∷ any ∷ []) ⇒ "PKH" ∷
    (is "01x" ∷ is "xx0" ∷ any ∷ []) ⇒ "SSAT" ∷
    (is "11x" ∷ is "xx0" ∷ any ∷ []) ⇒ "USAT" ∷
    (is "000" ∷ is "011" ∷ isnt "1111" ∷ []) ⇒ "SXTAB16" ∷
    (is "000" ∷ is "011" ∷ is "1111" ∷ []) ⇒ "SXTB16" ∷
    (is "000" ∷ is "101" ∷ any ∷ []) ⇒ "SEL" ∷
    (is "010" ∷ is "001" ∷ any ∷ []) ⇒ "SSAT16" ∷
    (is "010" ∷ is "011" ∷ isnt "1111" ∷ []) ⇒ "SXTAB" ∷
    (is "010" ∷ is "011" ∷ is "1111" ∷ []) ⇒ "SXTB" ∷
    (is "011" ∷ is "001" ∷ any ∷ []) ⇒ "REV" ∷
    (is "011" ∷ is "011" ∷ isnt "1111" ∷ []) ⇒ "SXTAH" ∷
    (is "011" ∷ is "011" ∷ is "1111" ∷ []) ⇒ "SXTH" ∷
    (is "011" ∷ is "101" ∷ any ∷ []) ⇒ "REV16" ∷
    (is "100" ∷ is "011" ∷ isnt "1111" ∷ []) ⇒ "UXTAB16" ∷
    (is "100" ∷ is "011" ∷ is "1111" ∷ []) ⇒ "UXTB16" ∷
    (is "110" ∷ is "001" ∷ any ∷ []) ⇒ "USAT16" ∷
    (is "110" ∷ is "011" ∷ isnt "1111" ∷ []) ⇒ "UXTAB" ∷
    (is "110" ∷ is "011" ∷ is "1111" ∷ []) ⇒ "UXTB" ∷
    (is "111" ∷ is "001" ∷ any ∷ []) ⇒ "RBIT" ∷
    (is "111" ∷ is "011" ∷ isnt "1111" ∷ []) ⇒ "UXTAH" ∷
    (is "111" ∷ is "011" ∷ is "1111" ∷ []) ⇒ "UXTH" ∷
    (is "111" ∷ is "101" ∷ any ∷ []) ⇒ "REVSH" ∷
    []
    )

-- A5.4.4, table A5-20: op1 22:20, op2 7:5, A 15:12
unfoldable pub signed_multiply : ℕ → String
signed_multiply w =
    table_of (field w 20 3 ∷ field w 5 3 ∷ field w 12 4 ∷ [])
    (
    (is "000" ∷ is "00x" ∷ isnt "1111" ∷ []) ⇒ "SMLAD" ∷
    (is "000" ∷ is "00x" ∷ is "1111" ∷ []) ⇒ "SMUAD" ∷
    (is "000" ∷ is "01x" ∷ isnt "1111" ∷ []) ⇒ "SMLSD" ∷
    (is "000" ∷ is "01x" ∷ is "1111" ∷ []) ⇒ "SMUSD" ∷
    (is "001" ∷ is "000" ∷ any ∷ []) ⇒ "SDIV" ∷
    (is "011" ∷ is "000" ∷ any ∷ []) ⇒ "UDIV" ∷
    (is "100" ∷ is "00x" ∷ any ∷ []) ⇒ "SMLALD" ∷
    (is "100" ∷ is "01x" ∷ any ∷ []) ⇒ "SMLSLD" ∷
    (is "101" ∷ is "00x" ∷ isnt "1111" ∷ []) ⇒ "SMMLA" ∷
    (is "101" ∷ is "00x" ∷ is "1111" ∷ []) ⇒ "SMMUL" ∷
    (is "101" ∷ is "11x" ∷ any ∷ []) ⇒ "SMMLS" ∷
    []
    )

-- A5.4, table A5-16: op1 24:20, op2 7:5, Rd 15:12, Rn 3:0
unfoldable pub media : ℕ → String
media w =
    table_of (field w 20 5 ∷ field w 5 3 ∷ field w 12 4 ∷ field w 0 4 ∷ [])
    (
    (is "000xx" ∷ any ∷ any ∷ any ∷ []) ⇒ parallel_signed w ∷
    (is "001xx" ∷ any ∷ any ∷ any ∷ []) ⇒ parallel_unsigned w ∷
    (is "01xxx" ∷ any ∷ any ∷ any ∷ []) ⇒ packing w ∷
    (is "10xxx" ∷ any ∷ any ∷ any ∷ []) ⇒ signed_multiply w ∷
    (is "11000" ∷ is "000" ∷ is "1111" ∷ any ∷ []) ⇒ "USAD8" ∷
    (is "11000" ∷ is "000" ∷ isnt "1111" ∷ any ∷ []) ⇒ "USADA8" ∷
    (is "1101x" ∷ is "x10" ∷ any ∷ any ∷ []) ⇒ "SBFX" ∷
    (is "1110x" ∷ is "x00" ∷ any ∷ is "1111" ∷ []) ⇒ "BFC" ∷
    (is "1110x" ∷ is "x00" ∷ any ∷ isnt "1111" ∷ []) ⇒ "BFI" ∷
    (is "1111x" ∷ is "x10" ∷ any ∷ any ∷ []) ⇒ "UBFX" ∷
    (is "11111" ∷ is "111" ∷ any ∷ any ∷ []) ⇒ "UDF" ∷
    []
    )

-- A5.2.1, table A5-3: op 24:20, op2 6:5, imm5 11:7
unfoldable pub data_processing_register : ℕ → String
data_processing_register w =
    table_of (field w 20 5 ∷ field w 5 2 ∷ field w 7 5 ∷ [])
    (
    (is "0000x" ∷ any ∷ any ∷ []) ⇒ "AND (register)" ∷
    (is "0001x" ∷ any ∷ any ∷ []) ⇒ "EOR (register)" ∷
    (is "0010x" ∷ any ∷ any ∷ []) ⇒ "SUB (register)" ∷
    (is "0011x" ∷ any ∷ any ∷ []) ⇒ "RSB (register)" ∷
    (is "0100x" ∷ any ∷ any ∷ []) ⇒ "ADD (register)" ∷
    (is "0101x" ∷ any ∷ any ∷ []) ⇒ "ADC (register)" ∷
    (is "0110x" ∷ any ∷ any ∷ []) ⇒ "SBC (register)" ∷
    (is "0111x" ∷ any ∷ any ∷ []) ⇒ "RSC (register)" ∷
    (is "10001" ∷ any ∷ any ∷ []) ⇒ "TST (register)" ∷
    (is "10011" ∷ any ∷ any ∷ []) ⇒ "TEQ (register)" ∷
    (is "10101" ∷ any ∷ any ∷ []) ⇒ "CMP (register)" ∷
    (is "10111" ∷ any ∷ any ∷ []) ⇒ "CMN (register)" ∷
    (is "1100x" ∷ any ∷ any ∷ []) ⇒ "ORR (register)" ∷
    (is "1101x" ∷ is "00" ∷ is "00000" ∷ []) ⇒ "MOV (register, ARM)" ∷
    (is "1101x" ∷ is "00" ∷ isnt "00000" ∷ []) ⇒ "LSL (immediate)" ∷
    (is "1101x" ∷ is "01" ∷ any ∷ []) ⇒ "LSR (immediate)" ∷
    (is "1101x" ∷ is "10" ∷ any ∷ []) ⇒ "ASR (immediate)" ∷
    (is "1101x" ∷ is "11" ∷ is "00000" ∷ []) ⇒ "RRX" ∷
    (is "1101x" ∷ is "11" ∷ isnt "00000" ∷ []) ⇒ "ROR (immediate)" ∷
    (is "1110x" ∷ any ∷ any ∷ []) ⇒ "BIC (register)" ∷
    (is "1111x" ∷ any ∷ any ∷ []) ⇒ "MVN (register)" ∷
    []
    )

-- A5.2.2, table A5-4: op1 24:20, op2 6:5
unfoldable pub data_processing_shifted : ℕ → String
data_processing_shifted w =
    table_of (field w 20 5 ∷ field w 5 2 ∷ [])
    (
    (is "0000x" ∷ any ∷ []) ⇒ "AND (register-shifted register)" ∷
    (is "0001x" ∷ any ∷ []) ⇒ "EOR (register-shifted register)" ∷
    (is "0010x" ∷ any ∷ []) ⇒ "SUB (register-shifted register)" ∷
    (is "0011x" ∷ any ∷ []) ⇒ "RSB (register-shifted register)" ∷
    (is "0100x" ∷ any ∷ []) ⇒ "ADD (register-shifted register)" ∷
    (is "0101x" ∷ any ∷ []) ⇒ "ADC (register-shifted register)" ∷
    (is "0110x" ∷ any ∷ []) ⇒ "SBC (register-shifted register)" ∷
    (is "0111x" ∷ any ∷ []) ⇒ "RSC (register-shifted register)" ∷
    (is "10001" ∷ any ∷ []) ⇒ "TST (register-shifted register)" ∷
    (is "10011" ∷ any ∷ []) ⇒ "TEQ (register-shifted register)" ∷
    (is "10101" ∷ any ∷ []) ⇒ "CMP (register-shifted register)" ∷
    (is "10111" ∷ any ∷ []) ⇒ "CMN (register-shifted register)" ∷
    (is "1100x" ∷ any ∷ []) ⇒ "ORR (register-shifted register)" ∷
    (is "1101x" ∷ is "00" ∷ []) ⇒ "LSL (register)" ∷
    (is "1101x" ∷ is "01" ∷ []) ⇒ "LSR (register)" ∷
    (is "1101x" ∷ is "10" ∷ []) ⇒ "ASR (register)" ∷
    (is "1101x" ∷ is "11" ∷ []) ⇒ "ROR (register)" ∷
    (is "1110x" ∷ any ∷ []) ⇒ "BIC (register-shifted register)" ∷
    (is "1111x" ∷ any ∷ []) ⇒ "MVN (register-shifted register)" ∷
    []
    )

-- A5.2.3, table A5-5: op 24:20, Rn 19:16
unfoldable pub data_processing_immediate : ℕ → String
data_processing_immediate w =
    table_of (field w 20 5 ∷ field w 16 4 ∷ [])
    (
    (is "0000x" ∷ any ∷ []) ⇒ "AND (immediate)" ∷
    (is "0001x" ∷ any ∷ []) ⇒ "EOR (immediate)" ∷
    (is "0010x" ∷ isnt "1111" ∷ []) ⇒ "SUB (immediate, ARM)" ∷
    (is "0010x" ∷ is "1111" ∷ []) ⇒ "ADR" ∷
    (is "0011x" ∷ any ∷ []) ⇒ "RSB (immediate)" ∷
    (is "0100x" ∷ isnt "1111" ∷ []) ⇒ "ADD (immediate, ARM)" ∷
    (is "0100x" ∷ is "1111" ∷ []) ⇒ "ADR" ∷
    (is "0101x" ∷ any ∷ []) ⇒ "ADC (immediate)" ∷
    (is "0110x" ∷ any ∷ []) ⇒ "SBC (immediate)" ∷
    (is "0111x" ∷ any ∷ []) ⇒ "RSC (immediate)" ∷
    (is "10001" ∷ any ∷ []) ⇒ "TST (immediate)" ∷
    (is "10011" ∷ any ∷ []) ⇒ "TEQ (immediate)" ∷
    (is "10101" ∷ any ∷ []) ⇒ "CMP (immediate)" ∷
    (is "10111" ∷ any ∷ []) ⇒ "CMN (immediate)" ∷
    (is "1100x" ∷ any ∷ []) ⇒ "ORR (immediate)" ∷
    (is "1101x" ∷ any ∷ []) ⇒ "MOV (immediate)" ∷
    (is "1110x" ∷ any ∷ []) ⇒ "BIC (immediate)" ∷
    (is "1111x" ∷ any ∷ []) ⇒ "MVN (immediate)" ∷
    []
    )

-- A5.2.5, table A5-7: op 23:20
unfoldable pub multiply : ℕ → String
multiply w =
    table_of (field w 20 4 ∷ [])
    (
    (is "000x" ∷ []) ⇒ "MUL" ∷
    (is "001x" ∷ []) ⇒ "MLA" ∷
    (is "0100" ∷ []) ⇒ "UMAAL" ∷
    (is "0101" ∷ []) ⇒ "UNDEFINED" ∷
    (is "0110" ∷ []) ⇒ "MLS" ∷
    (is "0111" ∷ []) ⇒ "UNDEFINED" ∷
    (is "100x" ∷ []) ⇒ "UMULL" ∷
    (is "101x" ∷ []) ⇒ "UMLAL" ∷
    (is "110x" ∷ []) ⇒ "SMULL" ∷
    (is "111x" ∷ []) ⇒ "SMLAL" ∷
    []
    )

-- A5.2.6, table A5-8: op 22:21
unfoldable pub saturating : ℕ → String
saturating w =
    table_of (field w 21 2 ∷ [])
    (
    (is "00" ∷ []) ⇒ "QADD" ∷
    (is "01" ∷ []) ⇒ "QSUB" ∷
    (is "10" ∷ []) ⇒ "QDADD" ∷
    (is "11" ∷ []) ⇒ "QDSUB" ∷
    []
    )

-- A5.2.7, table A5-9: op1 22:21, op 5
unfoldable pub halfword_multiply : ℕ → String
halfword_multiply w =
    table_of (field w 21 2 ∷ field w 5 1 ∷ [])
    (
    (is "00" ∷ any ∷ []) ⇒ "SMLABB, SMLABT, SMLATB, SMLATT" ∷
    (is "01" ∷ is "0" ∷ []) ⇒ "SMLAWB, SMLAWT" ∷
    (is "01" ∷ is "1" ∷ []) ⇒ "SMULWB, SMULWT" ∷
    (is "10" ∷ any ∷ []) ⇒ "SMLALBB, SMLALBT, SMLALTB, SMLALTT" ∷
    (is "11" ∷ any ∷ []) ⇒ "SMULBB, SMULBT, SMULTB, SMULTT" ∷
    []
    )

-- A5.2.8, table A5-10: op2 6:5, op1 24:20, Rn 19:16
unfoldable pub extra_load_store : ℕ → String
extra_load_store w =
    table_of (field w 5 2 ∷ field w 20 5 ∷ field w 16 4 ∷ [])
    (
    (is "01" ∷ is "xx0x0" ∷ any ∷ []) ⇒ "STRH (register)" ∷
    (is "01" ∷ is "xx0x1" ∷ any ∷ []) ⇒ "LDRH (register)" ∷
    (is "01" ∷ is "xx1x0" ∷ any ∷ []) ⇒ "STRH (immediate, ARM)" ∷
    (is "01" ∷ is "xx1x1" ∷ isnt "1111" ∷ []) ⇒ "LDRH (immediate, ARM)" ∷
    (is "01" ∷ is "xx1x1" ∷ is "1111" ∷ []) ⇒ "LDRH (literal)" ∷
    (is "10" ∷ is "xx0x0" ∷ any ∷ []) ⇒ "LDRD (register)" ∷
    (is "10" ∷ is "xx0x1" ∷ any ∷ []) ⇒ "LDRSB (register)" ∷
    (is "10" ∷ is "xx1x0" ∷ isnt "1111" ∷ []) ⇒ "LDRD (immediate)" ∷
    (is "10" ∷ is "xx1x0" ∷ is "1111" ∷ []) ⇒ "LDRD (literal)" ∷
    (is "10" ∷ is "xx1x1" ∷ isnt "1111" ∷ []) ⇒ "LDRSB (immediate)" ∷
    (is "10" ∷ is "xx1x1" ∷ is "1111" ∷ []) ⇒ "LDRSB (literal)" ∷
    (is "11" ∷ is "xx0x0" ∷ any ∷ []) ⇒ "STRD (register)" ∷
    (is "11" ∷ is "xx0x1" ∷ any ∷ []) ⇒ "LDRSH (register)" ∷
    (is "11" ∷ is "xx1x0" ∷ any ∷ []) ⇒ "STRD (immediate)" ∷
    (is "11" ∷ is "xx1x1" ∷ isnt "1111" ∷ []) ⇒ "LDRSH (immediate)" ∷
    (is "11" ∷ is "xx1x1" ∷ is "1111" ∷ []) ⇒ "LDRSH (literal)" ∷
    []
    )

-- A5.2.9, table A5-11: op2 6:5, op 20, Rt 15:12
unfoldable pub extra_unprivileged : ℕ → String
extra_unprivileged w =
    table_of (field w 5 2 ∷ field w 20 1 ∷ field w 12 4 ∷ [])
    (
    (is "01" ∷ is "0" ∷ any ∷ []) ⇒ "STRHT" ∷
    (is "01" ∷ is "1" ∷ any ∷ []) ⇒ "LDRHT" ∷
    (is "10" ∷ is "0" ∷ is "xxx0" ∷ []) ⇒ "UNPREDICTABLE" ∷
    (is "10" ∷ is "0" ∷ is "xxx1" ∷ []) ⇒ "UNDEFINED" ∷
    (is "10" ∷ is "1" ∷ any ∷ []) ⇒ "LDRSBT" ∷
    (is "11" ∷ is "0" ∷ is "xxx0" ∷ []) ⇒ "UNPREDICTABLE" ∷
    (is "11" ∷ is "0" ∷ is "xxx1" ∷ []) ⇒ "UNDEFINED" ∷
    (is "11" ∷ is "1" ∷ any ∷ []) ⇒ "LDRSHT" ∷
    []
    )

-- A5.2.10, table A5-12: op 23:20
unfoldable pub synchronization : ℕ → String
synchronization w =
    table_of (field w 20 4 ∷ [])
    (
    (is "0x00" ∷ []) ⇒ "SWP, SWPB" ∷
    (is "1000" ∷ []) ⇒ "STREX" ∷
    (is "1001" ∷ []) ⇒ "LDREX" ∷
    (is "1010" ∷ []) ⇒ "STREXD" ∷
    (is "1011" ∷ []) ⇒ "LDREXD" ∷
    (is "1100" ∷ []) ⇒ "STREXB" ∷
    (is "1101" ∷ []) ⇒ "LDREXB" ∷
    (is "1110" ∷ []) ⇒ "STREXH" ∷
    (is "1111" ∷ []) ⇒ "LDREXH" ∷
    []
    )

-- A5.2.11, table A5-13: op 22, op1 19:16, op2 7:0; "Other encodings in this space are unallocated hints"
unfoldable pub msr_and_hints : ℕ → String
msr_and_hints w =
    table_of (field w 22 1 ∷ field w 16 4 ∷ field w 0 8 ∷ [])
    (
    (is "0" ∷ is "0000" ∷ is "00000000" ∷ []) ⇒ "NOP" ∷
    (is "0" ∷ is "0000" ∷ is "00000001" ∷ []) ⇒ "YIELD" ∷
    (is "0" ∷ is "0000" ∷ is "00000010" ∷ []) ⇒ "WFE" ∷
    (is "0" ∷ is "0000" ∷ is "00000011" ∷ []) ⇒ "WFI" ∷
    (is "0" ∷ is "0000" ∷ is "00000100" ∷ []) ⇒ "SEV" ∷
    (is "0" ∷ is "0000" ∷ is "1111xxxx" ∷ []) ⇒ "DBG" ∷
    (is "0" ∷ is "0000" ∷ any ∷ []) ⇒ "unallocated hint" ∷
    (is "0" ∷ is "0100" ∷ any ∷ []) ⇒ "MSR (immediate)" ∷
    (is "0" ∷ is "1x00" ∷ any ∷ []) ⇒ "MSR (immediate)" ∷
    (is "0" ∷ is "xx01" ∷ any ∷ []) ⇒ "MSR (immediate)" ∷
    (is "0" ∷ is "xx1x" ∷ any ∷ []) ⇒ "MSR (immediate)" ∷
    (is "1" ∷ any ∷ any ∷ []) ⇒ "MSR (immediate)" ∷
    []
    )

-- A5.2.12, table A5-14: op2 6:4, B 9, op 22:21, op1 19:16
unfoldable pub miscellaneous : ℕ → String
miscellaneous w =
    table_of (field w 4 3 ∷ field w 9 1 ∷ field w 21 2 ∷ field w 16 4 ∷ [])
    (
    (is "000" ∷ is "1" ∷ is "x0" ∷ any ∷ []) ⇒ "MRS (Banked register)" ∷
    (is "000" ∷ is "1" ∷ is "x1" ∷ any ∷ []) ⇒ "MSR (Banked register)" ∷
    (is "000" ∷ is "0" ∷ is "x0" ∷ any ∷ []) ⇒ "MRS" ∷
    (is "000" ∷ is "0" ∷ is "01" ∷ is "xx00" ∷ []) ⇒ "MSR (register)" ∷
    (is "000" ∷ is "0" ∷ is "01" ∷ is "xx01" ∷ []) ⇒ "MSR (register)" ∷
    (is "000" ∷ is "0" ∷ is "01" ∷ is "xx1x" ∷ []) ⇒ "MSR (register)" ∷
    (is "000" ∷ is "0" ∷ is "11" ∷ any ∷ []) ⇒ "MSR (register)" ∷
    (is "001" ∷ any ∷ is "01" ∷ any ∷ []) ⇒ "BX" ∷
    (is "001" ∷ any ∷ is "11" ∷ any ∷ []) ⇒ "CLZ" ∷
    (is "010" ∷ any ∷ is "01" ∷ any ∷ []) ⇒ "BXJ" ∷
    (is "011" ∷ any ∷ is "01" ∷ any ∷ []) ⇒ "BLX (register)" ∷
    (is "101" ∷ any ∷ any ∷ any ∷ []) ⇒ saturating w ∷
    (is "110" ∷ any ∷ is "11" ∷ any ∷ []) ⇒ "ERET" ∷
    (is "111" ∷ any ∷ is "01" ∷ any ∷ []) ⇒ "BKPT" ∷
    (is "111" ∷ any ∷ is "10" ∷ any ∷ []) ⇒ "HVC" ∷
    (is "111" ∷ any ∷ is "11" ∷ any ∷ []) ⇒ "SMC" ∷
    []
    )

-- A5.2, table A5-2: op 25, op1 24:20, op2 7:4
unfoldable pub data_processing : ℕ → String
data_processing w =
    table_of (field w 25 1 ∷ field w 20 5 ∷ field w 4 4 ∷ [])
    (
    (is "0" ∷ isnt "10xx0" ∷ is "xxx0" ∷ []) ⇒ data_processing_register w ∷
    (is "0" ∷ isnt "10xx0" ∷ is "0xx1" ∷ []) ⇒ data_processing_shifted w ∷
    (is "0" ∷ is "10xx0" ∷ is "0xxx" ∷ []) ⇒ miscellaneous w ∷
    (is "0" ∷ is "10xx0" ∷ is "1xx0" ∷ []) ⇒ halfword_multiply w ∷
    (is "0" ∷ is "0xxxx" ∷ is "1001" ∷ []) ⇒ multiply w ∷
    (is "0" ∷ is "1xxxx" ∷ is "1001" ∷ []) ⇒ synchronization w ∷
    (is "0" ∷ isnt "0xx1x" ∷ is "1011" ∷ []) ⇒ extra_load_store w ∷
    (is "0" ∷ isnt "0xx1x" ∷ is "11x1" ∷ []) ⇒ extra_load_store w ∷
    (is "0" ∷ is "0xx10" ∷ is "11x1" ∷ []) ⇒ extra_load_store w ∷
    (is "0" ∷ is "0xx1x" ∷ is "1011" ∷ []) ⇒ extra_unprivileged w ∷
    (is "0" ∷ is "0xx11" ∷ is "11x1" ∷ []) ⇒ extra_unprivileged w ∷
    (is "1" ∷ isnt "10xx0" ∷ any ∷ []) ⇒ data_processing_immediate w ∷
    (is "1" ∷ is "10000" ∷ any ∷ []) ⇒ "MOV (immediate), 16-bit" ∷
    (is "1" ∷ is "10100" ∷ any ∷ []) ⇒ "MOVT" ∷
    (is "1" ∷ is "10x10" ∷ any ∷ []) ⇒ msr_and_hints w ∷
    []
    )

-- A5.3, table A5-15: A 25, op1 24:20, B 4, Rn 19:16
unfoldable pub load_store : ℕ → String
load_store w =
    table_of (field w 25 1 ∷ field w 20 5 ∷ field w 4 1 ∷ field w 16 4 ∷ [])
    (
    (is "0" ∷ is "0x010" ∷ any ∷ any ∷ []) ⇒ "STRT" ∷
    (is "1" ∷ is "0x010" ∷ is "0" ∷ any ∷ []) ⇒ "STRT" ∷
    (is "0" ∷ is "0x011" ∷ any ∷ any ∷ []) ⇒ "LDRT" ∷
    (is "1" ∷ is "0x011" ∷ is "0" ∷ any ∷ []) ⇒ "LDRT" ∷
    (is "0" ∷ is "0x110" ∷ any ∷ any ∷ []) ⇒ "STRBT" ∷
    (is "1" ∷ is "0x110" ∷ is "0" ∷ any ∷ []) ⇒ "STRBT" ∷
    (is "0" ∷ is "0x111" ∷ any ∷ any ∷ []) ⇒ "LDRBT" ∷
    (is "1" ∷ is "0x111" ∷ is "0" ∷ any ∷ []) ⇒ "LDRBT" ∷
    (is "0" ∷ is "xx0x0" ∷ any ∷ any ∷ []) ⇒ "STR (immediate, ARM)" ∷
    (is "1" ∷ is "xx0x0" ∷ is "0" ∷ any ∷ []) ⇒ "STR (register)" ∷
    (is "0" ∷ is "xx0x1" ∷ any ∷ isnt "1111" ∷ []) ⇒ "LDR (immediate, ARM)" ∷
    (is "0" ∷ is "xx0x1" ∷ any ∷ is "1111" ∷ []) ⇒ "LDR (literal)" ∷
    (is "1" ∷ is "xx0x1" ∷ is "0" ∷ any ∷ []) ⇒ "LDR (register, ARM)" ∷
    (is "0" ∷ is "xx1x0" ∷ any ∷ any ∷ []) ⇒ "STRB (immediate, ARM)" ∷
    (is "1" ∷ is "xx1x0" ∷ is "0" ∷ any ∷ []) ⇒ "STRB (register)" ∷
    (is "0" ∷ is "xx1x1" ∷ any ∷ isnt "1111" ∷ []) ⇒ "LDRB (immediate, ARM)" ∷
    (is "0" ∷ is "xx1x1" ∷ any ∷ is "1111" ∷ []) ⇒ "LDRB (literal)" ∷
    (is "1" ∷ is "xx1x1" ∷ is "0" ∷ any ∷ []) ⇒ "LDRB (register)" ∷
    []
    )

-- A5.5, table A5-21: op 25:20, R 15, Rn 19:16
unfoldable pub branch_and_block : ℕ → String
branch_and_block w =
    table_of (field w 20 6 ∷ field w 15 1 ∷ field w 16 4 ∷ [])
    (
    (is "0000x0" ∷ any ∷ any ∷ []) ⇒ "STMDA" ∷
    (is "0000x1" ∷ any ∷ any ∷ []) ⇒ "LDMDA" ∷
    (is "0010x0" ∷ any ∷ any ∷ []) ⇒ "STM" ∷
    (is "001001" ∷ any ∷ any ∷ []) ⇒ "LDM" ∷
    (is "001011" ∷ any ∷ isnt "1101" ∷ []) ⇒ "LDM" ∷
    (is "001011" ∷ any ∷ is "1101" ∷ []) ⇒ "POP" ∷
    (is "010000" ∷ any ∷ any ∷ []) ⇒ "STMDB" ∷
    (is "010010" ∷ any ∷ isnt "1101" ∷ []) ⇒ "STMDB" ∷
    (is "010010" ∷ any ∷ is "1101" ∷ []) ⇒ "PUSH" ∷
    (is "0100x1" ∷ any ∷ any ∷ []) ⇒ "LDMDB" ∷
    (is "0110x0" ∷ any ∷ any ∷ []) ⇒ "STMIB" ∷
    (is "0110x1" ∷ any ∷ any ∷ []) ⇒ "LDMIB" ∷
    (is "0xx1x0" ∷ any ∷ any ∷ []) ⇒ "STM (User registers)" ∷
    (is "0xx1x1" ∷ is "0" ∷ any ∷ []) ⇒ "LDM (User registers)" ∷
    (is "0xx1x1" ∷ is "1" ∷ any ∷ []) ⇒ "LDM (exception return)" ∷
    (is "10xxxx" ∷ any ∷ any ∷ []) ⇒ "B" ∷
    (is "11xxxx" ∷ any ∷ any ∷ []) ⇒ "BL" ∷
    []
    )

-- A5.6, table A5-22: op1 25:20, op 4, coproc 11:8, Rn 19:16. The first of its rows are those that the others leave out by a "not". Coprocessors
-- 10 and 11 are chapter A7's
unfoldable pub coprocessor : ℕ → String
coprocessor w =
    table_of (field w 20 6 ∷ field w 4 1 ∷ field w 8 4 ∷ field w 16 4 ∷ [])
    (
    (is "00000x" ∷ any ∷ any ∷ any ∷ []) ⇒ "UNDEFINED" ∷
    (is "11xxxx" ∷ any ∷ any ∷ any ∷ []) ⇒ "SVC" ∷
    (any ∷ any ∷ is "101x" ∷ any ∷ []) ⇒ "Advanced SIMD, Floating-point" ∷
    (is "000100" ∷ any ∷ any ∷ any ∷ []) ⇒ "MCRR" ∷
    (is "000101" ∷ any ∷ any ∷ any ∷ []) ⇒ "MRRC" ∷
    (is "0xxxx0" ∷ any ∷ any ∷ any ∷ []) ⇒ "STC" ∷
    (is "0xxxx1" ∷ any ∷ any ∷ isnt "1111" ∷ []) ⇒ "LDC (immediate)" ∷
    (is "0xxxx1" ∷ any ∷ any ∷ is "1111" ∷ []) ⇒ "LDC (literal)" ∷
    (is "10xxxx" ∷ is "0" ∷ any ∷ any ∷ []) ⇒ "CDP" ∷
    (is "10xxx0" ∷ is "1" ∷ any ∷ any ∷ []) ⇒ "MCR" ∷
    (is "10xxx1" ∷ is "1" ∷ any ∷ any ∷ []) ⇒ "MRC" ∷
    []
    )

-- A5.7.1, table A5-24: op1 26:20, op2 7:4, Rn 19:16
unfoldable pub hints_and_simd : ℕ → String
hints_and_simd w =
    table_of (field w 20 7 ∷ field w 4 4 ∷ field w 16 4 ∷ [])
    (
    (is "0010000" ∷ is "xx0x" ∷ is "xxx0" ∷ []) ⇒ "CPS" ∷
    (is "0010000" ∷ is "0000" ∷ is "xxx1" ∷ []) ⇒ "SETEND" ∷
    (is "01xxxxx" ∷ any ∷ any ∷ []) ⇒ "Advanced SIMD data-processing" ∷
    (is "100xxx0" ∷ any ∷ any ∷ []) ⇒ "Advanced SIMD load/store" ∷
    (is "100x001" ∷ any ∷ any ∷ []) ⇒ "unallocated memory hint" ∷
    (is "100x101" ∷ any ∷ any ∷ []) ⇒ "PLI (immediate, literal)" ∷
    (is "100xx11" ∷ any ∷ any ∷ []) ⇒ "UNPREDICTABLE" ∷
    (is "101x001" ∷ any ∷ isnt "1111" ∷ []) ⇒ "PLDW (immediate)" ∷
    (is "101x001" ∷ any ∷ is "1111" ∷ []) ⇒ "UNPREDICTABLE" ∷
    (is "101x101" ∷ any ∷ isnt "1111" ∷ []) ⇒ "PLD (immediate)" ∷
    (is "101x101" ∷ any ∷ is "1111" ∷ []) ⇒ "PLD (literal)" ∷
    (is "1010011" ∷ any ∷ any ∷ []) ⇒ "UNPREDICTABLE" ∷
    (is "1010111" ∷ is "0000" ∷ any ∷ []) ⇒ "UNPREDICTABLE" ∷
    (is "1010111" ∷ is "0001" ∷ any ∷ []) ⇒ "CLREX" ∷
    (is "1010111" ∷ is "001x" ∷ any ∷ []) ⇒ "UNPREDICTABLE" ∷
    (is "1010111" ∷ is "0100" ∷ any ∷ []) ⇒ "DSB" ∷
    (is "1010111" ∷ is "0101" ∷ any ∷ []) ⇒ "DMB" ∷
    (is "1010111" ∷ is "0110" ∷ any ∷ []) ⇒ "ISB" ∷
    (is "1010111" ∷ is "0111" ∷ any ∷ []) ⇒ "UNPREDICTABLE" ∷
    (is "1010111" ∷ is "1xxx" ∷ any ∷ []) ⇒ "UNPREDICTABLE" ∷
    (is "1011x11" ∷ any ∷ any ∷ []) ⇒ "UNPREDICTABLE" ∷
    (is "110x001" ∷ is "xxx0" ∷ any ∷ []) ⇒ "unallocated memory hint" ∷
    (is "110x101" ∷ is "xxx0" ∷ any ∷ []) ⇒ "PLI (register)" ∷
    (is "111x001" ∷ is "xxx0" ∷ any ∷ []) ⇒ "PLDW (register)" ∷
    (is "111x101" ∷ is "xxx0" ∷ any ∷ []) ⇒ "PLD (register)" ∷
    (is "11xxx11" ∷ is "xxx0" ∷ any ∷ []) ⇒ "UNPREDICTABLE" ∷
    (is "1111111" ∷ is "1111" ∷ any ∷ []) ⇒ "UNDEFINED" ∷
    []
    )

-- A5.7, table A5-23: op1 27:20, op 4
unfoldable pub unconditional : ℕ → String
unconditional w =
    table_of (field w 20 8 ∷ field w 4 1 ∷ [])
    (
    (is "0xxxxxxx" ∷ any ∷ []) ⇒ hints_and_simd w ∷
    (is "100xx1x0" ∷ any ∷ []) ⇒ "SRS" ∷
    (is "100xx0x1" ∷ any ∷ []) ⇒ "RFE" ∷
    (is "101xxxxx" ∷ any ∷ []) ⇒ "BLX (immediate)" ∷
    (is "11000x11" ∷ any ∷ []) ⇒ "LDC2" ∷
    (is "11000x10" ∷ any ∷ []) ⇒ "STC2" ∷
    (is "11000100" ∷ any ∷ []) ⇒ "MCRR2" ∷
    (is "11000101" ∷ any ∷ []) ⇒ "MRRC2" ∷
    (is "11000x0x" ∷ any ∷ []) ⇒ "UNDEFINED" ∷
    (is "110xxxx0" ∷ any ∷ []) ⇒ "STC2" ∷
    (is "110xxxx1" ∷ any ∷ []) ⇒ "LDC2" ∷
    (is "1110xxxx" ∷ is "0" ∷ []) ⇒ "CDP2" ∷
    (is "1110xxx0" ∷ is "1" ∷ []) ⇒ "MCR2" ∷
    (is "1110xxx1" ∷ is "1" ∷ []) ⇒ "MRC2" ∷
    []
    )

-- A5.1, table A5-1: cond 31:28, op1 27:25, op 4
unfoldable pub table_row : ℕ → String
table_row w =
    table_of (field w 28 4 ∷ field w 25 3 ∷ field w 4 1 ∷ [])
    (
    (is "1111" ∷ any ∷ any ∷ []) ⇒ unconditional w ∷
    (any ∷ is "00x" ∷ any ∷ []) ⇒ data_processing w ∷
    (any ∷ is "010" ∷ any ∷ []) ⇒ load_store w ∷
    (any ∷ is "011" ∷ is "0" ∷ []) ⇒ load_store w ∷
    (any ∷ is "011" ∷ is "1" ∷ []) ⇒ media w ∷
    (any ∷ is "10x" ∷ any ∷ []) ⇒ branch_and_block w ∷
    (any ∷ is "11x" ∷ any ∷ []) ⇒ coprocessor w ∷
    []
    )
