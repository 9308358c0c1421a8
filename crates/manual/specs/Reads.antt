-- DDI 0406C, chapter A8 and A2.2: the functions by which an encoding reads its operands, under the manual's names, and how what they give
-- is set out as an answer of 01. What A8 calls UNPREDICTABLE its pages still read; where control goes then, a page does not say.
use Rattle.std.specs.Prelude.{Bool, true, false, not, List, [], ◌∷◌, ℕ, ◌+◌, ◌-◌, ◌*◌, ◌/◌, ◌%◌, ◌^◌, eqb, ℤ, pos, Some, None}
use Rattle.insn.specs.Memory.{Index}
use Rattle.word.specs.Choice.{pick, both}
use Rattle.word.specs.Field.{field}
use Rattle.word.specs.Signed.{minus}
use Rattle.insn.specs.declared.AddrMode.{AddrMode}
use Rattle.insn.specs.declared.AddrMode.TheVariants.{Offset, PreIndex, PostIndex}
use Rattle.insn.specs.declared.Flow.{Flow}
use Rattle.insn.specs.declared.Flow.TheVariants.{Next, IndirectBranch, Return}
use Rattle.insn.specs.declared.Operand.{Operand}
use Rattle.insn.specs.declared.Operand.TheVariants.{Empty, Register, Shifted, ShiftBy, SaturateShift, Rotate, Count, Memory}
use Rattle.insn.specs.declared.Shift.{Shift}
use Rattle.insn.specs.declared.Shift.TheVariants.{Lsl, Lsr, Asr, Ror}
use Rattle.a32_imm.specs.Imm.{least_of, count_of}

abbrev pub is_set : ℕ → ℕ → Bool
is_set w n = eqb (field w n 1) 1

-- "d = UInt(Rd)", and its like: the register that the four bits from place lo on name
abbrev pub R : ℕ → ℕ → Operand
R w lo = Register (record { 0 = field w lo 4 })

-- "setflags = (S == '1')": one of a mnemonic's two names
abbrev pub setflags : ℕ → ℕ → ℕ → ℕ
setflags w plain s = pick (is_set w 20) s plain

-- "<y> .. If <y> is B, then M == '0' .. If <y> is T, then M == '1'", bit 6; "<x>" likewise by N, bit 5
abbrev pub half : ℕ → ℕ → ℕ → ℕ
half w b t = pick (is_set w 6) t b

abbrev pub halves : ℕ → ℕ → ℕ → ℕ → ℕ → ℕ
halves w bb bt tb tt = pick (is_set w 5) (half w tb tt) (half w bb bt)

-- "if d == 15 then ALUWritePC(result)", "if t == 15 then .. LoadWritePC(data)"
abbrev pub writes_pc : ℕ → Flow
writes_pc w = pick (eqb (field w 12 4) 15) IndirectBranch Next

-- 01: a branch to register 14 is a return
abbrev pub branches_to : ℕ → Flow
branches_to m = pick (eqb m 14) Return IndirectBranch

-- A8.4.3, SRType
pub data SRType : Type 0 where
  SRType·LSL : SRType
  SRType·LSR : SRType
  SRType·ASR : SRType
  SRType·ROR : SRType
  SRType·RRX : SRType

pub record Shifting : Type 0 where
  pub shift_t : SRType
  pub shift_n : ℕ

abbrev by : SRType → ℕ → Shifting
by t n = record { shift_t = t; shift_n = n }

-- "if imm5 == '00000' then 32 else UInt(imm5)"
abbrev up_to32 : ℕ → ℕ
up_to32 imm5 = pick (eqb imm5 0) 32 imm5

-- A8.4.3, DecodeImmShift(type, imm5)
abbrev pub DecodeImmShift : ℕ → ℕ → Shifting
DecodeImmShift type imm5 =
    pick (eqb type 0) (by SRType·LSL imm5)
    (pick (eqb type 1) (by SRType·LSR (up_to32 imm5))
    (pick (eqb type 2) (by SRType·ASR (up_to32 imm5))
    (pick (eqb imm5 0) (by SRType·RRX 1) (by SRType·ROR imm5))))

-- A8.4.3, DecodeRegShift(type)
abbrev pub DecodeRegShift : ℕ → Shift
DecodeRegShift type = pick (eqb type 0) Lsl (pick (eqb type 1) Lsr (pick (eqb type 2) Asr Ror))

-- Shift(R[m], shift_t, shift_n); 01 has a shift by none as the register alone, and RRX as a rotation by 0
abbrev pub shifted_by : ℕ → SRType → ℕ → Operand
shifted_by m SRType·LSL n = pick (eqb n 0) (Register (record { 0 = m })) (Shifted (record { 0 = m }) Lsl n)
shifted_by m SRType·LSR n = Shifted (record { 0 = m }) Lsr n
shifted_by m SRType·ASR n = Shifted (record { 0 = m }) Asr n
shifted_by m SRType·ROR n = Shifted (record { 0 = m }) Ror n
shifted_by m SRType·RRX n = Shifted (record { 0 = m }) Ror 0

-- "m = UInt(Rm)", "(shift_t, shift_n) = DecodeImmShift(type, imm5)"
unfoldable pub shifted : ℕ → Operand
shifted w = shifted_by (field w 0 4) s.shift_t s.shift_n
  where
    s : Shifting
    s = DecodeImmShift (field w 5 2) (field w 7 5)

-- "m = UInt(Rm)", "s = UInt(Rs)", "shift_t = DecodeRegShift(type)"
abbrev pub register_shifted : ℕ → List Operand
register_shifted w = R w 0 ∷ ShiftBy (DecodeRegShift (field w 5 2)) (record { 0 = field w 8 4 }) ∷ []

-- "(-, shift_n) = DecodeImmShift(.., imm5)" of the immediate shifts
abbrev pub shift_count : ℕ → Operand
shift_count w = Count (pos (DecodeImmShift (field w 5 2) (field w 7 5)).shift_n)

-- A2.2.1: ROR(x, n) of 32 bits, LSR(x, n) OR LSL(x, 32 - n)
abbrev pub ROR : ℕ → ℕ → ℕ
ROR x n = x / 2 ^ n + x * 2 ^ (32 - n) % 2 ^ 32

-- A5.2.4, ARMExpandImm(imm12): "unrotated_value = ZeroExtend(imm12<7:0>, 32)", rotated right by 2*UInt(imm12<11:8>)
unfoldable pub ARMExpandImm : ℕ → ℕ
ARMExpandImm imm12 = ROR (imm12 % 2 ^ 8) (2 * (imm12 / 2 ^ 8))

-- a constant; where a smaller rotation would do, A5.2.4 has it as "#<byte>, #<rot>"
abbrev pub constant : ℕ → Bool → List Operand
constant w unsigned =
    pick (least_of imm12)
    (Count (count_of unsigned (ARMExpandImm imm12)) ∷ [])
    (Count (pos (imm12 % 2 ^ 8)) ∷ Count (pos (2 * (imm12 / 2 ^ 8))) ∷ [])
  where
    imm12 : ℕ
    imm12 = field w 0 12

-- A2.2.1: SignExtend(x, 32) of n bits: TopBit(x), repeated above x
abbrev pub SignExtend : ℕ → ℕ → ℕ
SignExtend x n = x / 2 ^ (n - 1) * (2 ^ 32 - 2 ^ n) + x

-- A8: "index = (P == '1')", "wback = (P == '0') || (W == '1')"
abbrev pub addressing : ℕ → AddrMode
addressing w = pick (is_set w 24) (pick (is_set w 21) PreIndex Offset) PostIndex

-- "add = (U == '1')", and imm32
abbrev pub offset : ℕ → ℕ → ℤ
offset w imm32 = pick (is_set w 23) (pos imm32) (minus imm32)

-- A8.5: "#0 and #-0 .. different instructions"
abbrev pub is_minus_zero : ℕ → ℕ → Bool
is_minus_zero w imm32 = both (not (is_set w 23)) (eqb imm32 0)

-- MemU[address, size], with the address from R[n] and an offset. That a form is shown in base ten is 01's
abbrev pub memory : ℕ → Index → ℤ → AddrMode → ℕ → Bool → Bool → Operand
memory n index disp mode size decimal minus_zero =
    Memory (record { base = record { 0 = n }; index = index; disp = disp; mode = mode; size = size; decimal = decimal; minus_zero = minus_zero })

abbrev pub is_post : AddrMode → Bool
is_post Offset = false
is_post PreIndex = false
is_post PostIndex = true

-- R[m], shifted left
abbrev pub indexed : ℕ → ℕ → Index
indexed m n = Some ((record { 0 = m }), n)

-- "(shift_t, shift_n) = DecodeImmShift(sh:'0', imm5)" of the saturates; a shift by none is not shown
abbrev pub saturated_by : SRType → ℕ → Operand
saturated_by SRType·LSL n = pick (eqb n 0) Empty (SaturateShift Lsl n)
saturated_by SRType·LSR n = SaturateShift Lsr n
saturated_by SRType·ASR n = SaturateShift Asr n
saturated_by SRType·ROR n = SaturateShift Ror n
saturated_by SRType·RRX n = SaturateShift Ror 0

unfoldable pub saturate_shift : ℕ → Operand
saturate_shift w = saturated_by s.shift_t s.shift_n
  where
    s : Shifting
    s = DecodeImmShift (field w 6 1 * 2) (field w 7 5)

-- "rotation = UInt(rotate:'000')"; none is not shown
abbrev pub rotation : ℕ → Operand
rotation w = pick (eqb (field w 10 2) 0) Empty (Rotate (field w 10 2 * 8))
