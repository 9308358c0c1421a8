-- The word of a data processing instruction, from its answer.
use Rattle.std.specs.Prelude.{Bool, true, false, List, [], ◌∷◌, ℕ, ◌+◌, ◌-◌, ◌*◌, ◌/◌, ◌%◌, eqb, leb, ltb, get_or}
use Rattle.word.specs.Choice.{pick, both}
use Rattle.word.specs.Layout.{join}
use Rattle.a32_imm.specs.Imm.{least_from}
use Rattle.insn.specs.Roots.{name}
use Rattle.insn.specs.declared.Flow.{Flow}
use Rattle.insn.specs.declared.Flow.TheVariants.{Next, Branch, CondBranch, IndirectBranch, Call, IndirectCall, Return, Trap}
use Rattle.insn.specs.declared.Insn.{Insn}
use Rattle.insn_parts.specs.declared.Flat.{Flat}
use Rattle.insn_parts.specs.Parts.{at, number, is_count, is_register, is_shift_by}

-- 24:21 and 20 of the names and .. mvns; compares set the flags
abbrev pub operation : ℕ → ℕ
operation n = pick (ltb n 16) n (get_or (0 ∷ 1 ∷ 2 ∷ 3 ∷ 4 ∷ 5 ∷ 6 ∷ 7 ∷ 12 ∷ 13 ∷ 14 ∷ 15 ∷ []) (n - 16) 0)

abbrev pub setting : ℕ → ℕ
setting n = pick (ltb n 8) 0 (pick (ltb n 12) 1 (pick (ltb n 16) 0 1))

-- 11:0 of a register that is shifted by an amount, rm 0 ty imm5, or by a register, rm 1 ty 0 rs, from bit 0 up
abbrev pub amount_layout : List ℕ
amount_layout = 4 ∷ 1 ∷ 2 ∷ 5 ∷ []

abbrev pub by_amount : ℕ → ℕ → ℕ → ℕ
by_amount rm ty n = join amount_layout (rm ∷ 0 ∷ ty ∷ n ∷ [])

abbrev pub register_layout : List ℕ
register_layout = 4 ∷ 1 ∷ 2 ∷ 1 ∷ 4 ∷ []

abbrev pub by_register : ℕ → ℕ → ℕ → ℕ
by_register rm ty rs = join register_layout (rm ∷ 1 ∷ ty ∷ 0 ∷ rs ∷ [])

-- the immediate of one count or two
unfoldable pub imm12 : Flat → Flat → ℕ
imm12 value turn = pick (is_count turn) (256 * (number turn / 2) + number value) (least_from 16 0 (number value))

-- 11:0 of a source that takes one operand or two, and whether it is an immediate
unfoldable pub source12 : Flat → Flat → ℕ
source12 source by =
    pick (is_count source) (imm12 source by)
    (pick (is_shift_by by)
    (by_register source.reg by.how by.reg)
    (by_amount source.reg source.how (source.amount % 32)))

abbrev pub immediate : Flat → ℕ
immediate source = pick (is_count source) 1 0

-- 11:0 rd rn s op 00i cond, from bit 0 up
abbrev pub layout : List ℕ
layout = 12 ∷ 4 ∷ 4 ∷ 1 ∷ 4 ∷ 3 ∷ 4 ∷ []

abbrev pub laid : Insn → ℕ → ℕ → ℕ → ℕ → ℕ → ℕ → ℕ
laid i low rd rn s op imm = join layout (low ∷ rd ∷ rn ∷ s ∷ op ∷ imm ∷ i.cond.0 ∷ [])

abbrev pub sourced : Insn → ℕ → ℕ → ℕ → ℕ → Flat → Flat → ℕ
sourced i rd rn op s source by = laid i (source12 source by) rd rn s op (immediate source)

abbrev pub is_indirect : Flow → Bool
is_indirect Next = false
is_indirect (Branch a) = false
is_indirect (CondBranch a) = false
is_indirect IndirectBranch = true
is_indirect (Call a) = false
is_indirect IndirectCall = false
is_indirect Return = false
is_indirect Trap = false

-- a compare with Rd 15 is one that branches; mov and mvn have no Rn
abbrev pub operation_word : Insn → ℕ → ℕ → ℕ
operation_word i op s =
    pick (both (leb 8 op) (leb op 11))
    (sourced i (pick (is_indirect i.flow) 15 0) (at i 0).reg op s (at i 1) (at i 2))
    (pick (eqb op 13)
    (sourced i (at i 0).reg 0 op s (at i 1) (at i 2))
    (pick (eqb op 15)
    (sourced i (at i 0).reg 0 op s (at i 1) (at i 2))
    (sourced i (at i 0).reg (at i 1).reg op s (at i 2) (at i 3))))

-- 11:0 of Rm shifted by a count, by a register, or through the carry
unfoldable pub shift12 : ℕ → ℕ → Flat → ℕ
shift12 rm ty by = pick (is_register by) (by_register rm ty by.reg) (by_amount rm ty (number by % 32))

-- a shift's name is a mov
abbrev pub shift_word : Insn → ℕ → ℕ → ℕ
shift_word i ty s = laid i (shift12 (at i 1).reg ty (at i 2)) (at i 0).reg 0 s 13 0

-- and .. mvns, lsl .. ror, lsls .. rors, rrxs, rrx
abbrev pub dp_word : Insn → ℕ
dp_word i =
    pick (ltb i.name (name "lsl")) (operation_word i (operation i.name) (setting i.name))
    (pick (ltb i.name (name "lsls")) (shift_word i (i.name - name "lsl") 0)
    (pick (ltb i.name (name "rrxs")) (shift_word i (i.name - name "lsls") 1)
    (pick (eqb i.name (name "rrxs")) (shift_word i 3 1) (shift_word i 3 0))))

-- imm12 rd imm4 op 001 cond
abbrev pub wide_layout : List ℕ
wide_layout = 12 ∷ 4 ∷ 4 ∷ 5 ∷ 3 ∷ 4 ∷ []

-- hint 0000 1111 0000 10010 001 cond
abbrev pub hint_layout : List ℕ
hint_layout = 8 ∷ 4 ∷ 4 ∷ 4 ∷ 5 ∷ 3 ∷ 4 ∷ []

-- movt, movw, nop, yield, wfe, wfi, sev
abbrev pub wide_word : Insn → ℕ
wide_word i =
    pick (ltb i.name (name "nop"))
    (join wide_layout (number (at i 1) % 4096 ∷ (at i 0).reg ∷ number (at i 1) / 4096 ∷ pick (eqb i.name (name "movw")) 16 20 ∷ 1 ∷ i.cond.0 ∷ []))
    (join hint_layout ((i.name - name "nop") ∷ 0 ∷ 15 ∷ 0 ∷ 18 ∷ 1 ∷ i.cond.0 ∷ []))

-- imm12 rd mask 10 r 10 001 cond
abbrev pub msr_layout : List ℕ
msr_layout = 12 ∷ 4 ∷ 4 ∷ 2 ∷ 1 ∷ 2 ∷ 3 ∷ 4 ∷ []

abbrev pub msr_immediate_word : Insn → ℕ
msr_immediate_word i =
    join msr_layout (imm12 (at i 1) (at i 2) ∷ 0 ∷ (at i 0).amount % 16 ∷ 2 ∷ (at i 0).amount / 16 ∷ 2 ∷ 1 ∷ i.cond.0 ∷ [])
