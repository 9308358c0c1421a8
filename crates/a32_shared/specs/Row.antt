-- How a row reads: tests on fields of the word, and an answer made of them.
use Rattle.std.specs.Prelude.{Bool, true, List, [], ◌∷◌, ℕ, eqb, nat_lt}
use Rattle.word.specs.Field.{field}
use Rattle.word.specs.Layout.{joined}
use Rattle.word.specs.Choice.{pick, both}
use Rattle.word.specs.Refusal.{NO_ROW}
use Rattle.insn.specs.Answer.{insn_of, places, accepted, refused}
use Rattle.insn.specs.declared.Cond.{Cond}
use Rattle.insn.specs.declared.Reg.{Reg}
use Rattle.insn.specs.declared.Flow.{Flow}
use Rattle.insn.specs.declared.Flow.TheVariants.{Next, IndirectBranch}
use Rattle.insn.specs.declared.Operand.{Operand}
use Rattle.insn.specs.declared.Operand.TheVariants.{Register, StatusMask}
use Rattle.insn.specs.Answer.{Decoded}

-- "Rd 15:12, Rn 19:16, Rs 11:8, Rm 3:0 unless said": the lowest bit of each
abbrev pub rd : ℕ
rd = 12

abbrev pub rn : ℕ
rn = 16

abbrev pub rs : ℕ
rs = 8

abbrev pub rm : ℕ
rm = 0

-- the register that the four bits of w from place lo on name
abbrev pub register_of : ℕ → ℕ → Reg
register_of w lo = record { 0 = field w lo 4 }

abbrev pub reg_of : ℕ → ℕ → Operand
reg_of w lo = Register (register_of w lo)

-- each number is below a bound
abbrev pub all_below : ℕ → List ℕ → Bool
all_below m [] = true
all_below m (n ∷ ns) = both (nat_lt n m) (all_below m ns)

-- "condition (the word's own 31:28)"
abbrev pub cond_of : ℕ → Cond
cond_of w = record { 0 = field w 28 4 }

-- "S (bit 20) adds `s`"
abbrev pub by_s : ℕ → ℕ → ℕ → ℕ
by_s w plain s = pick (eqb (field w 20 1) 0) plain s

-- "mask bit 22 then 19:16"
abbrev pub mask_of : ℕ → Operand
mask_of w = StatusMask (joined w 22 1 16 4)

-- "Flow with Rd 15: indirect branch"
abbrev pub pc_flow : ℕ → Flow
pc_flow w = pick (eqb (field w rd 4) 15) IndirectBranch Next

-- a word that is accepted, with its name, flow and operands
abbrev pub answer : ℕ → ℕ → ℕ → Flow → List Operand → Decoded
answer w addr name flow ops = accepted (insn_of addr name (cond_of w) flow (places ops))

-- a word that no row accepts
abbrev pub no_row : Decoded
no_row = refused NO_ROW

-- a row of a table: the answer at a field's value
pub record At : Type 0 where
  pub value : ℕ
  pub gives : Decoded

infix 70 ◌⇒◌
abbrev pub ◌⇒◌ : ℕ → Decoded → At
n ⇒ a = record { value = n; gives = a }

-- the answer of the row at n, or no row
abbrev pub among : ℕ → List At → Decoded
among n [] = no_row
among n (a ∷ rows) = pick (eqb n a.value) a.gives (among n rows)
