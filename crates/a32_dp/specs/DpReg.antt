-- 01, "Register data processing".
use Rattle.std.specs.Prelude.{List, [], ◌∷◌, ◌++◌, ℕ, ◌+◌, eqb, pos}
use Rattle.word.specs.Field.{field}
use Rattle.word.specs.Choice.{pick}
use Rattle.insn.specs.Answer.{filled, accepted}
use Rattle.insn.specs.Roots.{name}
use Rattle.insn.specs.Answer.{Decoded}
use Rattle.insn.specs.declared.Insn.{Insn}
use Rattle.insn.specs.declared.Flow.{Flow}
use Rattle.insn.specs.declared.Flow.TheVariants.{Next, IndirectBranch, Return}
use Rattle.insn.specs.declared.Operand.{Operand}
use Rattle.insn.specs.declared.Operand.TheVariants.{Count}
use Rattle.a32_shared.specs.Row.{rd, rn, rs, rm, reg_of, by_s, pc_flow, answer}
use Rattle.a32_shared.specs.Shifts.{amount_of, plain_of, rrx_of, shifted_of, shift_by_of}
use Rattle.a32_dp.specs.Names.{dp_name, shift_name}

-- "Bit 4 clear: Rm shifted by 11:7 ..", "Bit 4 set: Rm, then shift by Rs"
abbrev pub source_of : ℕ → List Operand
source_of w = pick (eqb (field w 4 1) 0) (shifted_of w ∷ []) (reg_of w rm ∷ shift_by_of w ∷ [])

-- the same as a step: the operand places of i from n on
abbrev pub sourced : Insn → ℕ → ℕ → Decoded
sourced i n w =
    pick (eqb (field w 4 1) 0)
    (accepted (filled i n (shifted_of w)))
    (accepted (filled (filled i n (reg_of w rm)) (n + 1) (shift_by_of w)))

-- "plain mov or movs from register 14: return"
abbrev pub mov_flow : ℕ → Flow
mov_flow w = pick (eqb (field w rd 4) 15) (pick (eqb (field w rm 4) 14) Return IndirectBranch) Next

abbrev pub mov_count_of : ℕ → ℕ → Decoded
mov_count_of w addr =
    answer w addr (shift_name w) (pc_flow w)
    (reg_of w rd ∷ reg_of w rm ∷ Count (pos (amount_of (field w 5 2) (field w 7 5))) ∷ [])

-- "Mov (13) takes the shift's name: Rd, Rm for plain `mov`, and for ror 0 as `rrx`; else Rd, Rm and the count or register Rs"
abbrev pub mov_of : ℕ → ℕ → Decoded
mov_of w addr =
    pick (eqb (field w 4 1) 0)
    (pick (plain_of w) (answer w addr (by_s w (name "mov") (name "movs")) (mov_flow w) (reg_of w rd ∷ reg_of w rm ∷ []))
    (pick (rrx_of w) (answer w addr (by_s w (name "rrx") (name "rrxs")) (pc_flow w) (reg_of w rd ∷ reg_of w rm ∷ []))
    (mov_count_of w addr)))
    (answer w addr (shift_name w) (pc_flow w) (reg_of w rd ∷ reg_of w rm ∷ reg_of w rs ∷ []))

-- "Operands Rd, Rn, source; compares (8 to 11) Rn, source; mvn (15) Rd, source", "Flow with Rd 15: indirect branch, compares included"
abbrev pub dp_reg_of : ℕ → ℕ → Decoded
dp_reg_of w addr =
    pick (eqb (field w 23 2) 2) (with_source (reg_of w rn ∷ []))
    (pick (eqb (field w 21 4) 13) (mov_of w addr)
    (pick (eqb (field w 21 4) 15) (with_source (reg_of w rd ∷ []))
    (with_source (reg_of w rd ∷ reg_of w rn ∷ []))))
  where
    with_source : List Operand → Decoded
    with_source lead = answer w addr (dp_name w) (pc_flow w) (lead ++ source_of w)
