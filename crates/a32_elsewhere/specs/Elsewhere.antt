-- An answer as it stands at another address.
use Rattle.std.specs.Prelude.{[], ◌∷◌, ℕ, ◌+◌, ◌-◌, ◌%◌, ◌^◌, eqb}
use Rattle.word.specs.Refusal.{refused_with}
use Rattle.word.specs.Choice.{pick}
use Rattle.insn.specs.Answer.{insn_of, places, accepted, insn_in}
use Rattle.insn.specs.Numbers.{flow_target}
use Rattle.insn.specs.Answer.{Decoded}
use Rattle.insn.specs.declared.Flow.{Flow}
use Rattle.insn.specs.declared.Flow.TheVariants.{Next, Branch, CondBranch, IndirectBranch, Call, IndirectCall, Return, Trap}
use Rattle.insn.specs.declared.Operand.TheVariants.{Address}

-- 01: "address (64 bits, as given)". An answer with another address; a refusal has none
unfoldable pub at : ℕ → Decoded → Decoded
at b d = pick (eqb (refused_with d) 0) (accepted (insn_of b (insn_in d).name (insn_in d).cond (insn_in d).flow (insn_in d).ops)) d

-- "the low 32 bits of address + 8 + 4 x signed 23:0": as far from b as `to` is from a
abbrev pub onward : ℕ → ℕ → ℕ → ℕ
onward a b to = (b + (to + 2 ^ 32 - a % 2 ^ 32)) % 2 ^ 32

abbrev pub flow_from : ℕ → ℕ → Flow → Flow
flow_from a b Next = Next
flow_from a b (Branch to) = Branch (onward a b to)
flow_from a b (CondBranch to) = CondBranch (onward a b to)
flow_from a b IndirectBranch = IndirectBranch
flow_from a b (Call to) = Call (onward a b to)
flow_from a b IndirectCall = IndirectCall
flow_from a b Return = Return
flow_from a b Trap = Trap

-- a branch from a, as it stands at b: with that address, and with its target moved as far, in the flow and as the operand
unfoldable pub moved : ℕ → ℕ → Decoded → Decoded
moved a b d =
    accepted
    (insn_of b (insn_in d).name (insn_in d).cond (flow_from a b (insn_in d).flow)
    (places (Address (onward a b (flow_target (insn_in d).flow)) ∷ [])))
