-- Which answers branch to an address (02, P2).
use Rattle.std.specs.Prelude.{Bool, true, false, eqb}
use Rattle.word.specs.Refusal.{refused_with}
use Rattle.word.specs.Choice.{pick}
use Rattle.insn.specs.Roots.{name}
use Rattle.insn.specs.Answer.{Decoded, insn_in}
use Rattle.insn.specs.declared.Flow.{Flow}
use Rattle.insn.specs.declared.Flow.TheVariants.{Next, Branch, CondBranch, IndirectBranch, Call, IndirectCall, Return, Trap}
use Rattle.insn.specs.declared.Insn.{Insn}

abbrev pub is_branch : Flow → Bool
is_branch Next = false
is_branch (Branch a) = true
is_branch (CondBranch a) = true
is_branch IndirectBranch = false
is_branch (Call a) = false
is_branch IndirectCall = false
is_branch Return = false
is_branch Trap = false

-- "an unlinked b is branch at 14 and conditional branch otherwise": what has either flow is a b
abbrev pub is_only_b : Insn → Bool
is_only_b i = pick (is_branch i.flow) (eqb i.name (name "b")) true

unfoldable pub only_b : Decoded → Bool
only_b d = pick (eqb (refused_with d) 0) (is_only_b (insn_in d)) true
