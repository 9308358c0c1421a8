-- How an answer reads under another condition (02, P2).
use Rattle.std.specs.Prelude.{List, ◌++◌, ℕ, eqb}
use Rattle.word.specs.Refusal.{refused_with}
use Rattle.word.specs.Choice.{pick}
use Rattle.insn.specs.Answer.{insn_of, accepted, insn_in}
use Rattle.insn.specs.Roots.{roots}
use Rattle.insn.specs.Answer.{Decoded}
use Rattle.insn.specs.declared.Flow.{Flow}
use Rattle.insn.specs.declared.Flow.TheVariants.{Next, Branch, CondBranch, IndirectBranch, Call, IndirectCall, Return, Trap}
use Rattle.text.specs.Text.{bytes}
use Rattle.line_spelling.specs.Names.{suffixes, entry}
use Rattle.line_spelling.specs.Line.{stem_of, tail_of, places_text, flow_text, refused_text}

-- "operands, root and flow are equal, save that an unlinked b is branch at 14 and conditional branch otherwise": no other name has either
-- flow, which is `branches-are-b` of a32_every
abbrev pub flow_at : ℕ → Flow → Flow
flow_at c Next = Next
flow_at c (Branch a) = pick (eqb c 14) (Branch a) (CondBranch a)
flow_at c (CondBranch a) = pick (eqb c 14) (Branch a) (CondBranch a)
flow_at c IndirectBranch = IndirectBranch
flow_at c (Call a) = Call a
flow_at c IndirectCall = IndirectCall
flow_at c Return = Return
flow_at c Trap = Trap

-- an answer as it reads under condition c: "both are accepted or both are refused with one number"
unfoldable pub under : ℕ → Decoded → Decoded
under c d =
    pick (eqb (refused_with d) 0)
    (accepted (insn_of (insn_in d).addr (insn_in d).name (record { 0 = c }) (flow_at c (insn_in d).flow) (insn_in d).ops))
    d

-- and its text after the word: only the name's suffix, and `jump` or `jump?`, are by the condition
abbrev pub text_under : ℕ → Decoded → List ℕ
text_under c d =
    pick (eqb (refused_with d) 0)
    (entry roots (stem_of (insn_in d).name) ++ entry suffixes c ++ tail_of (insn_in d).name
    ++ places_text (insn_in d).ops ++ bytes " " ++ flow_text (flow_at c (insn_in d).flow))
    (refused_text (refused_with d))
