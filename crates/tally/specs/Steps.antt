-- The places of the counts, and what one word adds to them.
use Rattle.std.specs.Prelude.{ℕ, ◌+◌, ◌==◌}
use Rattle.insn.specs.Numbers.{flow_number}
use Rattle.insn.specs.declared.Insn.{Insn}
use Rattle.section.specs.declared.Here.{Here}
use Rattle.tally.specs.Kinds.{Kind, sections, words, pool, refusal, flow, root, is_of, one}

-- where the count of a kind stands, if the layout has it
abbrev pub place_of : Kind → ℕ
place_of sections = 0
place_of words = 1
place_of pool = 2
place_of (refusal n) = 1 + n
place_of (flow n) = 5 + n
place_of (root n) = 13 + n

-- one more at a place
abbrev pub at : ℕ → Kind → ℕ
at place kind = one (place_of kind == place)

-- what an instruction adds beside its being a word
abbrev pub flow_and_root : Insn → Kind → ℕ
flow_and_root i kind = at (5 + flow_number i.flow) kind + at (13 + i.name) kind

-- what stands at a place adds one to each kind that it is of
abbrev pub one_of : Here → Kind → ℕ
one_of here kind = one (is_of kind here)
