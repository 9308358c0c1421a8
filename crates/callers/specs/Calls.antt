-- The direct calls of a section, and the index of them (02, P12).
use Rattle.std.specs.Prelude.{◌≡◌, ℕ, Option, Some, None, Ok, Err}
use mathlib.Core.List.{List, [], foldl}
use Rattle.word.specs.Refusal.{refused_with}
use Rattle.insn.specs.Answer.{Decoded, insn_in}
use Rattle.insn.specs.declared.Flow.{Flow}
use Rattle.insn.specs.declared.Flow.TheVariants.{Next, Branch, CondBranch, IndirectBranch, Call, IndirectCall, Return, Trap}
use Rattle.a32.specs.Decode.{decode_of}
use Rattle.section.specs.Section.{places_of, here_of}
use Rattle.section.specs.declared.Here.{Here}
use Rattle.section.specs.declared.Here.TheVariants.{Word, Data, End}
use Rattle.callers_index.specs.Entries.{enter_of}
use Rattle.callers_index.specs.declared.Entry.{Entry}

-- "direct calls": those whose flow is call
abbrev pub flow_callee : Flow → Option ℕ
flow_callee Next = None
flow_callee (Branch to) = None
flow_callee (CondBranch to) = None
flow_callee IndirectBranch = None
flow_callee (Call to) = Some to
flow_callee IndirectCall = None
flow_callee Return = None
flow_callee Trap = None

abbrev pub answer_callee : Decoded → Option ℕ
answer_callee (Ok insn) = flow_callee insn.flow
answer_callee (Err refusal) = None

-- "Data words are never calls"
abbrev pub callee_here : Here → Option ℕ
callee_here (Word word address) = answer_callee (decode_of word address)
callee_here (Data word address) = None
callee_here End = None

abbrev pub address_here : Here → ℕ
address_here (Word word address) = address
address_here (Data word address) = address
address_here End = 0

-- "an index of direct calls": what stands at each place is put in, if it is one
abbrev pub add_here : List Entry → Here → List Entry
add_here l here = enter_of (address_here here) (callee_here here) l

unfoldable pub index_of : List ℕ → List Entry
index_of s = foldl add_here [] (places_of s)

-- a call of a section, without the index: a word at the caller's address is accepted, and its flow is a call of the target
pub record IsCall (s : List ℕ) (e : Entry) : Type 0 where
  pub place : ℕ
  pub word : ℕ
  pub stands : here_of s place ≡ Word word e.caller
  pub named : refused_with (decode_of word e.caller) ≡ 0
  pub calls : (insn_in (decode_of word e.caller)).flow ≡ Call e.target
