-- Where a walk goes from what stands at a place, sentence by sentence (02, P7).
use Rattle.std.specs.Prelude.{Bool, true, false, List, ℕ, eqb, ltb, Option, Some, None, Ok, Err}
use Rattle.word.specs.Refusal.{number}
use Rattle.insn.specs.Roots.{name}
use Rattle.insn.specs.declared.Cond.{Cond}
use Rattle.insn.specs.Answer.{Decoded}
use Rattle.insn.specs.declared.Flow.{Flow}
use Rattle.insn.specs.declared.Flow.TheVariants.{Next, Branch, CondBranch, IndirectBranch, Call, IndirectCall, Return, Trap}
use Rattle.a32.specs.Decode.{decode_of}
use Rattle.section.specs.Section.{here_of}
use Rattle.section.specs.declared.Here.{Here}
use Rattle.section.specs.declared.Here.TheVariants.{Word, Data as DataHere, End}
use Rattle.walk_steps.specs.declared.Leads.{Leads}
use Rattle.walk_steps.specs.declared.Stop.{Stop}
use Rattle.walk_steps.specs.declared.Stop.TheVariants.{Data, Refused}
use Rattle.walk_steps.specs.declared.Target.{Target}

-- a word without a direct target: whether it goes on, and whether it goes where a register says
abbrev pub goes_on : ℕ → Bool → Bool → Leads
goes_on w on unknown = record { word = w; on = on; to = None; unknown = unknown; stop = None }

-- one with: whether it goes on too, and whether the target enters Thumb
abbrev pub goes_to : ℕ → Bool → Bool → ℕ → Leads
goes_to w on thumb target = record { word = w; on = on; to = Some (record { addr = target; thumb = thumb }); unknown = false; stop = None }

-- one where the walk stops
abbrev pub stops : ℕ → Stop → Leads
stops w stop = record { word = w; on = false; to = None; unknown = false; stop = Some stop }

-- the address of the target, if there is one, and whether it enters Thumb
abbrev pub target_addr : Option Target → ℕ
target_addr (Some t) = t.addr
target_addr None = 0

abbrev pub enters_thumb : Option Target → Bool
enters_thumb (Some t) = t.thumb
enters_thumb None = false

-- the number of the refusal that the walk stops at, or 0
abbrev pub stop_number : Option Stop → ℕ
stop_number (Some (Refused r)) = number r
stop_number (Some Data) = 0
stop_number None = 0

-- "return, trap and indirect branch stop, except that under a condition below 14 they also go on"
abbrev pub perhaps : Cond → Bool
perhaps cond = ltb cond.0 14

-- "Next goes on; branch goes to its target; conditional branch and call go both ways; an indirect call goes on; `blx` to an address enters Thumb, so
-- it goes on and its target is listed but not followed"; "Indirect branches and calls are listed as unknown"
abbrev pub flow_leads : ℕ → ℕ → Cond → Flow → Leads
flow_leads w root cond Next = goes_on w true false
flow_leads w root cond (Branch to) = goes_to w false false to
flow_leads w root cond (CondBranch to) = goes_to w true false to
flow_leads w root cond IndirectBranch = goes_on w (perhaps cond) true
flow_leads w root cond (Call to) = goes_to w true (eqb root (name "blx")) to
flow_leads w root cond IndirectCall = goes_on w true true
flow_leads w root cond Return = goes_on w (perhaps cond) false
flow_leads w root cond Trap = goes_on w (perhaps cond) false

-- "Refused and data words stop"
abbrev pub answer_leads : ℕ → Decoded → Leads
answer_leads w (Ok i) = flow_leads w i.name i.cond i.flow
answer_leads w (Err r) = stops w (Refused r)

abbrev pub here_leads : Here → Leads
here_leads (Word word address) = answer_leads word (decode_of word address)
here_leads (DataHere word address) = stops word Data
here_leads End = goes_on 0 false false

unfoldable pub leads_at : List ℕ → ℕ → Leads
leads_at s p = here_leads (here_of s p)
