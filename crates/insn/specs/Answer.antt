-- What the decoder answers, as values (01, "What is built" and "Refusal numbers").
use Rattle.std.specs.Prelude.{◌≡◌, refl, List, [], ◌∷◌, ◌++◌, map, ℕ, ◌-◌, length, get_or, set, replicate, Result, Ok, Err}
use Rattle.word.specs.declared.refusal.Refusal.{Refusal}
use Rattle.word.specs.Refusal.{refused_with, refusing, not_refused}
use Rattle.insn.specs.declared.Cond.{Cond}
use Rattle.insn.specs.declared.Place.{Place}
use Rattle.insn.specs.declared.Flow.{Flow}
use Rattle.insn.specs.declared.Flow.TheVariants.{Next}
use Rattle.insn.specs.declared.Operand.{Operand}
use Rattle.insn.specs.declared.Operand.TheVariants.{Empty}
use Rattle.insn.specs.declared.Insn.{Insn}

-- how many operand places an instruction has: "every instruction value grows from four places to six" (02, P9)
abbrev pub PLACES : ℕ
PLACES = 6

-- a place with an operand, and one that is not used
abbrev pub used : Operand → Place
used o = record { operand = o }

abbrev pub unused : Place
unused = used Empty

-- each operand at a place of its own, then unused ones, PLACES in all. No operand is dropped: more than PLACES are a longer list, which no
-- instruction value has
abbrev pub places : List Operand → List Place
places os = map used os ++ replicate (PLACES - length os) unused

-- place n
abbrev pub place_at : List Place → ℕ → Place
place_at ps n = get_or ps n unused

-- the numbers of each operand, place after place
abbrev pub spread : (Operand → List ℕ) → List Place → List ℕ
spread f [] = []
spread f (p ∷ ps) = f p.operand ++ spread f ps

abbrev pub insn_of : ℕ → ℕ → Cond → Flow → List Place → Insn
insn_of a n c f o = record { addr = a; name = n; cond = c; flow = f; ops = o }

abbrev pub empty : ℕ → ℕ → Cond → Flow → Insn
empty a n c f = insn_of a n c f (places [])

-- an instruction with its operand place n filled
abbrev pub filled : Insn → ℕ → Operand → Insn
filled i n o = insn_of i.addr i.name i.cond i.flow (set i.ops n (used o))

-- what the decoder answers: an instruction, or a refusal
abbrev pub Decoded : Type 0
Decoded = Result Insn Refusal

abbrev pub accepted : Insn → Decoded
accepted i = Ok i

-- a refusal, by its number
abbrev pub refused : ℕ → Decoded
refused n = refusing n

-- the instruction of an answer; beside a refusal one of zeros and empty operands
abbrev pub insn_in : Decoded → Insn
insn_in (Ok i) = i
insn_in (Err r) = empty 0 0 (record { 0 = 0 }) Next

-- an answer that is not refused is its instruction
pub accepted_of : (d : Decoded) → refused_with d ≡ 0 → d ≡ accepted (insn_in d)
accepted_of (Ok i) ok = refl
accepted_of (Err r) none = not_refused r none
