-- What a report without a way out says (02, P7, "Is there a way out?").
use Rattle.std.specs.Prelude.{◌≡◌, List, [], ◌∷◌, ℕ, ◌+◌, ◌*◌, ◌<◌}
use Rattle.word.specs.Refusal.{refused_with}
use Rattle.insn.specs.Answer.{insn_in}
use Rattle.insn.specs.Roots.{name}
use Rattle.insn.specs.declared.Cond.{Cond}
use Rattle.insn.specs.declared.Flow.{Flow}
use Rattle.insn.specs.declared.Flow.TheVariants.{Next, Branch, CondBranch, IndirectBranch, Call, IndirectCall, Return, Trap}
use Rattle.a32.specs.Decode.{decode_of}
use Rattle.section.specs.declared.Here.{Here}
use Rattle.section.specs.declared.Here.TheVariants.{Word, Data, End}
use Rattle.section.specs.declared.Opened.{Opened}

-- each record of a report is of kind 0
abbrev pub NoWayOut : List ℕ → Type 0
NoWayOut [] = Unit {0}
NoWayOut (place ∷ []) = Unit {0}
NoWayOut (place ∷ kind ∷ []) = Unit {0}
NoWayOut (place ∷ kind ∷ value ∷ l) = (kind ≡ 0) × NoWayOut l

-- the address of a place of the section, and the place after p
abbrev pub IsPlace : Opened → ℕ → Type 0
IsPlace o addr = (q : ℕ) × (q < o.count) × (o.base + 4 * q ≡ addr)

abbrev pub GoesOn : Opened → ℕ → Type 0
GoesOn o p = p + 1 < o.count

-- each way that an instruction at place p goes stays in the section; returns and traps alone end, and not under a condition
abbrev pub KeptFlow : Opened → ℕ → ℕ → Cond → Flow → Type 0
KeptFlow o p root cond Next = GoesOn o p
KeptFlow o p root cond (Branch to) = IsPlace o to
KeptFlow o p root cond (CondBranch to) = GoesOn o p × IsPlace o to
KeptFlow o p root cond IndirectBranch = ⊥
KeptFlow o p root cond (Call to) = (root ≡ name "blx" → ⊥) × GoesOn o p × IsPlace o to
KeptFlow o p root cond IndirectCall = ⊥
KeptFlow o p root cond Return = (cond.0 < 14 → GoesOn o p)
KeptFlow o p root cond Trap = (cond.0 < 14 → GoesOn o p)

-- what stands at place p is a word that is accepted, with such an instruction
abbrev pub Kept : Opened → ℕ → Here → Type 0
Kept o p (Word w a) =
    (refused_with (decode_of w a) ≡ 0)
    × KeptFlow o p (insn_in (decode_of w a)).name (insn_in (decode_of w a)).cond (insn_in (decode_of w a)).flow
Kept o p (Data w a) = ⊥
Kept o p End = ⊥
