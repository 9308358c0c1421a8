-- What a walk answers, and what it leaves in the lent buffer (02, P7).
use Rattle.std.specs.Prelude.{◌≡◌, Bool, List, ℕ, ◌/◌, ◌<◌, eqb, leb, ltb, length, Result, Ok, Err}
use Rattle.word.specs.Choice.{pick}
use Rattle.word.specs.Refusal.{NO_PLACE, NO_ROOM, refused_with, refusing}
use Rattle.word.specs.declared.refusal.Refusal.{Refusal}
use Rattle.text.specs.Fits.{last_of}
use Rattle.section.specs.Section.{opened_of, opening_of}
use Rattle.walk_marks.specs.Marks.{how_many}
use Rattle.walk_steps.specs.Steps.{steps_of}
use Rattle.walk.specs.Reached.{Exact}
use Rattle.walk.specs.Report.{report_of}
use Rattle.walk.specs.declared.Walked.{Walked}

-- what a walk answers
abbrev pub Answer : Type 0
Answer = Result Walked Refusal

-- its numbers, zeros where it is refused
abbrev pub walked_in : Answer → Walked
walked_in (Ok w) = w
walked_in (Err r) = record { records = 0; words = 0 }

abbrev pub refused_by : ℕ → Answer
refused_by n = refusing n

-- the refusals before a walk: the section's own, then the entry's, "tested after the section is accepted"; 0 if there is none
abbrev pub refusal_of : List ℕ → ℕ → ℕ
refusal_of s entry = pick (eqb (refused_with (opened_of s)) 0) (pick (ltb entry (opening_of s).count) 0 NO_PLACE) (refused_with (opened_of s))

-- the numbers of a walk's records, three each, and of the words taken up; "then 10 when the report doesn't fit its lent buffer"
unfoldable pub answer_of : List ℕ → ℕ → List ℕ → Answer
answer_of report words out =
    pick (leb (length report) (length out)) (Ok (record { records = length report / 3; words = words })) (refused_by NO_ROOM)

-- the walk of a section from an entry place: with marks on exactly what is reached, for as many places as a section can have, the answer gives the
-- number of records and of what is reached, and `out` has become `last`, with the records at its start and nothing else changed
pub record Reported (s : List ℕ) (entry : ℕ) (out : List ℕ) (r : Answer) (last : List ℕ) : Type 0 where
  pub marks : List Bool
  pub long : length marks ≡ 4096
  pub exact : Exact (steps_of s) entry marks
  pub answer : r ≡ answer_of (report_of s marks) (how_many marks) out
  pub left : last ≡ last_of (report_of s marks) out

-- a refusal is its number alone, and changes nothing
pub record Walks (s : List ℕ) (entry : ℕ) (out : List ℕ) (r : Answer) (last : List ℕ) : Type 0 where
  pub refused : 0 < refusal_of s entry → (r ≡ refused_by (refusal_of s entry)) × (last ≡ out)
  pub reported : refusal_of s entry ≡ 0 → Reported s entry out r last
