-- What the functions for other languages give and leave.
use Rattle.std.specs.Prelude.{◌≡◌, Result, Ok, Err, List, [], ◌∷◌, ℕ, ◌+◌, ◌*◌, ◌^◌, eqb, get_or}
use Rattle.word.specs.Choice.{pick, both}
use Rattle.word.specs.Refusal.{NO_PLACE, NO_WORD, number, refused_with}
use Rattle.word.specs.declared.refusal.Refusal.{Refusal}
use Rattle.insn.specs.Answer.{Decoded, insn_in}
use Rattle.a32.specs.Decode.{decode_of}
use Rattle.encode_home.specs.declared.Filler.{Filler}
use Rattle.encode_words.specs.Candidate.{candidate}
use Rattle.encode.specs.Encode.{home_answer}
use Rattle.insn_value.specs.Value.{insn_from}
use Rattle.word_packed.specs.Packed.{packed, packed_as, packed_answer}
use Rattle.text.specs.Fits.{answer_of, last_of}
use Rattle.section.specs.Section.{refusal_of, is_end, here_of}
use Rattle.section.specs.declared.Here.{Here}
use Rattle.section.specs.declared.Here.TheVariants.{Word, Data, End}
use Rattle.section_convert.specs.Convert.{given_of}
use Rattle.section_convert.specs.declared.Target.{Target}
use Rattle.callers_index.specs.Entries.{found_of, left_of}
use Rattle.callers.specs.Index.{Builds, Replaces}
use Rattle.home_form.specs.HomeForm.{PutsHome}
use Rattle.home_form.specs.declared.Changed.{Changed}
use Rattle.walk.specs.Walk.{Walks}
use Rattle.walk.specs.declared.Walked.{Walked}
use Rattle.patch.specs.declared.Found.{Found}
use Rattle.patch.specs.declared.Found.TheVariants.{Patch, Section}
use Rattle.patched.specs.Patched.{patched_given}
use Rattle.rule_verdict.specs.Verdicts.{Rules}
use Rattle.rule_verdict.specs.Verdicts as V
use Rattle.rule_verdict.specs.declared.Verdict.{Verdict}
use Rattle.insn_row.specs.Row.{ROW, row_of, numbers_of, holds}

-- 3.5.0
abbrev pub VERSION : ℕ
VERSION = 30500

-- an answer's refusal; or, of an accepted one, 10 if its row is longer than what is lent
abbrev pub row_refusal : Decoded → List ℕ → ℕ
row_refusal d out = pick (eqb (refused_with d) 0) (refused_with (answer_of (row_of (insn_in d)) out)) (refused_with d)

-- the row of an accepted answer stands at the start; a refusal changes nothing
abbrev pub row_last : Decoded → List ℕ → List ℕ
row_last d out = pick (eqb (refused_with d) 0) (last_of (row_of (insn_in d)) out) out

-- the first numbers of a row, as many as a row has: beyond its end there are zeros
abbrev pub whole : List ℕ → List ℕ
whole row = numbers_of row 0 ROW

-- the row is that of a word's answer at the address that stands in it
pub record Answers (w : ℕ) (row : List ℕ) : Type 0 where
  pub accepted : refused_with (decode_of w (get_or row 0 0)) ≡ 0
  pub equal : row_of (insn_in (decode_of w (get_or row 0 0))) ≡ whole row

-- the word w, if its answer d has this row, or refusal 4
abbrev pub checked : List ℕ → ℕ → Decoded → ℕ
checked row w d = pick (both (eqb (refused_with d) 0) (holds row 0 (row_of (insn_in d)))) (packed 0 w) (packed NO_WORD 0)

-- the word that the row's value leads to, if its answer at the row's address has this row; if it has not, no word's has (`encodes-exactly`)
abbrev pub encoded_of : Filler → List ℕ → ℕ
encoded_of c row = checked row (candidate c (insn_from row)) (decode_of (candidate c (insn_from row)) (get_or row 0 0))

abbrev pub homed_of : Filler → ℕ → ℕ
homed_of c w = packed_answer (home_answer c w)

-- the length of a text, or 10 if it is longer than what is lent
abbrev pub written_of : List ℕ → List ℕ → ℕ
written_of text out = packed_answer (answer_of text out)

-- what stands at a place, in three numbers: its address, the word, and 1 if it is data; at the end there are none
abbrev pub here_row : Here → List ℕ
here_row (Word word address) = address ∷ word ∷ 0 ∷ []
here_row (Data word address) = address ∷ word ∷ 1 ∷ []
here_row End = []

-- 13 at the end; else 10 if fewer numbers are lent
abbrev pub here_refusal : Here → List ℕ → ℕ
here_refusal here out = pick (is_end here) NO_PLACE (refused_with (answer_of (here_row here) out))

-- a section's own refusal comes first
abbrev pub place_refusal : List ℕ → ℕ → List ℕ → ℕ
place_refusal s place out = pick (eqb (refusal_of s) 0) (here_refusal (here_of s place) out) (refusal_of s)

-- the numbers stand at the start; a section that is refused has no places, so nothing changes
abbrev pub place_last : List ℕ → ℕ → List ℕ → List ℕ
place_last s place out = last_of (here_row (here_of s place)) out

-- the length of a converted section, or the refusal's number
abbrev pub converted_to : Target → List ℕ → List ℕ → ℕ
converted_to target section out = packed_answer (given_of target section out)

-- what a walk gives and leaves: the number of its records, above 16 bits the words taken up, above 32 a refusal's number
pub record WalksForC (s : List ℕ) (entry : ℕ) (out : List ℕ) (r : ℕ) (last : List ℕ) : Type 0 where
  pub walked : Result Walked Refusal
  pub walks : Walks s entry out walked last
  pub given : r ≡ packed_as (λ w. 2 ^ 16 * w.words + w.records) walked

-- which slice holds a run, 1 for the patch and 0 for the section above 16 bits, and from which of its bytes on; or a refusal's number
abbrev pub found_for_c : Result Found Refusal → ℕ
found_for_c (Ok (Patch place)) = packed 0 (2 ^ 16 + place)
found_for_c (Ok (Section place)) = packed 0 place
found_for_c (Err r) = packed (number r) 0

-- the length of a patched section, or the refusal's number
abbrev pub patched_for : List ℕ → List ℕ → List ℕ → ℕ
patched_for section patch out = packed_answer (patched_given section patch out)

-- what building, updating and looking up give and leave: the number of entries or of callers, above 32 bits a refusal's number
pub record BuildsForC (s index : List ℕ) (r : ℕ) (index' : List ℕ) : Type 0 where
  pub built : Result ℕ Refusal
  pub builds : Builds s index built index'
  pub given : r ≡ packed_answer built

pub record ReplacesForC (s : List ℕ) (place w : ℕ) (index : List ℕ) (count : ℕ) (r : ℕ) (s' index' : List ℕ) : Type 0 where
  pub updated : Result ℕ Refusal
  pub replaces : Replaces s place w index count updated s' index'
  pub given : r ≡ packed_answer updated

pub record FindsForC (index : List ℕ) (count target : ℕ) (out : List ℕ) (r : ℕ) (out' : List ℕ) : Type 0 where
  pub given : r ≡ packed_answer (found_of index count target out)
  pub left : out' ≡ left_of index count target out

-- what putting a section in its home form gives and leaves: the number of changes, above 16 bits those of the unindexed form, above 32 a refusal's
-- number
pub record PutsHomeForC (s list : List ℕ) (r : ℕ) (s' list' : List ℕ) : Type 0 where
  pub changed : Result Changed Refusal
  pub puts : PutsHome s list changed s' list'
  pub given : r ≡ packed_as (λ c. 2 ^ 16 * c.unindexed + c.changes) changed

-- what judging the rule gives and leaves: the number of places of a way, or the first open place; above 16 bits the verdict, above 32 a refusal's number
pub record JudgesForC (flags targets further entries known dist prior way : List ℕ) (r : ℕ) (known' dist' prior' way' : List ℕ) : Type 0 where
  pub judged : Result Verdict Refusal
  pub rules : Rules flags targets further entries known dist prior way known' dist' prior' way' judged
  pub given : r ≡ packed_as (λ v. 2 ^ 16 * V.number v + V.value v) judged
