-- What putting a section in its home form answers, and what it leaves in what is lent (02, P14).
use Rattle.std.specs.Prelude.{◌≡◌, List, ℕ, ◌/◌, eqb, leb, length, Result, Ok}
use Rattle.word.specs.Choice.{pick}
use Rattle.word.specs.Refusal.{NO_ROOM, refused_with, refusing}
use Rattle.word.specs.declared.refusal.Refusal.{Refusal}
use Rattle.text.specs.Text.{written}
use Rattle.section.specs.Section.{opened_of}
use Rattle.home_form.specs.Home.{home_form_of}
use Rattle.home_form.specs.Changes.{changes_of, numbers_of, unindexed_among}
use Rattle.home_form.specs.declared.Change.{Change}
use Rattle.home_form.specs.declared.Changed.{Changed}

-- "those of the section, then 10 when the list of changes doesn't fit its lent buffer"; 0 if it is accepted and they fit
unfoldable pub refused_by : List ℕ → List ℕ → ℕ
refused_by s list =
    pick (eqb (refused_with (opened_of s)) 0) (pick (leb (length (changes_of s)) (length list / 3)) 0 NO_ROOM) (refused_with (opened_of s))

-- "how many there are", and how many are unindexed
abbrev pub counted : List Change → Changed
counted l = record { changes = length l; unindexed = unindexed_among l }

-- "both before any byte is written": a refusal changes nothing. Else the section is in its home form and the changes stand at the start of the list,
-- and nothing behind them changes
pub record PutsHome (s list : List ℕ) (r : Result Changed Refusal) (s' list' : List ℕ) : Type 0 where
  pub answer : r ≡ pick (eqb (refused_by s list) 0) (Ok (counted (changes_of s))) (refusing (refused_by s list))
  pub bytes : s' ≡ pick (eqb (refused_by s list) 0) (home_form_of s) s
  pub left : list' ≡ pick (eqb (refused_by s list) 0) (written list 0 (numbers_of (changes_of s))) list
