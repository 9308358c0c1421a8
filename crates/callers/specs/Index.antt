-- What building an index and updating it with one word replaced answer, and what they leave in what is lent (02, P12).
use Rattle.std.specs.Prelude.{◌≡◌, List, ℕ, ◌+◌, ◌*◌, eqb, ltb, length, Result, Ok}
use Rattle.word.specs.Choice.{pick}
use Rattle.word.specs.Refusal.{NO_PLACE, TOO_MANY_CALLS, refused_with, refusing}
use Rattle.word.specs.declared.refusal.Refusal.{Refusal}
use Rattle.text.specs.Text.{written}
use Rattle.section.specs.Section.{opened_of, opening_of, here_of}
use Rattle.section.specs.Replaced.{replaced_of}
use Rattle.callers_index.specs.Entries.{entries_of, numbers_of, update_of, lent_refusal}
use Rattle.callers_index.specs.declared.Entry.{Entry}
use Rattle.callers.specs.Calls.{callee_here, index_of}

-- the first of two refusals
infixr 5 ◌else◌
abbrev pub ◌else◌ : ℕ → ℕ → ℕ
first else second = pick (eqb first 0) second first

-- "13 for a place outside it", "15 when an index built or updated would hold more than 1,024"
abbrev pub no_place : List ℕ → ℕ → ℕ
no_place s place = pick (ltb place (opening_of s).count) 0 NO_PLACE

abbrev pub too_many : List Entry → ℕ
too_many l = pick (ltb 1024 (length l)) TOO_MANY_CALLS 0

-- the index after the word at a place is replaced: the steps of an update, by what stands there now
unfoldable pub updated_of : List ℕ → ℕ → ℕ → List Entry → List Entry
updated_of s place w l = update_of ((opening_of s).base + 4 * place) (callee_here (here_of (replaced_of s place w) place)) l

-- "after the section's own": an array that is too short, and too many calls
unfoldable pub build_refusal : List ℕ → List ℕ → ℕ
build_refusal s index = refused_with (opened_of s) else lent_refusal index 0 else too_many (index_of s)

-- the same with the place, and the count that is handed in
unfoldable pub replace_refusal : List ℕ → ℕ → ℕ → List ℕ → ℕ → ℕ
replace_refusal s place w index count =
    refused_with (opened_of s) else no_place s place else lent_refusal index count else too_many (updated_of s place w (entries_of index count))

-- how many entries there are, or a refusal alone
abbrev pub Indexed : Type 0
Indexed = Result ℕ Refusal

abbrev pub indexed_of : ℕ → List Entry → Indexed
indexed_of refusal l = pick (eqb refusal 0) (Ok (length l)) (refusing refusal)

-- the entries' numbers stand at the start, and nothing behind them changes; "words and index stay unchanged" where there is a refusal
abbrev pub index_left : ℕ → List Entry → List ℕ → List ℕ
index_left refusal l index = pick (eqb refusal 0) (written index 0 (numbers_of l)) index

abbrev pub section_left : ℕ → List ℕ → ℕ → ℕ → List ℕ
section_left refusal s place w = pick (eqb refusal 0) (replaced_of s place w) s

-- building an index, and updating one with a word replaced, as a whole
pub record Builds (s index : List ℕ) (r : Indexed) (index' : List ℕ) : Type 0 where
  pub answer : r ≡ indexed_of (build_refusal s index) (index_of s)
  pub left : index' ≡ index_left (build_refusal s index) (index_of s) index

pub record Updates (refusal : ℕ) (s : List ℕ) (place w : ℕ) (index : List ℕ) (count : ℕ) (r : Indexed) (s' index' : List ℕ) : Type 0 where
  pub answer : r ≡ indexed_of refusal (updated_of s place w (entries_of index count))
  pub words : s' ≡ section_left refusal s place w
  pub left : index' ≡ index_left refusal (updated_of s place w (entries_of index count)) index

abbrev pub Replaces : List ℕ → ℕ → ℕ → List ℕ → ℕ → Indexed → List ℕ → List ℕ → Type 0
Replaces s place w index count r s' index' = Updates (replace_refusal s place w index count) s place w index count r s' index'
