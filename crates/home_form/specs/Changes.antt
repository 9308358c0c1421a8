-- The words that a home form changes, in order (02, P14), and those of them that are of the unindexed form of ldc and stc.
use Rattle.std.specs.Prelude.{Bool, List, [], ◌∷◌, ℕ, ◌+◌, eqb}
use Rattle.word.specs.Choice.{pick, both}
use Rattle.word.specs.Field.{field}
use Rattle.section.specs.Section.{here_of, opening_of}
use Rattle.section.specs.declared.Here.{Here}
use Rattle.home_form.specs.Home.{word_here, home_here, gathered}
use Rattle.home_form.specs.declared.Change.{Change}

-- "its place, old word and new word"
abbrev pub change_at : ℕ → Here → Change
change_at place here = record { place = place; old = word_here here; new = home_here here }

-- "for each changed word": one whose new word is another
abbrev pub listed : Change → List Change
listed c = pick (eqb c.old c.new) [] (c ∷ [])

abbrev pub changes_at : List ℕ → ℕ → List Change
changes_at s place = listed (change_at place (here_of s place))

-- "in order"
unfoldable pub changes_of : List ℕ → List Change
changes_of s = gathered (changes_at s) (opening_of s).count

-- a list of numbers holds a change as three, one after the other
abbrev pub numbers_of : List Change → List ℕ
numbers_of [] = []
numbers_of (c ∷ l) = c.place ∷ c.old ∷ c.new ∷ numbers_of l

-- DDI 0406C, A8, LDC and STC, 27:25 = 110: "unindexed", P = 0, U = 1 and W = 0. At home W is set (02, P9)
abbrev pub is_unindexed : ℕ → Bool
is_unindexed w = both (eqb (field w 24 4) 12) (both (eqb (field w 23 1) 1) (eqb (field w 21 1) 0))

-- how many of a list's old words are of that form
abbrev pub unindexed_among : List Change → ℕ
unindexed_among [] = 0
unindexed_among (c ∷ l) = pick (is_unindexed c.old) 1 0 + unindexed_among l
