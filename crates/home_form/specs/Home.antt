-- The home form of a section: each word at home, all else as it is (02, P14).
use Rattle.std.specs.Prelude.{List, [], ◌++◌, ℕ, zero, suc, take}
use Rattle.word.specs.Bytes.{bytes_of}
use Rattle.encode_home.specs.declared.Filler.TheVariants.{Manual}
use Rattle.encode_home.specs.Home.{home_of}
use Rattle.section.specs.Section.{here_of, opening_of}
use Rattle.section.specs.declared.Here.{Here}
use Rattle.section.specs.declared.Here.TheVariants.{Word, Data, End}

-- the word that stands at a place
abbrev pub word_here : Here → ℕ
word_here (Word word address) = word
word_here (Data word address) = word
word_here End = 0

-- "Rewrite each accepted word to its home word under P5's default"; "Refused and data words .. keep their bytes". A word that is refused is its own
-- home word
abbrev pub home_here : Here → ℕ
home_here (Word word address) = home_of Manual word
home_here (Data word address) = word
home_here End = 0

-- what a function gives for each of the first n places, one after the other
abbrev pub gathered : {A : Type 0} → (ℕ → List A) → ℕ → List A
gathered at zero = []
gathered at (suc n) = gathered at n ++ at n

abbrev pub bytes_at : List ℕ → ℕ → List ℕ
bytes_at s place = bytes_of (home_here (here_of s place))

-- "header and ranges keep their bytes": what stands before the words, and then the words
unfoldable pub home_form_of : List ℕ → List ℕ
home_form_of s = take (opening_of s).start s ++ gathered (bytes_at s) (opening_of s).count
