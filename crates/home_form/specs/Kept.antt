-- What a home form keeps, and which changes are listed, place by place (02, P14).
use Rattle.std.specs.Prelude.{◌≡◌, List, [], ◌∷◌, ◌⊎◌, ℕ, ◌<◌, get_or}
use Rattle.section.specs.Section.{here_of, opening_of}
use Rattle.section.specs.declared.Here.{Here}
use Rattle.section.specs.declared.Here.TheVariants.{Word, Data, End}
use Rattle.a32.specs.Decode.{decode_of}
use Rattle.encode_home.specs.declared.Filler.TheVariants.{Manual}
use Rattle.encode_home.specs.Home.{home_of}
use Rattle.home_form.specs.Home.{word_here}
use Rattle.home_form.specs.declared.Change.{Change}

-- a byte is below 256
abbrev pub Bytes : List ℕ → Type 0
Bytes s = (i : ℕ) → get_or s i 0 < 256

-- "Every line's name, operands and flow stay as they were": a word becomes its home word, at the same address, with the same answer; data stays
abbrev pub Stays : Here → Here → Type 0
Stays (Word w addr) here = (here ≡ Word (home_of Manual w) addr) × (decode_of (home_of Manual w) addr ≡ decode_of w addr)
Stays (Data w addr) here = here ≡ Data w addr
Stays End here = here ≡ End

-- a change that is in a list
abbrev pub In : Change → List Change → Type 0
In c [] = ⊥
In c (d ∷ l) = (c ≡ d) ⊎ In c l

-- a place of a section whose old and new word differ
pub record Differs (s s' : List ℕ) (c : Change) : Type 0 where
  pub inside : c.place < (opening_of s).count
  pub old : c.old ≡ word_here (here_of s c.place)
  pub new : c.new ≡ word_here (here_of s' c.place)
  pub other : c.old ≡ c.new → ⊥

-- "in order": each place is before all those after it, so that each is listed once
abbrev pub Ascending : List Change → Type 0
Ascending [] = Unit {0}
Ascending (c ∷ l) = ((d : Change) → In d l → c.place < d.place) × Ascending l
