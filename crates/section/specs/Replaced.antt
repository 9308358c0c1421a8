-- A section with another word at a place: "one word of the section is replaced" (02, P12).
use Rattle.std.specs.Prelude.{List, ◌++◌, ℕ, ◌+◌, ◌*◌, take, drop}
use Rattle.word.specs.Bytes.{bytes_of}
use Rattle.section.specs.Section.{start_of}
use Rattle.section.specs.declared.Here.{Here}
use Rattle.section.specs.declared.Here.TheVariants.{Word, Data, End}

-- its four bytes are the word's, "low byte first", and all others are as they were
unfoldable pub replaced_of : List ℕ → ℕ → ℕ → List ℕ
replaced_of s place w = take (start_of s + 4 * place) s ++ bytes_of w ++ drop (start_of s + 4 * place + 4) s

-- what stands at the place then: a word stays a word, and data stays data
abbrev pub with_word : ℕ → Here → Here
with_word w (Word word address) = Word w address
with_word w (Data word address) = Data w address
with_word w End = End
