-- The home word of a word (01, "Home words").
use Rattle.std.specs.Prelude.{Bool, true, false, List, [], ◌∷◌, ◌++◌, ℕ, eqb}
use Rattle.word.specs.Refusal.{refused_with}
use Rattle.word.specs.Choice.{pick}
use Rattle.word.specs.Field.{put}
use Rattle.insn.specs.Answer.{Decoded, insn_in}
use Rattle.insn.specs.declared.Insn.{Insn}
use Rattle.a32.specs.Decode.{decode_of}
use Rattle.encode_home.specs.declared.Filler.{Filler}
use Rattle.encode_home.specs.declared.Filler.TheVariants.{Manual, Zeros}
use Rattle.encode_home.specs.Word.{word_of}
use Rattle.encode_home.specs.Table.{Fill, clear, set, drawn, Put, value, Entry, table}

-- what the entries about an answer put into its words
abbrev pub gathered : Insn → List Entry → List Put
gathered i [] = []
gathered i (entry ∷ entries) = pick (entry.about i) entry.puts [] ++ gathered i entries

unfoldable pub puts_of : Insn → List Put
puts_of i = gathered i table

-- one fold that puts them in, under either filler
abbrev pub put_all : Filler → List Put → ℕ → ℕ
put_all c [] w = w
put_all c (p ∷ ps) w = put_all c ps (put w p.lo p.width (value c p))

-- a word that is refused is its own home word
abbrev pub home_by : Filler → Decoded → ℕ → ℕ
home_by c d w = pick (eqb (refused_with d) 0) (put_all c (puts_of (insn_in d)) w) w

-- no entry looks at an answer's address, or at where it branches to, so any address would do
unfoldable pub home_of : Filler → ℕ → ℕ
home_of c w = home_by c (decode_of w 0) w

-- the puts that the choice is about
abbrev pub is_drawn : Fill → Bool
is_drawn clear = false
is_drawn set = false
is_drawn drawn = true

abbrev pub drawn_of : List Put → List Put
drawn_of [] = []
drawn_of (p ∷ ps) = pick (is_drawn p.fill) (p ∷ drawn_of ps) (drawn_of ps)

-- what is drawn, put into a word of an answer that has zeros there
abbrev pub fill_of : Filler → Insn → ℕ → ℕ
fill_of Manual i w = put_all Manual (drawn_of (puts_of i)) w
fill_of Zeros i w = w

-- the word that an answer leads to, filled
abbrev pub filled_word : Filler → Insn → ℕ
filled_word c i = fill_of c i (word_of i)
