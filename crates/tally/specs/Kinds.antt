-- What a tally counts, and where each count stands (02, P10).
use Rattle.std.specs.Prelude.{ℕ, Bool, true, false, List, ◌∷◌, ◌++◌, length, ◌==◌}
use Rattle.word.specs.Choice.{both}
use Rattle.word.specs.Refusal.{COPROCESSOR, NO_ROW, refused_with}
use Rattle.insn.specs.Numbers.{flow_number}
use Rattle.insn.specs.Roots.{NAMES}
use Rattle.insn.specs.Answer.{Decoded, insn_in}
use Rattle.a32.specs.Decode.{decode_of}
use Rattle.section.specs.Section.{firsts}
use Rattle.section.specs.declared.Here.{Here}
use Rattle.section.specs.declared.Here.TheVariants.{Word, Data, End}

-- "words, data, each refusal number, each root, each flow": data is `pool`, and the last three go by their numbers; and the sections themselves
pub data Kind : Type 0 where
  sections : Kind
  words : Kind
  pool : Kind
  refusal : ℕ → Kind
  flow : ℕ → Kind
  root : ℕ → Kind

-- one count after the other: a word is refused with 2 or 3, 01 has eight flows, and roots come last, since their list grows at its end
abbrev pub layout : List Kind
layout = sections ∷ words ∷ pool ∷ refusal COPROCESSOR ∷ refusal NO_ROW ∷ firsts flow 8 ++ firsts root NAMES

abbrev pub COUNTS : ℕ
COUNTS = length layout

-- an accepted word has its flow and its root, and one that is refused the refusal's number
abbrev pub is_accepted : Decoded → Bool
is_accepted d = refused_with d == 0

abbrev pub word_is : Decoded → Kind → Bool
word_is d sections = false
word_is d words = true
word_is d pool = false
word_is d (refusal n) = refused_with d == n
word_is d (flow n) = both (is_accepted d) (flow_number (insn_in d).flow == n)
word_is d (root n) = both (is_accepted d) ((insn_in d).name == n)

-- data is counted among the words, and is neither accepted nor refused
abbrev pub data_is : Kind → Bool
data_is sections = false
data_is words = true
data_is pool = true
data_is (refusal n) = false
data_is (flow n) = false
data_is (root n) = false

-- a section is counted at its end
abbrev pub end_is : Kind → Bool
end_is sections = true
end_is words = false
end_is pool = false
end_is (refusal n) = false
end_is (flow n) = false
end_is (root n) = false

-- whether what stands at a place is of a kind
abbrev pub is_of : Kind → Here → Bool
is_of kind (Word word address) = word_is (decode_of word address) kind
is_of kind (Data word address) = data_is kind
is_of kind End = end_is kind

-- whether it is a word that is accepted
abbrev pub is_named : Here → Bool
is_named (Word word address) = is_accepted (decode_of word address)
is_named (Data word address) = false
is_named End = false

-- a test that passes counts as one
abbrev pub one : Bool → ℕ
one true = 1
one false = 0
