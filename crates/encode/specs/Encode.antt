-- The word of an instruction value, or refusal 4: "encoding, no word in demand 2's range has this answer"; and the home word of a word.
use Rattle.std.specs.Prelude.{ℕ, eqb, Result, Ok, Err}
use Rattle.word.specs.declared.refusal.Refusal.{Refusal}
use Rattle.word.specs.Choice.{pick}
use Rattle.word.specs.Refusal.{NO_WORD, refused_with, refusing}
use Rattle.insn.specs.Answer.{Decoded, insn_in}
use Rattle.insn.specs.declared.Insn.{Insn}
use Rattle.a32.specs.Decode.{decode_of}
use Rattle.encode_home.specs.declared.Filler.{Filler}
use Rattle.encode_home.specs.Home.{home_of}
use Rattle.insn_same.specs.Same.{same_of}
use Rattle.encode_words.specs.Candidate.{candidate}

-- a word, or a refusal
abbrev pub Encoded : Type 0
Encoded = Result ℕ Refusal

-- the word; beside a refusal, 0
abbrev pub word_in : Encoded → ℕ
word_in (Ok w) = w
word_in (Err r) = 0

abbrev pub unencoded : Encoded
unencoded = refusing NO_WORD

-- the word w, if its answer d is the value
abbrev pub checked : Insn → ℕ → Decoded → Encoded
checked i w d = pick (eqb (refused_with d) 0) (pick (same_of (insn_in d) i) (Ok w) unencoded) unencoded

-- the candidate, if it has the value for its answer at the value's address; if it has not, no word has (`refuses-exactly`)
abbrev pub encode_of : Filler → Insn → Encoded
encode_of c i = checked i (candidate c i) (decode_of (candidate c i) i.addr)

-- the home word of an accepted word
abbrev pub home_answer : Filler → ℕ → Encoded
home_answer c w =
    pick (eqb (refused_with (decode_of w 0)) 0)
    (Ok (home_of c w))
    (refusing (refused_with (decode_of w 0)))
