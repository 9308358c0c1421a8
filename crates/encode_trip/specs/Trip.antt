-- Words there and back, as a number: a refusal's number above a word.
use Rattle.std.specs.Prelude.{ℕ, Ok, Err}
use Rattle.insn.specs.Answer.{Decoded}
use Rattle.a32.specs.Decode.{decode_of}
use Rattle.encode_home.specs.declared.Filler.{Filler}
use Rattle.encode.specs.Encode.{Encoded, encode_of}
use Rattle.word_packed.specs.Packed.{packed_answer}

-- an answer's word, or its refusal
abbrev pub back_of : Filler → Decoded → Encoded
back_of c (Ok i) = encode_of c i
back_of c (Err r) = Err r

-- a word's answer, encoded
abbrev pub trip_of : Filler → ℕ → ℕ → ℕ
trip_of c w addr = packed_answer (back_of c (decode_of w addr))
