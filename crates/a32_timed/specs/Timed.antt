-- A word's answer as one number: refusal, flow and name.
use Rattle.std.specs.Prelude.{ℕ, ◌+◌, ◌*◌, ◌^◌, Ok, Err}
use Rattle.word.specs.Refusal.{number}
use Rattle.insn.specs.Answer.{Decoded}
use Rattle.insn.specs.Numbers.{flow_number}
use Rattle.a32.specs.Decode.{decode_of}

abbrev pub told_of : Decoded → ℕ
told_of (Ok i) = flow_number i.flow * 2 ^ 16 + i.name
told_of (Err r) = number r * 2 ^ 32

abbrev pub decoded_of : ℕ → ℕ → ℕ
decoded_of w addr = told_of (decode_of w addr)
