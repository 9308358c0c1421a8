-- A refusal's number above a word of 32 bits.
use Rattle.std.specs.Prelude.{ℕ, ◌+◌, ◌*◌, ◌^◌, Result, Ok, Err}
use Rattle.word.specs.Refusal.{number}
use Rattle.word.specs.declared.refusal.Refusal.{Refusal}

abbrev pub packed : ℕ → ℕ → ℕ
packed refusal word = refusal * 2 ^ 32 + word

-- an answer's value as a word, or its refusal's number above 0
abbrev pub packed_as : {A : Type 0} → (A → ℕ) → Result A Refusal → ℕ
packed_as f (Ok x) = packed 0 (f x)
packed_as f (Err r) = packed (number r) 0

abbrev pub packed_answer : Result ℕ Refusal → ℕ
packed_answer = packed_as (λ n. n)
