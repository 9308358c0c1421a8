-- The digest of a row of numbers, and of the answers to a run of words.
use Rattle.std.specs.Prelude.{ℕ, zero, suc, ◌+◌, ◌*◌, ◌%◌, ◌^◌, List, [], ◌∷◌}
use Rattle.a32.specs.Decode.{decode_of}
use Rattle.a32_digest.specs.Numbers.{answer_numbers}

-- the largest prime below 2 ^ 32
abbrev pub modulus : ℕ
modulus = 4294967291

-- the multiplier of the 32-bit FNV hash
abbrev pub multiplier : ℕ
multiplier = 16777619

-- a digest with one more number
unfoldable pub mix : ℕ → ℕ → ℕ
mix h x = (h % modulus * multiplier + x % modulus) % modulus

abbrev pub mixed : ℕ → List ℕ → ℕ
mixed h [] = h
mixed h (x ∷ xs) = mixed (mix h x) xs

-- h with the answers to `count` words from `first` on, all at addr; the word after 2 ^ 32 - 1 is 0
abbrev pub digest_of : ℕ → ℕ → ℕ → ℕ → ℕ
digest_of h first zero addr = h
digest_of h first (suc n) addr = mixed (digest_of h first n addr) (answer_numbers (decode_of ((first + n) % 2 ^ 32) addr))
