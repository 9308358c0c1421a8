-- Texts as bytes, and a buffer with a text written into it (01, "Section and listing").
use Rattle.std.specs.Prelude.{List, [], ◌∷◌, ◌++◌, ℕ, zero, suc, ◌+◌, ◌/◌, ◌%◌, ltb, ℤ, pos, negsuc, length, take, drop}
use Prim.Native.Char.{code}
use Prim.Native.String.{String, [] as no_more, ◌∷◌ as ◌before◌}
use Rattle.word.specs.Choice.{pick}

-- a text's bytes: all texts here are ASCII, so that each character is one
abbrev pub bytes : String → List ℕ
bytes no_more = []
bytes (c before s) = code c ∷ bytes s

-- the digits of n in base ten, the first k of them at most
abbrev pub digits_of : ℕ → ℕ → List ℕ
digits_of zero n = []
digits_of (suc k) n = pick (ltb n 10) ((48 + n) ∷ []) (digits_of k (n / 10) ++ (48 + n % 10) ∷ [])

-- "Numbers are base ten": a number below 2 ^ 64 has at most twenty digits
unfoldable pub decimal_of : ℕ → List ℕ
decimal_of n = digits_of 20 n

-- "signed only if negative"
unfoldable pub signed_of : ℤ → List ℕ
signed_of (pos n) = decimal_of n
signed_of (negsuc n) = bytes "-" ++ decimal_of (suc n)

-- 0 to 9, a to f
abbrev pub hex_digit : ℕ → ℕ
hex_digit n = pick (ltb n 10) (48 + n) (87 + n)

-- the lowest k digits of n in base sixteen
unfoldable pub hex_of : ℕ → ℕ → List ℕ
hex_of zero n = []
hex_of (suc k) n = hex_of k (n / 16) ++ hex_digit (n % 16) ∷ []

-- a buffer with a text in it from place `at` on: nothing before the text has changed, and nothing after it
unfoldable pub written : {A : Type 0} → List A → ℕ → List A → List A
written out at text = take at out ++ text ++ drop (at + length text) out
