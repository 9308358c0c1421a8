-- Words in bytes: "low byte first".
use Rattle.std.specs.Prelude.{ℕ, ◌+◌, ◌*◌, ◌/◌, ◌%◌, List, [], ◌∷◌, slice_index}

-- the word of the four bytes from place at on
abbrev pub word_at : List ℕ → ℕ → ℕ
word_at bytes at =
    slice_index bytes at + 0x100 * slice_index bytes (at + 1) + 0x1_0000 * slice_index bytes (at + 2) + 0x100_0000 * slice_index bytes (at + 3)

-- the four bytes of a word
abbrev pub bytes_of : ℕ → List ℕ
bytes_of w = w % 0x100 ∷ w / 0x100 % 0x100 ∷ w / 0x1_0000 % 0x100 ∷ w / 0x100_0000 % 0x100 ∷ []
