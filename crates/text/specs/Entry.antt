-- The entries of a table of names (01, "Where each form goes": "constant byte tables").
use Rattle.std.specs.Prelude.{List, [], ◌∷◌, ℕ, ◌*◌, eqb, take, drop}
use Rattle.word.specs.Choice.{pick}

-- the bytes before the first space
abbrev pub word_of : List ℕ → List ℕ
word_of [] = []
word_of (b ∷ bs) = pick (eqb b 32) [] (b ∷ word_of bs)

-- entry n of a table whose entries all take `width` bytes, padded with spaces; there is no text beyond the table
unfoldable pub entry_of : List ℕ → ℕ → ℕ → List ℕ
entry_of table width n = word_of (take width (drop (n * width) table))
