-- Tables as the manual has them: columns of bits, and rows of patterns. `10xx0` is five bits, the highest first, in which an x is either;
-- `not 10xx0` is any other five.
use Rattle.std.specs.Prelude.{Bool, true, false, not, List, [], ◌∷◌, ℕ, ◌+◌, ◌/◌, ◌%◌, ◌^◌, eqb}
use Prim.Native.Char.{code}
use Prim.Native.String.{String, [] as no_more, ◌∷◌ as ◌then◌, count}
use Rattle.word.specs.Choice.{pick, both}

-- a pattern without an x is a number
abbrev pub exact : String → Bool
exact no_more = true
exact (c then s) = pick (eqb (code c) 120) false (exact s)

abbrev pub number : String → ℕ
number no_more = 0
number (c then s) = pick (eqb (code c) 49) (2 ^ count s) 0 + number s

-- a bit is as its character says: 1, 0, or x for either
abbrev pub bit_is : ℕ → ℕ → Bool
bit_is char bit = pick (eqb char 49) (eqb bit 1) (pick (eqb char 48) (eqb bit 0) true)

abbrev pub bits_are : ℕ → String → Bool
bits_are v no_more = true
bits_are v (c then s) = both (bit_is (code c) (v / 2 ^ count s % 2)) (bits_are v s)

-- the bits of v are as a pattern says
abbrev pub like : ℕ → String → Bool
like v s = pick (exact s) (eqb v (number s)) (bits_are v s)

-- a cell of a table
pub data Cell : Type 0 where
  is : String → Cell
  isnt : String → Cell
  any : Cell

abbrev pub cell_is : ℕ → Cell → Bool
cell_is v (is s) = like v s
cell_is v (isnt s) = not (like v s)
cell_is v any = true

abbrev pub row_is : List ℕ → List Cell → Bool
row_is [] cs = true
row_is (v ∷ vs) [] = true
row_is (v ∷ vs) (c ∷ cs) = both (cell_is v c) (row_is vs cs)

-- a row of a table: its cells, and the name that it leads to
pub record Row : Type 0 where
  pub cells : List Cell
  pub name : String

infix 70 ◌⇒◌
abbrev pub ◌⇒◌ : List Cell → String → Row
cs ⇒ s = record { cells = cs; name = s }

-- the name that the first row leads to whose cells the columns are like; "Other encodings in this space are UNDEFINED"
abbrev pub table_of : List ℕ → List Row → String
table_of columns [] = "UNDEFINED"
table_of columns (r ∷ rs) = pick (row_is columns r.cells) r.name (table_of columns rs)
