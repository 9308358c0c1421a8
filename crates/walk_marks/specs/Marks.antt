-- Marks on places are a list of booleans, kept "32 to a number, lowest bit first, with unused high bits zero" (02, P13).
use Rattle.std.specs.Prelude.{◌≡◌, Bool, true, false, List, [], ◌∷◌, ◌++◌, ◌⊎◌, ℕ, zero, suc, ◌/◌, ◌%◌, eqb, get_or, set}

-- the k lowest bits of a number, "lowest bit first"
unfoldable pub bits_of : ℕ → ℕ → List Bool
bits_of zero w = []
bits_of (suc k) w = eqb (w % 2) 1 ∷ bits_of k (w / 2)

-- the marks that a list of numbers keeps, "32 to a number"
unfoldable pub marks_of : List ℕ → List Bool
marks_of [] = []
marks_of (w ∷ ws) = bits_of 32 w ++ marks_of ws

-- a place is marked
abbrev pub Marked : List Bool → ℕ → Type 0
Marked marks p = get_or marks p false ≡ true

-- how many are
abbrev pub how_many : List Bool → ℕ
how_many [] = 0
how_many (true ∷ l) = suc (how_many l)
how_many (false ∷ l) = how_many l

-- a place stands in a list of places
abbrev pub In : ℕ → List ℕ → Type 0
In q [] = ⊥
In q (x ∷ l) = (q ≡ x) ⊎ In q l

-- the marks with those of a list of places
abbrev pub mark_all : List Bool → List ℕ → List Bool
mark_all m [] = m
mark_all m (q ∷ qs) = mark_all (set m q true) qs
