-- What a walk reaches, by chains of steps and without a search (02, P7).
use Rattle.std.specs.Prelude.{◌≡◌, Bool, List, [], ◌∷◌, ◌↔◌, ℕ}
use Rattle.walk_marks.specs.Marks.{In, Marked}

-- a chain from p by the places of a list to q: each is a step from the one before it
abbrev pub Chain : (ℕ → List ℕ) → ℕ → List ℕ → ℕ → Type 0
Chain steps p [] q = p ≡ q
Chain steps p (x ∷ l) q = In x (steps p) × Chain steps x l q

-- "a chain of these steps leads to it"
abbrev pub Reached : (ℕ → List ℕ) → ℕ → ℕ → Type 0
Reached steps entry p = (l : List ℕ) × Chain steps entry l p

-- the marks are on exactly what is reached
abbrev pub Exact : (ℕ → List ℕ) → ℕ → List Bool → Type 0
Exact steps entry m = (p : ℕ) → Marked m p ↔ Reached steps entry p
