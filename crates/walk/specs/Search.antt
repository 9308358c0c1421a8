-- The search: marks on what is reached (m), and on what of that is still to be taken up, and so waits (w).
use Rattle.std.specs.Prelude.{◌≡◌, Bool, false, List, ℕ, ◌+◌, ◌≤◌, ◌<◌, length, get_or, set}
use Rattle.walk_marks.specs.Marks.{Marked, how_many, mark_all, marks_of}

-- what waits is reached
abbrev pub Among : List Bool → List Bool → Type 0
Among w m = (p : ℕ) → Marked w p → Marked m p

-- the places of qs are marked as reached, and those of them that were not wait now; where that mark is no other, nothing changes
pub record Followed (m w : List Bool) (qs : List ℕ) (m' w' : List Bool) : Type 0 where
  pub marks : m' ≡ mark_all m qs
  pub keeps : Among m m'
  pub new : (p : ℕ) → get_or m p false ≡ false → Marked m' p → Marked w' p
  pub same : (p : ℕ) → get_or m' p false ≡ get_or m p false → get_or w' p false ≡ get_or w p false
  pub number : Among w m → how_many w' + how_many m ≡ how_many w + how_many m'

-- the same of the two stores: of steps that are followed, and with a place that waits no longer
abbrev pub Follows : List ℕ → List ℕ → List ℕ → List ℕ → List ℕ → Type 0
Follows reached waiting qs reached' waiting' = Followed (marks_of reached) (marks_of waiting) qs (marks_of reached') (marks_of waiting')

abbrev pub Takes : List ℕ → List ℕ → ℕ → List ℕ → List ℕ → List ℕ → Type 0
Takes reached waiting p qs reached' waiting' = Followed (marks_of reached) (set (marks_of waiting) p false) qs (marks_of reached') (marks_of waiting')

-- r is a place that waits, or behind all of them where none does
pub record Next (w : List Bool) (r : ℕ) : Type 0 where
  pub waits : r < length w → Marked w r
  pub none : length w ≤ r → (p : ℕ) → get_or w p false ≡ false
