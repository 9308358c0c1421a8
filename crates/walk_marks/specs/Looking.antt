-- Looking for a mark from a place on.
use Rattle.std.specs.Prelude.{◌≡◌, Bool, false, List, ◌⊎◌, ℕ, ◌≤◌, ◌<◌, length, get_or}
use Rattle.walk_marks.specs.Marks.{Marked}

-- from p up to r no place is marked
abbrev pub NoneFrom : List Bool → ℕ → ℕ → Type 0
NoneFrom m p r = (q : ℕ) → p ≤ q → q < r → get_or m q false ≡ false

-- r is the first marked place from p on, or behind all places where there is none
pub record First (m : List Bool) (p r : ℕ) : Type 0 where
  pub from : p ≤ r
  pub none : NoneFrom m p r
  pub stops : Marked m r ⊎ (r ≡ length m)

-- a look that goes on from p to r goes over no marked place, and stays only at one
pub record Passed (m : List Bool) (p r : ℕ) : Type 0 where
  pub from : p ≤ r
  pub to : r ≤ length m
  pub none : NoneFrom m p r
  pub stays : r ≡ p → Marked m p
