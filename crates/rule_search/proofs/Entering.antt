-- Targets that are entered. Assumes nothing.
use mathlib.Core.Path.{◌≡◌, sym, ◌∙◌}
use mathlib.Core.Bool.{Bool, true}
use mathlib.Core.List.{List}
use Prim.Native.Nat.{ℕ, ◌+◌, ◌*◌}
use lib.ListN.{length, get_or}
use Rattle.rule_search.specs.Search.{node, Enters, Lent}

-- pair i, if p is the first of it, and all pairs
abbrev pub ByPair : List ℕ → List Bool → Bool → Bool → ℕ → ℕ → ℕ → Type 0
ByPair further m calls v p i y = (get_or further (2 * i) 0 ≡ p) × Enters m calls (get_or further (2 * i + 1) 0) v p y

-- entry i, and all entries
abbrev pub ByEntry : List ℕ → ℕ → ℕ → Type 0
ByEntry entries i y = y ≡ node (get_or entries i 0) true

-- what is lent keeps its length
pub relent : {flags D F D' F' : List ℕ} → Lent flags D F → length D' ≡ length D → length F' ≡ length F → Lent flags D' F'
relent l d f = record { few = l.few; dist_room = d ∙ l.dist_room; from_room = f ∙ l.from_room ∙ sym d }
