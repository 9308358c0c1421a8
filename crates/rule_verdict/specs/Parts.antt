-- What the parts of the verdict do.
use Rattle.std.specs.Prelude.{◌≡◌, Bool, true, List, ℕ, zero, suc, ◌-◌, ◌/◌, ◌≤◌, ◌<◌, length, get_or, Option, Some, None}
use Rattle.rule_places.specs.Coded.{has, flags_at, COMMITS, OPENS}
use Rattle.rule_search.specs.Search.{node, far, dst}
use Rattle.rule_verdict.specs.declared.Near.{Near}

-- how far a commit is, if one is reached
abbrev pub steps_to : Option Near → ℕ
steps_to None = far
steps_to (Some near) = near.steps

-- of the commits below p none is nearer, and the place is one of them, so many steps away
pub record Nearest (flags D : List ℕ) (p : ℕ) (r : Option Near) : Type 0 where
  pub least : (x : ℕ) → x < p → has (flags_at flags x) COMMITS ≡ true → steps_to r ≤ dst D (node x true)
  pub found : (near : Near) → r ≡ Some near
      → (has (flags_at flags near.place) COMMITS ≡ true) × (dst D (node near.place true) ≡ near.steps) × (near.steps < far)

-- an open place that is reached
abbrev pub OpenAt : List ℕ → List ℕ → ℕ → Type 0
OpenAt flags D p = (has (flags_at flags p) OPENS ≡ true) × ((s : Bool) × (dst D (node p s) < far))

-- the first of them, or that there is none
abbrev pub FirstOpen : List ℕ → List ℕ → Option ℕ → Type 0
FirstOpen flags D (Some p) = (p < length flags) × OpenAt flags D p × ((x : ℕ) → x < p → OpenAt flags D x → ⊥)
FirstOpen flags D None = (x : ℕ) → x < length flags → OpenAt flags D x → ⊥

-- k steps back from x
abbrev pub back : List ℕ → ℕ → ℕ → ℕ
back F x zero = x
back F x (suc k) = get_or F (back F x k) 0

-- the way of d steps to x is written, and nothing else is changed
pub record Traced (F : List ℕ) (x d : ℕ) (way last : List ℕ) : Type 0 where
  pub written : (i : ℕ) → i ≤ d → get_or last i 0 ≡ back F x (d - i) / 2
  pub rest : (i : ℕ) → d < i → get_or last i 0 ≡ get_or way i 0
