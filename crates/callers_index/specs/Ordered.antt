-- A list of calls that is in order, and what it holds: "ordered by target and then caller, each call once" (02, P12).
use Rattle.std.specs.Prelude.{◌≡◌, true, List, [], ◌∷◌, ◌⊎◌}
use Rattle.callers_index.specs.Entries.{is_before}
use Rattle.callers_index.specs.declared.Entry.{Entry}

abbrev pub Before : Entry → Entry → Type 0
Before e f = is_before e f ≡ true

-- an entry stands in a list
abbrev pub In : Entry → List Entry → Type 0
In e [] = ⊥
In e (f ∷ l) = (e ≡ f) ⊎ In e l

-- each entry comes before all that stand after it; none comes before itself, so each stands once
abbrev pub Ordered : List Entry → Type 0
Ordered [] = Unit {0}
Ordered (e ∷ l) = ((f : Entry) → In f l → Before e f) × Ordered l
