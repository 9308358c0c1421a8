-- The rule "a barrier before every commit", for runs with a stack. A state is true where it is dirty and false where it is clean.
use Rattle.std.specs.Prelude.{◌≡◌, Bool, true, List, [], ◌∷◌, ℕ}

-- what stands at each place
pub record Program : Type 1 where
  pub leaves : ℕ → Bool → Bool → Bool  -- whether it may leave the second state where it finds the first
  pub goes : ℕ → ℕ → Type 0  -- where it goes on in the routine
  pub calls : ℕ → ℕ → Type 0  -- what it may call
  pub behind : ℕ → ℕ  -- where a call of it comes back to
  pub returns : ℕ → Bool
  pub commits : ℕ → Bool
  pub opens : ℕ → Bool
  pub entry : ℕ → Type 0

-- a run is at a place, in a state, with a stack of places to come back to. "It starts at an entry, dirty, with an empty stack"; "a call pushes the
-- place behind it and goes there; a return takes the top place off and goes there; with an empty stack the run is over"
pub data Run (P : Program) : ℕ → Bool → List ℕ → Type 0 where
  starts : {e : ℕ} → P.entry e → Run P e true []
  step : {p q : ℕ} {s u : Bool} {st : List ℕ} → Run P p s st → P.leaves p s u ≡ true → P.goes p q → Run P q u st
  call : {p t : ℕ} {s u : Bool} {st : List ℕ} → Run P p s st → P.leaves p s u ≡ true → P.calls p t → Run P t u (P.behind p ∷ st)
  return : {p q : ℕ} {s u : Bool} {st : List ℕ} → Run P p s (q ∷ st) → P.leaves p s u ≡ true → P.returns p ≡ true → Run P q u st

-- some run is at a place and in a state of a kind
abbrev pub Reaches : Program → (ℕ → Bool → Type 0) → Type 0
Reaches P A = (p : ℕ) × (s : Bool) × (st : List ℕ) × Run P p s st × A p s

-- "the rule is broken if a run is at a commit and dirty"
abbrev pub AtCommit : Program → ℕ → Bool → Type 0
AtCommit P p s = (P.commits p ≡ true) × (s ≡ true)

abbrev pub Broken : Program → Type 0
Broken P = Reaches P (AtCommit P)

-- "some run reaches something open, clean or dirty"
abbrev pub AtOpen : Program → ℕ → Bool → Type 0
AtOpen P p s = P.opens p ≡ true

abbrev pub Opened : Program → Type 0
Opened P = Reaches P (AtOpen P)

-- "violated: some run breaks the rule; undecided: none does, but some run reaches something open; holds: neither"
pub data Verdict : Type 0 where
  violated undecided holds : Verdict

abbrev pub Judges : Program → Verdict → Type 0
Judges P violated = Broken P
Judges P undecided = (Broken P → ⊥) × Opened P
Judges P holds = (Broken P → ⊥) × (Opened P → ⊥)
