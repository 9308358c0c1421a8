-- Chains of steps: one step more, and what holds wherever they lead. Assumes nothing.
use mathlib.Core.Path.{refl, subst}
use mathlib.Core.List.{List, [], ◌∷◌, ◌++◌}
use Prim.Native.Nat.{ℕ}
use Rattle.walk_marks.specs.Marks.{In}
use Rattle.walk.specs.Reached.{Chain, Reached}

module _ (steps : ℕ → List ℕ) where
  chain_on : (p : ℕ) (l : List ℕ) (q r : ℕ) → Chain steps p l q → In r (steps q) → Chain steps p (l ++ (r ∷ [])) r
  chain_on p [] q r e i = (rw e i, refl)
  chain_on p (x ∷ l) q r c i = (c.0, chain_on x l q r c.1 i)

  -- a step from a place that is reached leads to one that is
  pub reached_on : (entry p q : ℕ) → Reached steps entry p → In q (steps p) → Reached steps entry q
  reached_on entry p q (l, c) i = (l ++ (q ∷ []), chain_on entry l p q c i)

  -- what holds at the entry, and goes along with each step, holds wherever a chain leads
  module _ (P : ℕ → Type 0) (along : (p q : ℕ) → P p → In q (steps p) → P q) where
    chain_ends : (p : ℕ) (l : List ℕ) (q : ℕ) → Chain steps p l q → P p → P q
    chain_ends p [] q e h = subst P e h
    chain_ends p (x ∷ l) q c h = chain_ends x l q c.1 (along p x h c.0)

    pub holds_where_reached : (entry p : ℕ) → Reached steps entry p → P entry → P p
    holds_where_reached entry p (l, c) h = chain_ends entry l p c h
