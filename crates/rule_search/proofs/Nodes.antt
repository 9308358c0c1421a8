-- Where a node leads. Assumes nothing.
use mathlib.Core.Path.{◌≡◌, refl, ◌∙◌}
use mathlib.Core.Bool.{Bool, true, false}
use mathlib.Core.List.{List}
use mathlib.Core.Logic.{◌⊎◌, inl, inr}
use Prim.Native.Nat.{ℕ, ◌+◌, ◌/◌, ◌%◌}
use native.Mathlib.Omega.{arith}
use borrow.Author.Tests.{eq-eqb, ne_eqb}
use Rattle.rule_runs.specs.Runs.{Program}
use Rattle.rule_runs.specs.Summaries.{Flow}
use Rattle.rule_places.specs.Coded.{has, effect, flags_at, CALLS, Target, program_of}
use Rattle.rule_returns.specs.Table.{Table}
use Rattle.rule_search.specs.Search.{node, dirty_at, StepTo, LeadsOn}

-- a node's place and state
pub half_node : (q : ℕ) (u : Bool) → node q u / 2 ≡ q
half_node q true = omega arith
half_node q false = omega arith

pub dirty_node : (q : ℕ) (u : Bool) → dirty_at (node q u) ≡ u
dirty_node q true = eq-eqb (node q true % 2) 1 (omega arith)
dirty_node q false = ne_eqb (node q false % 2) 1 (λ (e : node q false % 2 ≡ 1). let z : ⊥ = omega arith in z)

module _ (flags targets further entries : List ℕ) (m : List Bool) where
  abbrev P : Program
  P = program_of flags targets further entries

  Out : ℕ → Bool → ℕ → Type 0
  Out p s y = (q : ℕ) × (u : Bool) × (y ≡ node q u) × Flow P (Table m) p s q u

  into_target : (b : Bool) (p : ℕ) (s v : Bool) (q y : ℕ) → has (flags_at flags p) CALLS ≡ b → has (flags_at flags p) (effect s v) ≡ true
      → Target flags targets further p q → y ≡ node q v → Out p s y
  unfolding Out
  into_target true p s v q y c l t e = (q, v, e, inr ((c, t), l))
  into_target false p s v q y c l t e = (q, v, e, inl (inl (inr (c, t), l)))

  leads_out : (p : ℕ) (s v : Bool) (y : ℕ) → has (flags_at flags p) (effect s v) ≡ true → LeadsOn flags targets further m p v y → Out p s y
  unfolding Out
  leads_out p s v y l (inl x) = (p + 1, v, x.1, inl (inl (inl (x.0, refl), l)))
  leads_out p s v y l (inr (q, t, inl e)) = into_target (has (flags_at flags p) CALLS) p s v q y refl l t e
  leads_out p s v y l (inr (q, t, inr (w, c, k, e))) =
      (p + 1, w, e, inl (inr (record { routine = q; state = v; called = (c, t); left = l; summary = k; back = refl })))

  Left : ℕ → Bool → ℕ → Type 0
  Left p s y = (v : Bool) × (has (flags_at flags p) (effect s v) ≡ true) × LeadsOn flags targets further m p v y

  out_leads : (p : ℕ) (s : Bool) (q : ℕ) (u : Bool) (y : ℕ) → y ≡ node q u → Flow P (Table m) p s q u → Left p s y
  unfolding Left
  out_leads p s q u y e (inl (inl (inl x, l))) = (u, l, inl (x.0, e ∙ rw x.1 refl))
  out_leads p s q u y e (inl (inl (inr x, l))) = (u, l, inr (q, x.1, inl e))
  out_leads p s q u y e (inl (inr o)) =
      (o.state, o.left, inr (o.routine, o.called.1, inr (u, o.called.0, o.summary, e ∙ rw o.back refl)))
  out_leads p s q u y e (inr (x, l)) = (u, l, inr (q, x.1, inl e))

  -- the steps of a node, by the two states that its place may leave
  pub steps_in : (x y : ℕ)
      → ((has (flags_at flags (x / 2)) (effect (dirty_at x) false) ≡ true) × LeadsOn flags targets further m (x / 2) false y)
      ⊎ ((has (flags_at flags (x / 2)) (effect (dirty_at x) true) ≡ true) × LeadsOn flags targets further m (x / 2) true y)
      → StepTo P (Table m) x y
  unfolding Out
  steps_in x y (inl a) = leads_out (x / 2) (dirty_at x) false y a.0 a.1
  steps_in x y (inr a) = leads_out (x / 2) (dirty_at x) true y a.0 a.1

  pub steps_out : (x y : ℕ) → StepTo P (Table m) x y
      → ((has (flags_at flags (x / 2)) (effect (dirty_at x) false) ≡ true) × LeadsOn flags targets further m (x / 2) false y)
      ⊎ ((has (flags_at flags (x / 2)) (effect (dirty_at x) true) ≡ true) × LeadsOn flags targets further m (x / 2) true y)
  unfolding Left
  steps_out x y (q, u, e, f) = by (out_leads (x / 2) (dirty_at x) q u y e f)
    where
      by : Left (x / 2) (dirty_at x) y
          → ((has (flags_at flags (x / 2)) (effect (dirty_at x) false) ≡ true) × LeadsOn flags targets further m (x / 2) false y)
          ⊎ ((has (flags_at flags (x / 2)) (effect (dirty_at x) true) ≡ true) × LeadsOn flags targets further m (x / 2) true y)
      by (false, l, o) = inl (l, o)
      by (true, l, o) = inr (l, o)
