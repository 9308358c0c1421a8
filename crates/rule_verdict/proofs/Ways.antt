-- Ways, and what is measured of them. Assumes nothing.
use mathlib.Core.Path.{◌≡◌, refl, ap, ◌∙◌}
use mathlib.Core.Bool.{Bool, true}
use mathlib.Core.List.{List}
use mathlib.Core.Logic.{⊎_elim}
use Prim.Native.Nat.{ℕ, zero, suc, ◌+◌, ◌/◌, ◌-◌, ◌≤◌, ◌<◌}
use native.Mathlib.Omega.{arith}
use lib.ListN.{length, get_or}
use Rattle.rule_runs.specs.Runs.{Program, Run}
use Rattle.rule_runs.specs.Summaries.{Way, Way.here, Way.on, Summary, Flow, Ever, Walks, Settled}
use Rattle.rule_runs.proofs.Exact.{flow_more, settled, ever_decides}
use Rattle.rule_search.specs.Search.{node, dirty_at, StepTo, StartAt, far, dst, Measured}
use Rattle.rule_search.proofs.Nodes.{half_node, dirty_node}
use Rattle.rule_search.proofs.Spreading.{reached_inside}
use Rattle.rule_verdict.specs.Parts.{back}
use Rattle.rule_verdict.specs.Verdicts.{Along, Along.starts, Along.goes}

-- what a way arrives at is walked to
pub along_walks : {P : Program} {f : ℕ → ℕ} {k : ℕ} {s : Bool} → Along P (Ever P) f k s → Walks P (Ever P) (f k) s
along_walks (starts i) = (_, i, here)
along_walks (goes a x) = let (e, i, w) = along_walks a in (e, i, on w x)

module _ (P : Program) {S : Summary} (settles : Settled P S) {D F : List ℕ} (m : Measured (StartAt P) (StepTo P S) D F) where
  -- a step of the walk is one between nodes
  step_node : (p q : ℕ) (s u : Bool) → Flow P (Ever P) p s q u → StepTo P S (node p s) (node q u)
  step_node p q s u x = (q, u, refl, rw (half_node p s, dirty_node p s) (flow_more (settled settles).1 x))

  -- no way is shorter than what is measured
  pub no_shorter : {f : ℕ → ℕ} {k : ℕ} {s : Bool} → Along P (Ever P) f k s → (dst D (node (f k) s) < far) × (dst D (node (f k) s) ≤ k)
  no_shorter {f} (starts i) = let e = m.entered (node (f 0) true) (f 0, i, refl) in (omega arith, omega arith)
  no_shorter {f} (goes {k} {s} {u} a x) =
      let (r, l) = no_shorter a in
      let (r', l') = m.closed (node (f k) s) r (node (f (suc k)) u) (step_node (f k) (f (suc k)) s u x) in
      (r', omega arith)

  walks_reached : {e p : ℕ} {s : Bool} → P.entry e → Way (Flow P (Ever P)) e true p s → dst D (node p s) < far
  walks_reached {e} i here = let z = m.entered (node e true) (e, i, refl) in omega arith
  walks_reached i (on {q} {r} {u} {v} w x) = (m.closed (node q u) (walks_reached i w) (node r v) (step_node q r u v x)).0

  -- what a run is at is reached
  pub run_reached : (p : ℕ) (s : Bool) (st : List ℕ) → Run P p s st → dst D (node p s) < far
  run_reached p s st run =
      let (p', s', (e, i, w), (a, b)) = (ever_decides P (λ p' s'. (p' ≡ p) × (s' ≡ s))).0 (p, s, st, run, (refl, refl)) in
      rw (a, b) at (walks_reached i w)

  module _ (x : ℕ) (r : dst D x < far) where
    -- k steps back it is k steps nearer
    back_near : (k : ℕ) → k ≤ dst D x → dst D (back F x k) + k ≡ dst D x
    back_near zero h = omega arith
    back_near (suc k) h =
        let near = back_near k (omega arith) in
        let y = back F x k in
        ⊎_elim
        (λ (a : StartAt P y × (dst D y ≡ 0)). absurd (let z : ⊥ = omega (arith, a.1) in z))
        (λ (a : StepTo P S (get_or F y 0) y × (dst D (get_or F y 0) + 1 ≡ dst D y)). omega (arith, a.1))
        (m.sound y (omega arith))

    pub back_inside : (k : ℕ) → k ≤ dst D x → back F x k < length D
    back_inside k h = reached_inside D (back F x k) (omega (arith, back_near k h))

    -- the way back, from its start
    pub way_along : (f : ℕ → ℕ) → ((i : ℕ) → i ≤ dst D x → f i ≡ back F x (dst D x - i) / 2)
        → (i : ℕ) → i ≤ dst D x → Along P (Ever P) f i (dirty_at (back F x (dst D x - i)))
    way_along f law zero h =
        let y = back F x (dst D x - 0) in
        let near = back_near (dst D x - 0) (omega arith) in
        ⊎_elim
        (λ (a : StartAt P y × (dst D y ≡ 0)).
        let (e, i, same) = a.0 in
        let place : f 0 ≡ e = law 0 (omega arith) ∙ ap (λ (z : ℕ). z / 2) same ∙ half_node e true in
        let state : dirty_at y ≡ true = ap dirty_at same ∙ dirty_node e true in
        rw state (starts (rw place i)))
        (λ (a : StepTo P S (get_or F y 0) y × (dst D (get_or F y 0) + 1 ≡ dst D y)). absurd (let z : ⊥ = omega (arith, a.1) in z))
        (m.sound y (omega arith))
    way_along f law (suc i) h =
        let k = dst D x - suc i in
        let z = back F x k in
        let next : dst D x - i ≡ suc k = omega arith in
        let y = get_or F z 0 in
        let from : Along P (Ever P) f i (dirty_at y) = rw next at (way_along f law i (omega arith)) in
        let at : f i ≡ y / 2 = rw next at (law i (omega arith)) in
        let near = back_near k (omega arith) in
        ⊎_elim
        (λ (a : StartAt P z × (dst D z ≡ 0)). absurd (let w : ⊥ = omega (arith, a.1) in w))
        (λ (a : StepTo P S y z × (dst D y + 1 ≡ dst D z)).
        let (q, u, same, flow) = a.0 in
        let place : f (suc i) ≡ q = law (suc i) h ∙ ap (λ (w : ℕ). w / 2) same ∙ half_node q u in
        let state : dirty_at z ≡ u = ap dirty_at same ∙ dirty_node q u in
        rw state (goes {u = u} from (rw (at, place) (flow_more (settled settles).0 flow))))
        (m.sound z (omega arith))

  -- so a run is at what is reached
  pub reached_run : (p : ℕ) (s : Bool) → dst D (node p s) < far → (st : List ℕ) × Run P p s st
  reached_run p s r =
      let x = node p s in
      let d = dst D x in
      let f : ℕ → ℕ = λ i. back F x (d - i) / 2 in
      let a = way_along x r f (λ i h. refl) d (omega arith) in
      let none : d - d ≡ 0 = omega arith in
      let place : f d ≡ p = rw none (half_node p s) in
      let state : dirty_at (back F x (d - d)) ≡ s = rw none (dirty_node p s) in
      let (p', s', st, run, (e, g)) =
      (ever_decides P (λ p' s'. (p' ≡ p) × (s' ≡ s))).1 (f d, dirty_at (back F x (d - d)), along_walks a, (place, state)) in
      (st, rw (e, g) at run)
