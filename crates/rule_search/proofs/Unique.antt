-- No second set of nodes, and no second length of a way, fits the contract of `search`, as the check reads it from the source; of the shortest ways it
-- takes any. Assumes nothing.
use mathlib.Core.Path.{◌≡◌}
use mathlib.Core.List.{List}
use mathlib.Core.Logic.{⊎_elim}
use Prim.Native.Nat.{ℕ, zero, suc, ◌+◌, ◌≤◌, ◌<◌}
use native.Mathlib.Omega.{arith}
use lib.ListN.{get_or}
use Rattle.rule_search.specs.Search.{far, dst, Measured}
use Rattle.rule_search.proofs.search.Reads as search

module _ {Start : ℕ → Type 0} {Step : ℕ → ℕ → Type 0} {D F D' F' : List ℕ} (m : Measured Start Step D F) (m' : Measured Start Step D' F') where
  no_farther : (k y : ℕ) → dst D y < far → dst D y ≤ k → (dst D' y < far) × (dst D' y ≤ dst D y)
  no_farther zero y r h =
      ⊎_elim
      (λ (a : Start y × (dst D y ≡ 0)). let e = m'.entered y a.0 in (omega arith, omega arith))
      (λ (a : Step (get_or F y 0) y × (dst D (get_or F y 0) + 1 ≡ dst D y)). absurd (let z : ⊥ = omega (arith, a.1) in z))
      (m.sound y r)
  no_farther (suc k) y r h =
      ⊎_elim
      (λ (a : Start y × (dst D y ≡ 0)). let e = m'.entered y a.0 in (omega arith, omega arith))
      (λ (a : Step (get_or F y 0) y × (dst D (get_or F y 0) + 1 ≡ dst D y)).
      let (b, c) = no_farther k (get_or F y 0) (omega (arith, a.1)) (omega (arith, a.1)) in
      let (d, e) = m'.closed (get_or F y 0) b y a.0 in
      (d, omega (arith, a.1)))
      (m.sound y r)

measured_only : {Start : ℕ → Type 0} {Step : ℕ → ℕ → Type 0} {D F D' F' : List ℕ} → Measured Start Step D F → Measured Start Step D' F'
    → (y : ℕ) → dst D y < far → dst D' y ≡ dst D y
measured_only {D = D} {D' = D'} m m' y r =
    let (b, c) = no_farther m m' (dst D y) y r (omega arith) in
    let (d, e) = no_farther m' m (dst D' y) y b (omega arith) in
    omega arith

pub search_only : (κs : _) (a : _) (r r' : _) (s s' : _) → search.Post κs a r s → search.Post κs a r' s'
    → (y : ℕ) → dst s.1.1.0.now y < far → dst s'.1.1.0.now y ≡ dst s.1.1.0.now y
search_only κs a r r' s s' p q = measured_only p q
