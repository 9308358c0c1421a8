-- Commits and open places that are looked for, and a way that is written. Assumes nothing.
use mathlib.Core.Path.{◌≡◌, ap, ◌∙◌}
use mathlib.Core.Bool.{true}
use mathlib.Core.List.{List}
use mathlib.Core.Logic.{⊎_elim}
use Prim.Native.Nat.{ℕ, ◌+◌, ◌/◌, ◌-◌, ◌≤◌, ◌<◌}
use native.Mathlib.Omega.{arith}
use borrow.Author.Count.{below_more}
use lib.ListN.{length, get_or, set}
use lib.Seq.{get_or-set_same, get_or-set_other}
use Rattle.rule_runs.proofs.Tests.{either_way}
use Rattle.std.specs.Prelude.{Option}
use Rattle.rule_places.specs.Coded.{has, flags_at, COMMITS}
use Rattle.rule_search.specs.Search.{node, dst}
use Rattle.rule_verdict.specs.Parts.{steps_to, Nearest, back}
use Rattle.rule_verdict.specs.declared.Near.{Near}

-- one commit more
module _ {flags D : List ℕ} {p : ℕ} {best : Option Near} (n : Nearest flags D p best) where
  pub nearer_not : (has (flags_at flags p) COMMITS ≡ true → steps_to best ≤ dst D (node p true)) → Nearest flags D (p + 1) best
  nearer_not h = record {
    least = below_more (λ x. has (flags_at flags x) COMMITS ≡ true → steps_to best ≤ dst D (node x true)) p n.least h;
    found = n.found;
  }

-- a place of the way more is written
pub write_on : (F : List ℕ) (x d : ℕ) (way₀ way : List ℕ) (i y : ℕ) → i ≤ d → i < length way → y ≡ back F x (d - i)
    → ((j : ℕ) → i < j → j ≤ d → get_or way j 0 ≡ back F x (d - j) / 2) → ((j : ℕ) → d < j → get_or way j 0 ≡ get_or way₀ j 0)
    → ((j : ℕ) → i ≤ j → j ≤ d → get_or (set way i (y / 2)) j 0 ≡ back F x (d - j) / 2)
    × ((j : ℕ) → d < j → get_or (set way i (y / 2)) j 0 ≡ get_or way₀ j 0)
write_on F x d way₀ way i y h k e f g = (
  λ j l u. ⊎_elim
      (λ (v : i + 1 ≤ j). get_or-set_other way i j (y / 2) 0 (λ s. (let z : ⊥ = omega arith in z)) ∙ f j (omega arith) u)
      (λ (v : j < i + 1). let same : j ≡ i = omega arith in rw same (get_or-set_same way i (y / 2) 0 k ∙ ap (λ (z : ℕ). z / 2) e))
      (either_way (i + 1) j),
  λ j l. get_or-set_other way i j (y / 2) 0 (λ s. (let z : ⊥ = omega arith in z)) ∙ g j l,
)
