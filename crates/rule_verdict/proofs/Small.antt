-- A verdict and its number are small. Assumes nothing.
use mathlib.Core.Path.{◌≡◌, ap}
use mathlib.Core.List.{List}
use Prim.Native.Nat.{ℕ, ◌≤◌, ◌<◌}
use native.Mathlib.Omega.{arith}
use borrow.Author.Tests.{ltb-true, ltb-false}
use lib.Dec.{ltb}
use lib.ListN.{length}
use Rattle.std.specs.Prelude.{Result, Ok}
use Rattle.word.specs.Choice.{by_test}
use Rattle.word.specs.Refusal.{TOO_MANY_WORDS, NO_PLACE, NO_ROOM, refusing}
use Rattle.word.specs.declared.refusal.Refusal.{Refusal}
use Rattle.rule_places.specs.Coded.{Inside}
use Rattle.rule_verdict.specs.Verdicts.{number, value, verdict_of, value_of, Room, Rules}
use Rattle.rule_verdict.specs.declared.Verdict.{Verdict}
use Rattle.rule_verdict.specs.declared.Verdict.TheVariants as V

abbrev pub Small : Result Verdict Refusal → Type 0
Small r = (verdict_of r < 3) × (value_of r < 8195)

refused_small : (r : Result Verdict Refusal) (n : ℕ) → r ≡ refusing n → Small r
refused_small r n e = (omega (arith, ap verdict_of e), omega (arith, ap value_of e))

number_small : (v : Verdict) → number v < 3
number_small V.Holds = omega arith
number_small (V.Violated n) = omega arith
number_small (V.Undecided q) = omega arith

judged_small : (r : Result Verdict Refusal) (v : Verdict) → r ≡ Ok v → value v < 8195 → Small r
judged_small r v e h = (omega (arith, ap verdict_of e, number_small v), omega (arith, ap value_of e))

-- a number that cannot but be below another is
below : (a b : ℕ) → ((a < b → ⊥) → ⊥) → a < b
below a b h = by_test (ltb a b) (λ e. ltb-true a b e) (λ e. absurd (h (λ l. (let z : ⊥ = omega (arith, ltb-false a b e) in z))))

module _ {flags targets further entries known dist from way known' dist' from' way' : List ℕ} {r : Result Verdict Refusal}
    (p : Rules flags targets further entries known dist from way known' dist' from' way' r) where
  few : length flags ≤ 4096 → (Small r → ⊥) → ⊥
  few h not_so =
      let room : Inside flags targets further entries → Room flags known dist from way → ⊥ = λ i t.
      let (v, e, m, a, y) = p.judged h i t in not_so (judged_small r v e (omega arith)) in
      let out : Inside flags targets further entries → ⊥ = λ i. not_so (refused_small r NO_ROOM (p.short h i (room i)).0) in
      not_so (refused_small r NO_PLACE (p.outside h out).0)

  fine : (Small r → ⊥) → ⊥
  fine not_so =
      by_test (ltb 4096 (length flags))
      (λ e. not_so (refused_small r TOO_MANY_WORDS (p.many (ltb-true 4096 (length flags) e)).0))
      (λ e. few (omega (arith, ltb-false 4096 (length flags) e)) not_so)

  pub small : Small r
  small = (below (verdict_of r) 3 (λ not_so. fine (λ s. not_so s.0)), below (value_of r) 8195 (λ not_so. fine (λ s. not_so s.1)))
