-- Nodes that are reached one after the other. Assumes nothing.
use mathlib.Core.Path.{◌≡◌, refl, ◌∙◌}
use mathlib.Core.Bool.{Bool, true, false, ◌||◌}
use mathlib.Core.List.{List, [], ◌∷◌}
use mathlib.Core.Logic.{◌⊎◌, inl, inr, ⊎_elim}
use Prim.Native.Nat.{ℕ, zero, suc, ◌+◌, ◌≤◌, ◌<◌}
use native.Mathlib.Omega.{arith}
use borrow.Author.Tests.{eqb-true, eqb-false, lt-ltb, le-ltb}
use lib.Dec.{eqb, ltb}
use lib.ListN.{length, set, get_or-eq_default}
use lib.Seq.{get_or-set_same, get_or-set_other}
use Rattle.rule_runs.proofs.Tests.{by_test, true_false, either_way}
use Rattle.rule_returns.proofs.Tables.{or_false, or_num, num_small}
use Rattle.rule_search.specs.Search.{far, dst, reached_in, Spreads}

-- a node that is reached is one
pub reached_inside : (D : List ℕ) (y : ℕ) → dst D y < far → y < length D
reached_inside D y h =
    ⊎_elim (λ (l : length D ≤ y). absurd (let z : ⊥ = omega (arith, get_or-eq_default D far {n = y} l) in z)) (λ (l : y < length D). l)
    (either_way (length D) y)

-- how many are reached
pub count_below : (D : List ℕ) → reached_in D ≤ length D
count_below [] = omega arith
count_below (x ∷ D) = omega (arith, count_below D, num_small (ltb x far))

count_set : (D : List ℕ) (q d : ℕ) → q < length D → far ≤ dst D q → d < far → reached_in (set D q d) ≡ reached_in D + 1
count_set [] q d h f k = absurd (let z : ⊥ = omega arith in z)
count_set (x ∷ D) zero d h f k =
    let was : ltb x far ≡ false = le-ltb x far f in
    let is : ltb d far ≡ true = lt-ltb d far k in
    rw (was, is) (omega arith)
count_set (x ∷ D) (suc q) d h f k = omega (arith, count_set D q d (omega arith) f k)

-- nodes of the kinds before i
abbrev pub Some : (ℕ → ℕ → Type 0) → ℕ → ℕ → Type 0
Some Y i y = (j : ℕ) × (j < i) × Y j y

module _ {x d : ℕ} where
  pub spreads_for : {Y Z : ℕ → Type 0} {D F D' F' : List ℕ} {r : Bool} → ((y : ℕ) → Y y → Z y) → ((y : ℕ) → Z y → Y y)
      → Spreads Y x d D F D' F' r → Spreads Z x d D F D' F' r
  spreads_for {D = D} f g s = record {
    kept = s.kept;
    only = λ y r. ⊎_elim (λ (o : dst D y < far). inl o) (λ w. inr (f y w.0, w.1, w.2)) (s.only y r);
    done = λ y i. s.done y (g y i);
    more = s.more;
    none = s.none;
  }

  pub spreads_then : {Y Z : ℕ → Type 0} {D F D' F' D'' F'' : List ℕ} {a b : Bool} → Spreads Y x d D F D' F' a → Spreads Z x d D' F' D'' F'' b
      → Spreads (λ y. Y y ⊎ Z y) x d D F D'' F'' (a || b)
  spreads_then {Y} {Z} {D} {F} {D'} {F'} {D''} {F''} {a} {b} s t = record {
    kept = λ y r. let (e, f) = s.kept y r in let (e', f') = t.kept y (omega arith) in (e' ∙ e, f' ∙ f);
    only = λ y r. ⊎_elim
        (λ (o : dst D' y < far). ⊎_elim
        (λ (o' : dst D y < far). inl o')
        (λ w. let (e, f) = t.kept y o in inr (inl w.0, e ∙ w.1, f ∙ w.2))
        (s.only y o))
        (λ w. inr (inr w.0, w.1, w.2))
        (t.only y r);
    done = λ y i. ⊎_elim (λ (j : Y y). let h = s.done y j in omega (arith, (t.kept y h).0)) (λ (j : Z y). t.done y j) i;
    more = omega (arith, s.more, t.more, or_num a b);
    none = λ e y r. let (f, g) = or_false a b e in s.none f y (t.none g y r);
  }

-- one node: it is reached already, or it is new
module _ (D F : List ℕ) (q x d : ℕ) where
  pub new_node : q < length D → q < length F → far ≤ dst D q → d < far → Spreads (λ y. y ≡ q) x d D F (set D q d) (set F q x) true
  new_node h k free small = record {
    kept = λ y r. let other : y ≡ q → ⊥ = λ e. (let z : ⊥ = omega (arith, same_dst y e) in z) in
        (get_or-set_other D q y d far other, get_or-set_other F q y x 0 other);
    only = λ y r. by_test (eqb y q)
        (λ e. let s = eqb-true y q e in inr (s, rw s (get_or-set_same D q d far h), rw s (get_or-set_same F q x 0 k)))
        (λ e. inl (omega (arith, get_or-set_other D q y d far (eqb-false y q e))));
    done = λ y e. rw e (omega (arith, get_or-set_same D q d far h));
    more = omega (arith, count_set D q d h free small);
    none = λ e. true_false e;
  }
    where
      same_dst : (y : ℕ) → y ≡ q → dst D y ≡ dst D q
      same_dst y e = rw e refl
