-- How far a look for a mark goes. Assumes nothing.
use mathlib.Core.Path.{◌≡◌, refl, sym, ◌∙◌}
use mathlib.Core.Bool.{Bool, false}
use mathlib.Core.List.{List, [], ◌∷◌}
use mathlib.Core.Logic.{inl, inr, ⊎_elim}
use Prim.Native.Nat.{ℕ, zero, suc, ◌+◌, ◌*◌, ◌/◌, ◌≤◌, ◌<◌}
use native.Mathlib.Omega.{arith}
use borrow.Author.Tests.{ltb-true, ltb-false}
use lib.Dec.{ltb}
use lib.ListN.{length, get_or}
use Rattle.walk_marks.specs.Looking.{NoneFrom, First, Passed}
use Rattle.walk_marks.specs.Marks.{Marked, marks_of}
use Rattle.walk_marks.proofs.Marking.{by_test, true_false}
use Rattle.walk_marks.proofs.Marks.{length_marks, none_of}

module _ (ws : List ℕ) (p : ℕ) (here : p < 32 * length ws) where
  -- over a number that is zero
  pub by_number : get_or ws (p / 32) 0 ≡ 0 → Passed (marks_of ws) p ((p / 32 + 1) * 32)
  by_number e = record {
    from = omega arith;
    to = omega (arith, here, length_marks ws);
    none = λ q l h. none_of ws p q here e l h;
    stays = λ s. absurd (let z : ⊥ = omega arith in z);
  }

  -- not over a mark
  pub at_mark : Marked (marks_of ws) p → Passed (marks_of ws) p p
  at_mark e = record {
    from = omega arith;
    to = omega (arith, here, length_marks ws);
    none = λ q l h. absurd (let z : ⊥ = omega arith in z);
    stays = λ s. e;
  }

  -- over a place without one
  pub by_one : get_or (marks_of ws) p false ≡ false → Passed (marks_of ws) p (p + 1)
  by_one e = record {
    from = omega arith;
    to = omega (arith, here, length_marks ws);
    none = λ q l h. let same : q ≡ p = omega arith in rw same e;
    stays = λ s. absurd (let z : ⊥ = omega arith in z);
  }

module _ {m : List Bool} {p at : ℕ} (from : p ≤ at) (none : NoneFrom m p at) where
  -- one look more
  pub none_more : {r : ℕ} → Passed m at r → NoneFrom m p r
  none_more go q l h =
      by_test (ltb q at) (λ e. none q l (ltb-true q at e)) (λ e. go.none q (ltb-false q at e) h)

  -- where the look stays, and where it ends
  pub first_here : Marked m at → First m p at
  first_here e = record { from = from; none = none; stops = inl e }

  pub first_nowhere : at ≡ length m → First m p at
  first_nowhere e = record { from = from; none = none; stops = inr e }

-- behind all places no mark is
pub beyond : (m : List Bool) (p : ℕ) → length m ≤ p → get_or m p false ≡ false
beyond [] p h = refl
beyond (x ∷ m) zero h = absurd (let z : ⊥ = omega arith in z)
beyond (x ∷ m) (suc p) h = beyond m p (omega arith)

-- a first place that is one is marked, and if it is none from the start on, nothing is
pub first_is : {m : List Bool} {p r : ℕ} → First m p r → r < length m → Marked m r
first_is {m} {r = r} f h = ⊎_elim (λ (e : Marked m r). e) (λ (e : r ≡ length m). absurd (let z : ⊥ = omega arith in z)) f.stops

pub first_none : {m : List Bool} {r : ℕ} → First m 0 r → length m ≤ r → (p : ℕ) → get_or m p false ≡ false
first_none {m} {r} f h p =
    by_test (ltb p r) (λ e. f.none p (omega arith) (ltb-true p r e)) (λ e. beyond m p (omega (arith, ltb-false p r e)))

-- there is one first place
not_before : {m : List Bool} {p r r' : ℕ} → First m p r → First m p r' → p ≤ length m → r < r' → ⊥
not_before {m} {p} {r} {r'} f g h l =
    ⊎_elim
    (λ (e : Marked m r). true_false (sym e ∙ g.none r f.from l))
    (λ (e : r ≡ length m).
    ⊎_elim
    (λ (e' : Marked m r'). true_false (sym e' ∙ beyond m r' (omega arith)))
    (λ (e' : r' ≡ length m). let z : ⊥ = omega arith in z)
    g.stops)
    f.stops

pub first_only : {m : List Bool} {p r r' : ℕ} → p ≤ length m → First m p r → First m p r' → r ≡ r'
first_only {r = r} {r' = r'} h f g =
    by_test (ltb r r')
    (λ e. absurd (not_before f g h (ltb-true r r' e)))
    (λ e. by_test (ltb r' r)
    (λ e'. absurd (not_before g f h (ltb-true r' r e')))
    (λ e'. omega (arith, ltb-false r r' e, ltb-false r' r e')))
