-- The steps of a section stay among its places. Assumes nothing.
use mathlib.Core.Path.{◌≡◌, refl}
use mathlib.Core.Bool.{Bool, true, false, not}
use mathlib.Core.List.{List, [], ◌∷◌, ◌++◌}
use mathlib.Core.Logic.{◌⊎◌, inl, inr, ⊎_elim}
use Prim.Native.Nat.{ℕ, ◌+◌, ◌<◌}
use borrow.Author.Tests.{ltb-true}
use lib.Dec.{leb, ltb}
use Rattle.word.specs.Choice.{pick, both, parts}
use Rattle.section.specs.Section.{opening_of}
use Rattle.section.specs.declared.Opened.{Opened}
use Rattle.walk_marks.specs.Marks.{In}
use Rattle.walk_marks.proofs.Marking.{Below}
use Rattle.walk_steps.specs.Leads.{target_addr, enters_thumb, leads_at}
use Rattle.std.specs.Prelude.{Some, None, is_some}
use Rattle.walk_steps.specs.Steps.{place_of, is_inside, steps_on, steps_to, next_place, target_place, listed, steps_from, steps_of}
use Rattle.walk_steps.specs.declared.Leads.{Leads}

-- what stands in two lists joined
in_split : (l r : List ℕ) (p : ℕ) → In p (l ++ r) → In p l ⊎ In p r
in_split [] r p i = inr i
in_split (x ∷ l) r p (inl e) = inl (inl e)
in_split (x ∷ l) r p (inr i) = ⊎_elim (λ (a : In p l). inl (inr a)) (λ (b : In p r). inr b) (in_split l r p i)

module _ (o : Opened) where
  pub on_below : (p : ℕ) (l : Leads) → steps_on o p l ≡ true → p + 1 < o.count
  on_below p l e = ltb-true (p + 1) o.count (parts l.on (ltb (p + 1) o.count) e).1

  pub to_below : (l : Leads) → steps_to o l ≡ true → place_of o (target_addr l.to) < o.count
  to_below l e =
      let place = place_of o (target_addr l.to) in
      let followed = (parts (is_some l.to) (both (not (enters_thumb l.to)) (is_inside o (target_addr l.to))) e).1 in
      let inside = (parts (not (enters_thumb l.to)) (is_inside o (target_addr l.to)) followed).1 in
      ltb-true place o.count (parts (leb o.base (target_addr l.to)) (ltb place o.count) inside).1

  listed_below : (b : Bool) (q : ℕ) → (b ≡ true → q < o.count) → Below o.count (listed (pick b (Some q) None))
  listed_below true q h x (inl s) = rw s (h refl)
  listed_below true q h x (inr i) = absurd i
  listed_below false q h x i = absurd i

  from_below : (p : ℕ) (l : Leads) → Below o.count (steps_from o p l)
  from_below p l x i =
      ⊎_elim
      (λ (a : In x (listed (next_place o p l))). listed_below (steps_on o p l) (p + 1) (on_below p l) x a)
      (λ (a : In x (listed (target_place o l))). listed_below (steps_to o l) (place_of o (target_addr l.to)) (to_below l) x a)
      (in_split (listed (next_place o p l)) (listed (target_place o l)) x i)

  -- a place that is stepped to, or none
  pub next_below : (p : ℕ) (l : Leads) {q : ℕ} → next_place o p l ≡ Some q → q < o.count
  next_below p l {q} is = listed_below (steps_on o p l) (p + 1) (on_below p l) q (rw is (inl refl))

  pub target_below : (l : Leads) {q : ℕ} → target_place o l ≡ Some q → q < o.count
  target_below l {q} is = listed_below (steps_to o l) (place_of o (target_addr l.to)) (to_below l) q (rw is (inl refl))

pub steps_inside : (s : List ℕ) (p : ℕ) → Below (opening_of s).count (steps_of s p)
steps_inside s p = unfold steps_of in from_below (opening_of s) p (leads_at s p)

-- the same by what the section was opened to
pub inside_of : (s : List ℕ) {o : Opened} → o ≡ opening_of s → (p : ℕ) → Below o.count (steps_of s p)
inside_of s e p = rw e (steps_inside s p)
