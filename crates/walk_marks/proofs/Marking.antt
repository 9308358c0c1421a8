-- What is marked after one place, or a list of places, is marked. Assumes nothing.
use mathlib.Core.Path.{◌≡◌, refl, sym, ◌∙◌, subst}
use mathlib.Core.Bool.{Bool, true, false}
use mathlib.Core.List.{List, [], ◌∷◌, ◌++◌}
use mathlib.Core.Logic.{◌⊎◌, inl, inr, ⊎_elim}
use Prim.Native.Nat.{ℕ, zero, suc, ◌+◌, ◌≤◌, ◌<◌}
use native.Mathlib.Omega.{arith}
use borrow.Author.Tests.{eqb-true, eqb-false}
use lib.Dec.{T, eqb}
use lib.ListN.{length, get_or, set, replicate, length-set}
use lib.Seq.{ext_get_or, get_or-set_same, get_or-set_other, set-get_or}
use Rattle.walk_marks.specs.Marks.{In, Marked, how_many, mark_all}

pub by_test : (b : Bool) {A : Type 0} → (b ≡ true → A) → (b ≡ false → A) → A
by_test true passed failed = passed refl
by_test false passed failed = failed refl

pub true_false : {A : Type 0} → true ≡ false → A
true_false e = absurd (subst T e tt)

same_test : (a b : Bool) → (a ≡ true → b ≡ true) → (b ≡ true → a ≡ true) → a ≡ b
same_test true b f g = sym (f refl)
same_test false true f g = g refl
same_test false false f g = refl

-- marks of one size on the same places are the same
pub same_marks : (m m' : List Bool) → length m ≡ length m' → ((p : ℕ) → Marked m p → Marked m' p) → ((p : ℕ) → Marked m' p → Marked m p) → m ≡ m'
same_marks m m' long f g = ext_get_or false m m' long (λ p h. same_test _ _ (f p) (g p))

pub same_or_not : (p q : ℕ) → (p ≡ q) ⊎ (p ≡ q → ⊥)
same_or_not p q = by_test (eqb p q) (λ e. inl (eqb-true p q e)) (λ e. inr (eqb-false p q e))

-- a place is marked after one is marked exactly if it was, or is that one
pub set_new : (m : List Bool) (q : ℕ) → q < length m → Marked (set m q true) q
set_new m q h = get_or-set_same m q true false h

pub set_keeps : (m : List Bool) (p q : ℕ) → q < length m → Marked m p → Marked (set m q true) p
set_keeps m p q h e =
    ⊎_elim (λ (s : p ≡ q). rw s (set_new m q h)) (λ (n : p ≡ q → ⊥). get_or-set_other m q p true false n ∙ e) (same_or_not p q)

pub set_only : (m : List Bool) (p q : ℕ) → Marked (set m q true) p → (p ≡ q) ⊎ Marked m p
set_only m p q e =
    ⊎_elim (λ (s : p ≡ q). inl s) (λ (n : p ≡ q → ⊥). inr (sym (get_or-set_other m q p true false n) ∙ e)) (same_or_not p q)

-- setting a mark to what it is changes nothing
pub stays : (m : List Bool) (p : ℕ) (b : Bool) → get_or m p false ≡ b → m ≡ set m p b
stays m p b e = sym (rw (← e) (set-get_or m p false))

pub unmarked : (k p : ℕ) → get_or (replicate k false) p false ≡ false
unmarked zero p = refl
unmarked (suc k) zero = refl
unmarked (suc k) (suc p) = unmarked k p

-- the same of a list of places, each below n
abbrev pub Below : ℕ → List ℕ → Type 0
Below n qs = (q : ℕ) → In q qs → q < n

module _ (m : List Bool) where
  tail_below : (q : ℕ) (qs : List ℕ) → Below (length m) (q ∷ qs) → Below (length (set m q true)) qs
  tail_below q qs h = rw (length-set m q true) (λ x i. h x (inr i))

pub all_keeps : (m : List Bool) (qs : List ℕ) (p : ℕ) → Below (length m) qs → Marked m p → Marked (mark_all m qs) p
all_keeps m [] p h e = e
all_keeps m (q ∷ qs) p h e = all_keeps (set m q true) qs p (tail_below m q qs h) (set_keeps m p q (h q (inl refl)) e)

pub all_new : (m : List Bool) (qs : List ℕ) (p : ℕ) → Below (length m) qs → In p qs → Marked (mark_all m qs) p
all_new m [] p h i = absurd i
all_new m (q ∷ qs) p h (inl e) = all_keeps (set m q true) qs p (tail_below m q qs h) (rw e (set_new m q (h q (inl refl))))
all_new m (q ∷ qs) p h (inr i) = all_new (set m q true) qs p (tail_below m q qs h) i

pub all_only : (m : List Bool) (qs : List ℕ) (p : ℕ) → Marked (mark_all m qs) p → In p qs ⊎ Marked m p
all_only m [] p e = inr e
all_only m (q ∷ qs) p e =
    ⊎_elim (λ (i : In p qs). inl (inr i))
    (λ (w : Marked (set m q true) p). ⊎_elim (λ (s : p ≡ q). inl (inl s)) (λ (o : Marked m p). inr o) (set_only m p q w))
    (all_only (set m q true) qs p e)

pub all_append : (m : List Bool) (qs rs : List ℕ) → mark_all m (qs ++ rs) ≡ mark_all (mark_all m qs) rs
all_append m [] rs = refl
all_append m (q ∷ qs) rs = all_append (set m q true) qs rs

-- how many are marked
pub count_below : (m : List Bool) → how_many m ≤ length m
count_below [] = omega arith
count_below (true ∷ m) = omega (arith, count_below m)
count_below (false ∷ m) = omega (arith, count_below m)

pub none_counted : (m : List Bool) → ((p : ℕ) → get_or m p false ≡ false) → how_many m ≡ 0
none_counted [] h = refl
none_counted (true ∷ m) h = true_false (h 0)
none_counted (false ∷ m) h = none_counted m (λ p. h (suc p))

-- a new mark counts one, and one that is taken away counts one less
pub one_more : (m : List Bool) (p : ℕ) → p < length m → get_or m p false ≡ false → how_many (set m p true) ≡ how_many m + 1
one_more [] p h e = absurd (let z : ⊥ = omega arith in z)
one_more (true ∷ m) zero h e = true_false e
one_more (false ∷ m) zero h e = omega arith
one_more (true ∷ m) (suc p) h e = omega (arith, one_more m p (omega arith) e)
one_more (false ∷ m) (suc p) h e = one_more m p (omega arith) e

pub one_less : (m : List Bool) (p : ℕ) → Marked m p → how_many (set m p false) + 1 ≡ how_many m
one_less [] p e = true_false (sym e)
one_less (true ∷ m) zero e = omega arith
one_less (false ∷ m) zero e = true_false (sym e)
one_less (true ∷ m) (suc p) e = omega (arith, one_less m p e)
one_less (false ∷ m) (suc p) e = one_less m p e
