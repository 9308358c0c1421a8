-- Texts cut at a byte. Assumes nothing.
use mathlib.Core.Path.{◌≡◌, refl}
use mathlib.Core.Bool.{Bool, true, false, not}
use mathlib.Core.List.{List, [], ◌∷◌, ◌++◌}
use Prim.Native.Nat.{ℕ}
use borrow.Author.Tests.{eq-eqb, not-true}
use lib.Dec.{eqb}
use Rattle.word.specs.Choice.{pick, both, by_test, parts}

-- every byte of a text passes a test
abbrev pub all : (ℕ → Bool) → List ℕ → Bool
all f [] = true
all f (x ∷ xs) = both (f x) (all f xs)

pub all_cat : (f : ℕ → Bool) (a b : List ℕ) → all f (a ++ b) ≡ both (all f a) (all f b)
all_cat f [] b = refl
all_cat f (x ∷ a) b = by_test (f x) (λ e. rw e (all_cat f a b)) (λ e. rw e)

abbrev pub isnt : ℕ → ℕ → Bool
isnt s x = not (eqb x s)

-- no byte of a text is s
abbrev pub lacks : ℕ → List ℕ → Bool
lacks s = all (isnt s)

-- a text's pieces between the bytes s
abbrev pub onto : ℕ → List (List ℕ) → List (List ℕ)
onto x [] = (x ∷ []) ∷ []
onto x (p ∷ ps) = (x ∷ p) ∷ ps

abbrev pub pieces : ℕ → List ℕ → List (List ℕ)
pieces s [] = [] ∷ []
pieces s (x ∷ xs) = pick (eqb x s) ([] ∷ pieces s xs) (onto x (pieces s xs))

module _ (s : ℕ) where
  other : (x : ℕ) (a : List ℕ) → lacks s (x ∷ a) ≡ true → eqb x s ≡ false
  other x a h = not-true (eqb x s) (parts (not (eqb x s)) (lacks s a) h).0

  rest : (x : ℕ) (a : List ℕ) → lacks s (x ∷ a) ≡ true → lacks s a ≡ true
  rest x a h = (parts (not (eqb x s)) (lacks s a) h).1

  pub uncut : (a : List ℕ) → lacks s a ≡ true → pieces s a ≡ a ∷ []
  uncut [] h = refl
  uncut (x ∷ a) h = simp (other x a h, uncut a (rest x a h))

  pub cut : (a b : List ℕ) → lacks s a ≡ true → pieces s (a ++ s ∷ b) ≡ a ∷ pieces s b
  cut [] b h = simp (eq-eqb s s refl)
  cut (x ∷ a) b h = simp (other x a h, cut a b (rest x a h))
