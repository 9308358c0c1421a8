-- What a reader yields stands at its place, and where it yields nothing the section has ended. Assumes nothing.
use mathlib.Core.Path.{◌≡◌, ap, ◌∙◌}
use mathlib.Core.List.{List, ◌∷◌}
use Prim.Native.Nat.{ℕ, ◌<◌}
use native.Mathlib.Omega.{arith}
use lib.ListN.{length, length-drop}
use Rattle.section.specs.Section.{opening_of, places_of, left_of, step_of}
use Rattle.section.specs.declared.Step.{Step}
use Rattle.section.specs.declared.Here.{Here}
use Rattle.section.proofs.Places.{Stands, something, before_end}

module _ (s : List ℕ) (place : ℕ) {here : Here} {rest : List Here} (left : left_of s place ≡ here ∷ rest) where
  pub inside : place < length (places_of s)
  inside = omega (arith, ap (λ (l : List Here). length l) left, length-drop place (places_of s))

  -- something stands there
  pub stands : {after : ℕ} → record { here = here; after = after } ≡ step_of s place → Stands here
  stands is = rw (ap (λ (x : Step). x.here) is ∙ before_end s inside) (something s (opening_of s) place)
