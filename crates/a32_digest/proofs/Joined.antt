-- Two rows, one after the other, are mixed in as one is and then the other. Assumes nothing.
use Rattle.std.proofs.Common.{◌≡◌, ℕ, List, [], ◌∷◌, ◌++◌, refl}
use Rattle.a32_digest.specs.Digest.{mix, mixed}

pub joined : (h : ℕ) (xs ys : List ℕ) → mixed h (xs ++ ys) ≡ mixed (mixed h xs) ys
joined h [] ys = refl
joined h (x ∷ xs) ys = joined (mix h x) xs ys
