-- A list of one number. Assumes nothing.
use mathlib.Core.Path.{◌≡◌, refl}
use Prim.Native.Nat.{ℕ, zero, suc}
use lib.ListN.{get_or}
use Rattle.std.specs.Prelude.{replicate}

-- behind its end, too, that number is read
pub filled : (n v j : ℕ) → get_or (replicate n v) j v ≡ v
filled zero v j = refl
filled (suc n) v zero = refl
filled (suc n) v (suc j) = filled n v j
