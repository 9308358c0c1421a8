-- The machine's count of a number's ones is that of its low digits, where it has no more. Assumes nothing.
use Rattle.std.proofs.Common.{◌≡◌, ℕ, zero, suc, ◌+◌, ◌/◌, ◌%◌, ◌^◌, ◌<◌, ap, ◌∙◌, arith}
use Rattle.std.proofs.Math.Arith.{lt-one}
use lib.Count.{ones, ones_in, ones_step}

pub ones_in_lem : (d n : ℕ) → n < 2 ^ d → ones n ≡ ones_in d n
unfolding ones ones_in
ones_in_lem zero n h = ap ones (lt-one h)
ones_in_lem (suc d) n h = ones_step n ∙ ap (λ (x : ℕ). n % 2 + x) (ones_in_lem d (n / 2) (omega arith))
