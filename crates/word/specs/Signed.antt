-- Signed numbers: as 32 bits with wrapping sums, and as whole numbers.
use Rattle.std.specs.Prelude.{ℕ, ◌+◌, ◌-◌, ◌%◌, ◌^◌, ℤ, pos, neg_ℤ, nat_lt}
use Rattle.word.specs.Choice.{pick}

-- the n bits of v as a signed number, in 32 bits: v, or v - 2 ^ n, which wraps to v + (2 ^ 32 - 2 ^ n)
unfoldable pub sext_of : ℕ → ℕ → ℕ
sext_of v n = pick (nat_lt v (2 ^ (n - 1))) v (v + (2 ^ 32 - 2 ^ n))

-- the low 32 bits of a sum
unfoldable pub target_of : ℕ → ℕ → ℕ
target_of addr off = (addr + off) % 2 ^ 32

abbrev pub minus : ℕ → ℤ
minus v = neg_ℤ (pos v)

-- 32 bits as a signed number: v, or v - 2 ^ 32
abbrev pub signed : ℕ → ℤ
signed v = pick (nat_lt v (2 ^ 31)) (pos v) (minus (2 ^ 32 - v))
