-- `word::sext` meets its contract: with `half` the sign's own weight, `v + 2 ^ 32 - 2 ^ n` is summed in steps that stay
-- within 32 bits. Assumes nothing.
use Rattle.std.proofs.Common.{zero}
use Rattle.std.proofs.Common.{◌≡◌, ℕ, suc, ◌+◌, ◌-◌, ◌*◌, ◌%◌, ◌^◌, ◌<◌, ◌≤◌, sub-one, arith, pow_mono, le-ltb, lt-ltb}
use Rattle.word.specs.Signed.{sext_of}
use Rattle.word.proofs.One.{shifted_one}
use Rattle.word.proofs.sext.Goals as goal

-- two halves
halves : (n : ℕ) → 0 < n → 2 ^ n ≡ 2 * 2 ^ (n - 1)
halves zero h = elim h [ ]
halves (suc n) h = rw sub-one (omega arith)

half_le : (n : ℕ) → n < 32 → 2 ^ (n - 1) ≤ 2147483648
half_le n h = pow_mono {j = 31} (omega arith)

-- what is left once the sign is known to be set, over the sign's weight h
module _ (v n : ℕ) (some : 0 < n) (most : n < 32) (fits : v < 2 ^ n) (h : ℕ) (weight : h ≡ 2 ^ (n - 1)) (set : h ≤ v) where
  widened : v - h + (2147483648 - h) + 2147483648 ≡ v + (2 ^ 32 - 2 ^ n)
  widened = omega (arith, halves n some, half_le n most)

  first : v - h + (2147483648 - h) < 2 ^ 32
  first = omega (arith, halves n some, half_le n most)

  second : v - h + (2147483648 - h) + 2147483648 < 2 ^ 32
  second = omega (arith, halves n some, half_le n most)

weighs : (c : goal.Else-v-half) → (1 * 2 ^ (c.args.n - 1)) % 2 ^ 32 ≡ 2 ^ (c.args.n - 1)
weighs c = shifted_one (c.args.n - 1) (omega arith)

pub returns-then-v-half : goal.returns-then-v-half
returns-then-v-half c = unfold sext_of in simp (lt-ltb _ _ (rw (shifted_one (c.args.n - 1) (omega arith)) at c.if-v-half.true))

pub returns-else-v-half : goal.returns-else-v-half
returns-else-v-half c = unfold sext_of in
    simp (le-ltb _ _ (rw (weighs c) at c.if-v-half.false))
    (widened _ _ c.requires.0 c.requires.1 c.requires.2 _ (weighs c) c.if-v-half.false)
