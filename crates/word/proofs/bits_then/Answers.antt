-- `word::bits_then` meets its contract: sixteen bits at most fit. Assumes nothing.
use Rattle.std.proofs.Common.{◌≡◌, ℕ, ◌+◌, ◌-◌, ◌*◌, ◌%◌, ◌^◌, ◌<◌, lt_of_lt_of_le, arith, pow_mono}
use Rattle.word.specs.Field.{field}
use Rattle.word.specs.Layout.{joined, joined_small}
use Rattle.word.proofs.One.{shifted_one}
use Rattle.word.proofs.bits_then.Goals as goal

-- the upper bits, moved up, and the whole
module _ (c : goal.After-bits) where
  abbrev j : ℕ
  j = c.args.hi - c.args.lo + 1

  abbrev k : ℕ
  k = c.args.hi2 - c.args.lo2 + 1

  moved : c.bits.result * ((1 * 2 ^ k) % 2 ^ 32) ≡ field c.args.w c.args.lo j * 2 ^ k
  moved = simp (c.bits.ensures, shifted_one k (omega arith))

  within : joined c.args.w c.args.lo j c.args.lo2 k < 2 ^ 16
  within = lt_of_lt_of_le (joined_small _ _ j _ k) (pow_mono {j = 16} (omega arith))

pub overflow_mul-result : goal.overflow_mul-result
overflow_mul-result c = record { fits = rw (moved c) (omega (arith, within c)) }

pub overflow_add-result-2 : goal.overflow_add-result-2
overflow_add-result-2 c = record { fits = rw (moved c.before, c.bits-2.ensures) (omega (arith, within c.before)) }
