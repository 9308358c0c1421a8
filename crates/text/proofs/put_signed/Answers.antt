-- `text::put_signed` meets its contract: a number that is not negative, or else its complement and one, has the digits. Assumes nothing.
use borrow.Author.Tests.{ltb-true}
use mathlib.Core.Path.{◌≡◌, refl, ap, ◌∙◌}
use mathlib.Core.Bool.{true, false}
use mathlib.Core.List.{◌++◌}
use Prim.Native.Nat.{ℕ, ◌+◌, ◌-◌, ◌^◌}
use native.Mathlib.Nat.{not-suc-le-zero}
use native.Mathlib.Numerals.{add-one}
use native.Mathlib.Omega.{arith}
use lib.IntN.{ℤ, pos, negsuc}
use lib.ListN.{length}
use lib.Signed.{mag, lt_z}
use mir.Syntax.{w64}
use mir.Val.{SFits, to_z, of_z}
use mir.ValLaws.{to_z_pos, to_z-of_z}
use Rattle.text.specs.Text.{bytes, decimal_of, signed_of}
use Rattle.text.proofs.Writing.{◌then◌}
use Rattle.text.proofs.put_signed.Goals as goal

abbrev complement : ℕ → ℕ
complement n = 2 ^ 64 - 1 - n

-- what the code's test tells of z
below : {z : ℤ} → SFits w64 z → lt_z (to_z w64 (of_z w64 z)) (pos 0) ≡ true → (to_z w64 (complement (of_z w64 z)) ≡ pos (mag z))
    × (signed_of z ≡ bytes "-" ++ decimal_of (mag z + 1))
unfolding signed_of
below {z = pos n} fits e = absurd (not-suc-le-zero (ltb-true n 0 (rw (to_z_pos w64 n fits.sfits) at e)))
below {z = negsuc n} fits e = (ap (to_z w64) {x = complement (of_z w64 (negsuc n))} {y = n} (omega arith) ∙ to_z_pos w64 n fits.sfits, rw (add-one n))

above : {z : ℤ} → SFits w64 z → lt_z (to_z w64 (of_z w64 z)) (pos 0) ≡ false → (to_z w64 (of_z w64 z) ≡ pos (mag z)) × (signed_of z ≡ decimal_of (mag z))
unfolding signed_of
above {z = pos n} fits e = (to_z_pos w64 n fits.sfits, refl)
above {z = negsuc n} fits e =
    let never = rw (to_z-of_z w64 (negsuc n) fits) at e in
    let clash : ◌≡◌ {A = ℕ} 0 1 = cc in
    absurd (omega arith)

pub put_one-at-requires : goal.put_one-at-requires
put_one-at-requires c = omega (arith, ap length (below c.ranges.v c.if-v-lt0.true).1)

pub put_decimal-requires : goal.put_decimal-requires
put_decimal-requires c =
    let minus = below c.ranges.v c.if-v-lt0.true in
    rw minus.0 (omega (arith, ap length minus.1))

pub put_decimal-requires-else-v-lt0 : goal.put_decimal-requires-else-v-lt0
put_decimal-requires-else-v-lt0 c =
    let a = above c.ranges.v c.if-v-lt0.false in
    rw a.0 (rw a.1 at c.requires)

pub returns-then-v-lt0 : goal.returns-then-v-lt0
returns-then-v-lt0 c =
    let minus = below c.ranges.v c.if-v-lt0.true in
    rw minus.1 (c.put_one-at.ensures then rw minus.0 at c.put_decimal.ensures)

pub returns-else-v-lt0 : goal.returns-else-v-lt0
returns-else-v-lt0 c =
    let a = above c.ranges.v c.if-v-lt0.false in
    rw a.1 (rw a.0 at c.put_decimal-else-v-lt0.ensures)
