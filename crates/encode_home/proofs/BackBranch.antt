-- The branches: the offset is read back off the target, and so the word. Assumes nothing.
use mathlib.Core.Path.{◌≡◌, refl, ◌∙◌}
use mathlib.Core.List.{[], ◌∷◌}
use Prim.Native.Nat.{ℕ, ◌+◌, ◌-◌, ◌*◌, ◌/◌, ◌%◌, ◌^◌, ◌<◌}
use native.Mathlib.Omega.{arith}
use borrow.Author.Tests.{ltb-true}
use lib.Dec.{eqb, ltb}
use Rattle.word.specs.Choice.{by_test}
use Rattle.word.specs.Field.{field, small}
use Rattle.word.specs.Signed.{sext_of}
use Rattle.word.specs.Layout.{join, whole}
use Rattle.a32_transfer.specs.Branch.{target_from, branch_of}
use Rattle.a32_transfer.specs.Unconditional.{blx_of}
use Rattle.encode_home.specs.Home.{puts_of}
use Rattle.encode_home.specs.Word.{word_of}
use Rattle.encode_home.specs.WordTransfer.{offset_of, branch_layout}
use Rattle.encode_home.proofs.Leads.{Back, Settles, reads, bit_cases}
use Rattle.encode_home.proofs.Puts.{low}

-- what is added to a number, and wraps, is had back by taking the number away
back : (a s e : ℕ) → s + e < 2 ^ 32 → ((a + s + e) % 2 ^ 32 + (2 ^ 32 - a % 2 ^ 32)) % 2 ^ 32 ≡ s + e
back a s e h = omega arith

-- four times 24 bits, signed, and what is below 4: it fits, has the 24 bits from bit 2 on, and leaves bit 1
sext_parts : (f e : ℕ) → f < 2 ^ 24 → e < 4
    → (sext_of (4 * f) 26 + e < 2 ^ 32) × ((sext_of (4 * f) 26 + e) / 4 % 2 ^ 24 ≡ f) × ((sext_of (4 * f) 26 + e) / 2 % 2 ≡ e / 2)
sext_parts f e h g = unfold sext_of in
    by_test (ltb (4 * f) (2 ^ 25)) (λ low. simp (low) (omega (arith, ltb-true (4 * f) (2 ^ 25) low))) (λ high. simp (high) (omega arith))

module _ (w addr extra : ℕ) (few : extra < 4) where
  -- the offset of a branch, off its target
  pub target_from_back : offset_of addr (target_from w addr extra) ≡ sext_of (4 * field w 0 24) 26 + extra
  unfolding offset_of target_from
  target_from_back = back (addr + 8) (sext_of (4 * field w 0 24) 26) extra (sext_parts (field w 0 24) extra (small w 0 24) few).0

  -- its 24 bits, and bit 1
  pub bits_back : offset_of addr (target_from w addr extra) / 4 % 2 ^ 24 ≡ field w 0 24
  bits_back = rw target_from_back (sext_parts (field w 0 24) extra (small w 0 24) few).1

  pub half_back : offset_of addr (target_from w addr extra) / 2 % 2 ≡ extra / 2
  half_back = rw target_from_back (sext_parts (field w 0 24) extra (small w 0 24) few).2

module _ (w : ℕ) (bound : w < 2 ^ 32) (group : field w 25 3 ≡ 5) where
  -- a word is its fields, joined
  whole_word : {bit : ℕ} → field w 24 1 ≡ bit → join branch_layout (field w 0 24 ∷ bit ∷ 5 ∷ field w 28 4 ∷ []) ≡ w
  whole_word is-bit = simp (group, is-bit) at (whole branch_layout w bound)

  pub branch_settles : Settles low branch_of w
  unfolding puts_of word_of
  branch_settles =
      bit_cases w 24
      (λ b. by_test (eqb (field w 28 4) 14)
      (λ c. reads (simp (b, c) (λ addr. (refl, refl, simp (near addr) (whole_word b)))))
      (λ c. reads (simp (b, c) (λ addr. (refl, refl, simp (near addr) (whole_word b))))))
      (λ b. reads (simp b (λ addr. (refl, refl, simp (near addr) (whole_word b)))))
    where
      near : (addr : ℕ) → offset_of addr (target_from w addr 0) / 4 % 2 ^ 24 ≡ field w 0 24
      near addr = bits_back w addr 0 (omega arith)

  pub blx_back : (addr : ℕ) → Back [] w (blx_of w addr)
  unfolding puts_of word_of
  blx_back addr = (refl, refl, simp (bits_back w addr (field w 24 1 * 2) few, half) (whole_word refl))
    where
      few : field w 24 1 * 2 < 4
      few = omega (arith, small w 24 1)

      half : offset_of addr (target_from w addr (field w 24 1 * 2)) / 2 % 2 ≡ field w 24 1
      half = half_back w addr (field w 24 1 * 2) few ∙ omega arith
