-- Load/store: an answer leads back to its home word, which has it too. Assumes nothing.
use mathlib.Core.Path.{◌≡◌, refl, ap, ◌∙◌}
use mathlib.Core.Bool.{Bool, true, false}
use mathlib.Core.List.{[], ◌∷◌}
use Prim.Native.Nat.{ℕ, zero, suc, ◌^◌, ◌<◌}
use borrow.Author.Tests.{eqb-false}
use lib.Dec.{eqb, leb, ltb}
use lib.IntN.{nat_abs}
use Rattle.word.specs.Choice.{pick, both, by_test, fails}
use Rattle.word.specs.Field.{field, put}
use Rattle.word.specs.Layout.{join, whole, rejoin}
use Rattle.word.specs.Signed.{minus}
use Rattle.insn.specs.Numbers.{mode_number}
use Rattle.a32_ldst.specs.Mem.{unprivileged_of, mode_of, post_of, disp_of, minus_zero_of}
use Rattle.a32_ldst.specs.Ldst.{name_of, refused_index_of, marked_of, ldst_of}
use Rattle.insn_parts.specs.Operands.{sign_number, mark_number}
use Rattle.insn_parts.specs.Parts.{bit_p, bit_u}
use Rattle.encode_home.specs.declared.Filler.TheVariants.{Zeros}
use Rattle.encode_home.specs.Table.{ones}
use Rattle.encode_home.specs.Home.{puts_of}
use Rattle.encode_home.specs.Word.{word_of}
use Rattle.encode_home.specs.WordLdst.{load_bit, byte_bit, user_bit, write_bit, index_layout, offset12, added_bit, layout}
use Rattle.encode_home.proofs.Leads.{apart, Settles, refuses, settles, reads, by_value, bit_cases, magnitude, refusal, starts, ends, over}
use Rattle.encode_home.proofs.Leads.{under}
use Rattle.encode_home.proofs.Puts.{high, laid}

-- a displacement below 0 is subtracted
minus_down : (n : ℕ) → eqb n 0 ≡ false → sign_number (minus n) ≡ 1
minus_down zero h = absurd (eqb-false 0 0 h refl)
minus_down (suc n) h = refl

module _ (w : ℕ) where
  -- what a name tells
  abbrev Tells : ℕ → ℕ → Type 0
  Tells name user =
      (load_bit name ≡ field w 20 1) × (byte_bit name ≡ field w 22 1) × (user_bit name ≡ user) × (leb 82 name ≡ true) × (leb name 89 ≡ true)

  name_tells : Tells (name_of w) (pick (unprivileged_of w) 1 0)
  name_tells =
      by_test (unprivileged_of w)
      (λ t.
      bit_cases w 20
      (λ l. bit_cases w 22 (λ b. simp (t, l, b) (refl, refl, refl, refl, refl)) (λ b. simp (t, l, b) (refl, refl, refl, refl, refl)))
      (λ l. bit_cases w 22 (λ b. simp (t, l, b) (refl, refl, refl, refl, refl)) (λ b. simp (t, l, b) (refl, refl, refl, refl, refl))))
      (λ t.
      bit_cases w 20
      (λ l. bit_cases w 22 (λ b. simp (t, l, b) (refl, refl, refl, refl, refl)) (λ b. simp (t, l, b) (refl, refl, refl, refl, refl)))
      (λ l. bit_cases w 22 (λ b. simp (t, l, b) (refl, refl, refl, refl, refl)) (λ b. simp (t, l, b) (refl, refl, refl, refl, refl))))

  -- it is from 82 to 89
  from_82 : (k : ℕ) → leb k 82 ≡ true → leb k (name_of w) ≡ true
  from_82 = starts 82 89 (name_of w) name_tells.3 name_tells.4

  to_89 : (k : ℕ) → leb 89 k ≡ true → leb (name_of w) k ≡ true
  to_89 = ends 82 89 (name_of w) name_tells.3 name_tells.4

  over_81 : (k : ℕ) → ltb k 82 ≡ true → leb (name_of w) k ≡ false
  over_81 = over 82 89 (name_of w) name_tells.3 name_tells.4

  under_90 : (k : ℕ) → ltb 89 k ≡ true → leb k (name_of w) ≡ false
  under_90 = under 82 89 (name_of w) name_tells.3 name_tells.4

  -- the mode has P
  pub has_p : bit_p (mode_number (mode_of w)) ≡ field w 24 1
  has_p = bit_cases w 24 (λ p. simp p) (λ p. bit_cases w 21 (λ b. simp (p, b)) (λ b. simp (p, b)))

  user_back : field w 24 1 ≡ 0 → pick (unprivileged_of w) 1 0 ≡ field w 21 1
  user_back p = unfold unprivileged_of in bit_cases w 21 (λ b. simp (p, b)) (λ b. simp (p, b))

  has_w : write_bit (mode_number (mode_of w)) (name_of w) ≡ field w 21 1
  has_w = unfold write_bit in
      bit_cases w 24
      (λ p. simp p (name_tells.2 ∙ user_back p))
      (λ p. bit_cases w 21 (λ b. simp (p, b)) (λ b. simp (p, b)))

  pub magnitude_back : (off : ℕ) → nat_abs (disp_of w off) ≡ off
  magnitude_back off = bit_cases w 23 (λ u. simp u (magnitude off)) (λ u. simp u)

  -- U, from the sign of a displacement that is not 0, and the mark of one that is
  abbrev added : ℕ
  added = bit_u (sign_number (disp_of w (field w 0 12))) (mark_number (marked_of w (field w 0 12)))

  some_u : eqb (field w 0 12) 0 ≡ false → added ≡ field w 23 1
  some_u z = unfold marked_of minus_zero_of in bit_cases w 23 (λ u. simp (u, z, fails, minus_down (field w 0 12) z)) (λ u. simp (u, z, fails))

  post_u : field w 0 12 ≡ 0 → field w 24 1 ≡ 0 → added ≡ field w 23 1
  post_u z p = unfold marked_of minus_zero_of in bit_cases w 23 (λ u. simp (z, p, u)) (λ u. simp (z, p, u))

  pre_u : field w 0 12 ≡ 0 → field w 24 1 ≡ 1 → field w 21 1 ≡ 1 → added ≡ field w 23 1
  pre_u z p b = unfold marked_of minus_zero_of in bit_cases w 23 (λ u. simp (z, p, b, u)) (λ u. simp (z, p, b, u))

  -- nothing is added, in offset mode
  abbrev nothing_added : Bool
  nothing_added = both (eqb (mode_number (mode_of w)) 0) (eqb (nat_abs (disp_of w (field w 0 12))) 0)

module _ (w : ℕ) (bound : w < 2 ^ 32) (group : field w 26 2 ≡ 1) where
  -- "Immediate 11:0"
  module _ (form0 : field w 25 1 ≡ 0) where
    stays : nothing_added w ≡ false → added w ≡ field w 23 1 → Settles high ldst_of w
    stays some u = unfold puts_of word_of refused_index_of offset12 added_bit in
        reads
        (λ addr. (
          simp form0,
          simp (form0, from_82 w, to_89 w, over_81 w, under_90 w, some),
          simp (form0, to_89 w, over_81 w, magnitude_back w, u, (name_tells w).0, (name_tells w).1, has_w w, has_p w)
              (simp (group, form0) at (whole layout w bound)),
        ))

    -- in offset mode 0 is added or subtracted alike
    module _ (z : field w 0 12 ≡ 0) (p : field w 24 1 ≡ 1) (b : field w 21 1 ≡ 0) where
      keeps : (addr : ℕ) → ldst_of (put w 23 1 1) addr ≡ ldst_of w addr
      unfolding refused_index_of unprivileged_of post_of marked_of minus_zero_of
      keeps addr = bit_cases w 23 (λ u. simp (apart, z, form0, p, b, u)) (λ u. simp (apart, z, form0, p, b, u))

      up : added w ≡ 1
      up = unfold marked_of in bit_cases w 23 (λ u. simp (z, p, b, u)) (λ u. simp (z, p, b, u))

      none : eqb (nat_abs (disp_of w (field w 0 12))) 0 ≡ true
      none = ap (λ (n : ℕ). eqb n 0) (magnitude_back w (field w 0 12) ∙ z)

      raises : Settles high ldst_of w
      raises = unfold puts_of word_of refused_index_of offset12 added_bit in
          settles (ones 23 23 ∷ []) tt
          (λ addr. (
            λ c. keeps addr,
            (
              simp form0,
              simp (form0, from_82 w, to_89 w, over_81 w, under_90 w, p, b, none),
              simp (form0, to_89 w, over_81 w, magnitude_back w, up, (name_tells w).0, (name_tells w).1, has_w w, has_p w)
                  (simp (apart, group, form0) at (laid Zeros layout (ones 23 23 ∷ []) tt w bound refl)),
            ),
          ))

    immediate : Settles high ldst_of w
    immediate =
        by_value w 0 12 0
        (λ z.
        bit_cases w 24
        (λ p. stays (simp p) (post_u w z p))
        (λ p. bit_cases w 21 (raises z p) (λ b. stays (simp (p, b)) (pre_u w z p b))))
        (λ z. stays (simp (magnitude_back w, z, fails)) (some_u w z))

  -- "Index form needs U set and 6:5 = 00"
  index : field w 25 1 ≡ 1 → field w 4 1 ≡ 0 → Settles high ldst_of w
  unfolding puts_of word_of refused_index_of offset12 added_bit
  index form1 four =
      bit_cases w 23 (λ u. refuses (λ addr ok. refusal (simp (form1, u) at ok))) λ u.
      by_value w 5 2 0
      (λ z.
      reads
      (λ addr. (
        simp (form1, u, z),
        simp (form1, u, z, from_82 w, to_89 w, over_81 w, under_90 w),
        simp (form1, u, z, to_89 w, over_81 w, (name_tells w).0, (name_tells w).1, has_w w, has_p w)
            (rw (index12 z) (simp (form1, group, u) at (whole layout w bound))),
      )))
      (λ z. refuses (λ addr ok. refusal (simp (form1, u, z) at ok)))
    where
      index12 : field w 5 2 ≡ 0 → join index_layout (field w 0 4 ∷ 0 ∷ 0 ∷ field w 7 5 ∷ []) ≡ field w 0 12
      index12 z = simp (four, z) at (rejoin index_layout 0 w)

  pub ldst_settles : (field w 25 1 ≡ 1 → field w 4 1 ≡ 0) → Settles high ldst_of w
  ldst_settles four = bit_cases w 25 immediate (λ form1. index form1 (four form1))
