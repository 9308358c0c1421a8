-- The halfword multiplies: an answer leads back to its home word, which has it too. Assumes nothing.
use mathlib.Core.Path.{◌≡◌, refl}
use Rattle.insn.specs.Answer.{insn_in}
use mathlib.Core.Bool.{true, false}
use mathlib.Core.List.{[], ◌∷◌}
use Prim.Native.Nat.{ℕ, ◌+◌, ◌-◌, ◌*◌, ◌/◌, ◌%◌, ◌^◌, ◌<◌, ◌≤◌}
use native.Mathlib.Omega.{arith}
use borrow.Author.Tests.{le-leb}
use lib.Dec.{eqb, leb}
use Rattle.word.specs.Field.{field, put, small, splits}
use Rattle.word.specs.Layout.{join, whole}
use Rattle.insn.specs.Roots.{name}
use Rattle.a32_multiply.specs.Halfword.{half_of, halves_of, halfword_of}
use Rattle.a32_multiply.specs.Multiply.{product_of, adding_of, long_of}
use Rattle.encode_home.specs.declared.Filler.TheVariants.{Zeros}
use Rattle.encode_home.specs.Table.{zeros}
use Rattle.encode_home.specs.Home.{puts_of}
use Rattle.encode_home.specs.Word.{word_of}
use Rattle.encode_home.specs.WordMultiply.{layout, halves}
use Rattle.encode_home.proofs.Leads.{apart, Back, Settles, settles, reads, bit_cases, two_cases, starts, ends, over, under}
use Rattle.encode_home.proofs.Puts.{low, laid}

module _ (w : ℕ) (bound : w < 2 ^ 32) (group : field w 25 3 ≡ 0) (ten : field w 23 2 ≡ 2) (s : field w 20 1 ≡ 0) (seven : field w 7 1 ≡ 1)
    (four : field w 4 1 ≡ 0) where
  -- a name's place among those of the halfword multiplies
  abbrev place : ℕ
  place = field w 21 2 * 4 + field w 5 1 * 2 + field w 6 1

  op_back : place / 4 ≡ field w 21 2
  op_back = omega (arith, small w 5 1, small w 6 1)

  six_back : place % 2 ≡ field w 6 1
  six_back = omega (arith, small w 6 1)

  five_back : place / 2 % 2 ≡ field w 5 1
  five_back = rw above (omega (arith, small w 5 1))
    where
      above : place / 2 ≡ field w 21 2 * 2 + field w 5 1
      above = omega (arith, small w 6 1)

  low_back : halves place ≡ field w 4 4
  low_back = rw (six_back, five_back) (omega (arith, splits w 4 3 1, splits w 5 1 2, splits w 5 1 1))

  twenty : field w 20 4 ≡ field w 21 2 * 2
  twenty = omega (arith, splits w 20 3 1, splits w 21 1 2, splits w 23 1 1, small w 23 1)

  p : field w 24 1 ≡ 1
  p = omega (arith, splits w 23 1 1, small w 23 1)

  -- a word is its fields, joined; so is a word with 15:12 at zero
  whole_word : join layout (field w 0 4 ∷ field w 4 4 ∷ field w 8 4 ∷ field w 12 4 ∷ field w 16 4 ∷ field w 21 2 * 2 ∷ 1 ∷ 0 ∷ field w 28 4 ∷ []) ≡ w
  whole_word = simp (group, twenty, p) at (whole layout w bound)

  whole_home : join layout (field w 0 4 ∷ field w 4 4 ∷ field w 8 4 ∷ 0 ∷ field w 16 4 ∷ field w 21 2 * 2 ∷ 1 ∷ 0 ∷ field w 28 4 ∷ []) ≡ put w 12 4 0
  whole_home = simp (apart, group, twenty, p) at (laid Zeros layout (zeros 15 12 ∷ []) tt w bound refl)

  -- a name at its place, whatever the halves
  module _ (n : ℕ) (is : n ≡ name "smlabb" + place) where
    past : n - name "smlabb" ≡ place
    past = omega arith

    adding : eqb (field w 21 2) 2 ≡ false → leb 133 n ≡ true → leb n 138 ≡ true → (addr : ℕ) → Back [] w (adding_of w addr n)
    adding short l h addr = unfold puts_of word_of in (
      refl,
      simp (starts 133 138 n l h, over 133 138 n l h, under 133 138 n l h),
      simp (
        over 133 138 n l h,
        ends 133 138 n l h,
        past,
        op_back,
        low_back,
        short,
      ) whole_word,
    )

    long : eqb (field w 21 2) 2 ≡ true → leb 141 n ≡ true → leb n 144 ≡ true → (addr : ℕ) → Back [] w (long_of w addr n)
    long is-long l h addr = unfold puts_of word_of in (
      refl,
      simp (starts 141 144 n l h, over 141 144 n l h, under 141 144 n l h),
      simp (
        over 141 144 n l h,
        ends 141 144 n l h,
        past,
        op_back,
        low_back,
        is-long,
      ) whole_word,
    )

    product : eqb (field w 21 2) 2 ≡ false → leb 133 n ≡ true → leb n 148 ≡ true
        → (addr : ℕ) → puts_of (insn_in (product_of w addr n)) ≡ zeros 15 12 ∷ [] → Back (zeros 15 12 ∷ []) w (product_of w addr n)
    product short l h addr puts = unfold word_of in
        (refl, puts, simp (over 133 148 n l h, ends 133 148 n l h, past, op_back, low_back, short) whole_home)

  smulw_puts : (n addr : ℕ) → leb 139 n ≡ true → leb n 140 ≡ true → puts_of (insn_in (product_of w addr n)) ≡ zeros 15 12 ∷ []
  smulw_puts n addr l h = unfold puts_of in simp (starts 139 140 n l h, ends 139 140 n l h, over 139 140 n l h, under 139 140 n l h)

  smul_puts : (n addr : ℕ) → leb 145 n ≡ true → leb n 148 ≡ true → puts_of (insn_in (product_of w addr n)) ≡ zeros 15 12 ∷ []
  smul_puts n addr l h = unfold puts_of in simp (starts 145 148 n l h, ends 145 148 n l h, over 145 148 n l h, under 145 148 n l h)

  -- a name from an end on, by its halves or its half
  module _ (first : ℕ) where
    halves_from : (lo : ℕ) → lo ≤ first → leb lo (halves_of w first) ≡ true
    halves_from lo h = le-leb lo (halves_of w first) (omega arith)

    halves_to : (hi : ℕ) → first + 3 ≤ hi → leb (halves_of w first) hi ≡ true
    halves_to hi h = le-leb (halves_of w first) hi (omega (arith, small w 5 1, small w 6 1))

    half_from : (lo : ℕ) → lo ≤ first → leb lo (half_of w first) ≡ true
    half_from lo h = le-leb lo (half_of w first) (omega arith)

    half_to : (hi : ℕ) → first + 1 ≤ hi → leb (half_of w first) hi ≡ true
    half_to hi h = le-leb (half_of w first) hi (omega (arith, small w 6 1))

  pub halfword_settles : Settles low halfword_of w
  halfword_settles =
      two_cases w 21
      (λ op. reads (simp op (adding (halves_of w (name "smlabb")) (omega arith) (simp op) (halves_from (name "smlabb") 133 (omega arith))
      (halves_to (name "smlabb") 138 (omega arith)))))
      (λ op. bit_cases w 5
      (λ x. reads (simp (op, x) (adding (half_of w (name "smlawb")) (omega arith) (simp op) (half_from (name "smlawb") 133 (omega arith))
      (half_to (name "smlawb") 138 (omega arith)))))
      (λ x. settles (zeros 15 12 ∷ []) tt
      (simp (apart, op, x) (λ addr. (
        (λ c. refl),
        product (half_of w (name "smulwb")) (omega arith) (simp op) (half_from (name "smulwb") 133 (omega arith))
            (half_to (name "smulwb") 148 (omega arith)) addr
            (smulw_puts (half_of w (name "smulwb")) addr (half_from (name "smulwb") 139 (omega arith)) (half_to (name "smulwb") 140 (omega arith))),
      )))))
      (λ op. reads (simp op (long (halves_of w (name "smlalbb")) (omega arith) (simp op) (halves_from (name "smlalbb") 141 (omega arith))
      (halves_to (name "smlalbb") 144 (omega arith)))))
      (λ op. settles (zeros 15 12 ∷ []) tt
      (simp (apart, op) (λ addr. (
        (λ c. refl),
        product (halves_of w (name "smulbb")) (omega arith) (simp op) (halves_from (name "smulbb") 133 (omega arith))
            (halves_to (name "smulbb") 148 (omega arith)) addr
            (smul_puts (halves_of w (name "smulbb")) addr (halves_from (name "smulbb") 145 (omega arith))
            (halves_to (name "smulbb") 148 (omega arith))),
      ))))
