-- Media words are formed. Assumes nothing.
use mathlib.Core.Path.{◌≡◌, refl}
use mathlib.Core.Bool.{Bool, false}
use mathlib.Core.List.{[], ◌∷◌}
use Prim.Native.Nat.{ℕ, ◌+◌, ◌-◌, ◌*◌, ◌^◌, ◌<◌}
use native.Mathlib.Omega.{arith}
use lib.Dec.{eqb, ltb, lit<}
use lib.IntN.{pos}
use Rattle.word.specs.Field.{field, small}
use Rattle.word.specs.Layout.{joined_small}
use Rattle.insn.specs.Roots.{name}
use Rattle.insn.specs.declared.Flow.TheVariants.{Next}
use Rattle.insn.specs.declared.Operand.TheVariants.{Count}
use Rattle.a32_shared.specs.Row.{reg_of, answer}
use Rattle.a32_media.specs.Media.{bfx_of, bf_of, div_of, sat_of, rev_of, rotate_of, extend_of, media_of}
use Rattle.line_spelling.proofs.Formed.{reg, Good, hashed, Under, either, choice, at, no_row_lem, row1, row2, row3, row4}

module _ (w addr : ℕ) (c : eqb (field w 28 4) 15 ≡ false) where
  lsb : field w 7 5 < 2 ^ 32
  lsb = omega (arith, small w 7 5)

  -- a name of the group
  module _ (n : ℕ) (under : Under w n Next) where
    bfx : hashed n ≡ 1 → Good addr (bfx_of w addr n)
    bfx pattern = at (field w 5 2) 2 (row4 w under (reg w 12) (reg w 0) (pattern, lsb) (pattern, omega (arith, small w 16 5)) tt) no_row_lem

    div : Good addr (div_of w addr n)
    div = at (field w 5 3) 0 (row3 w under (reg w 16) (reg w 0) (reg w 8) tt) no_row_lem

    rev : Good addr (rev_of w addr n)
    rev = at (field w 16 4) 15 (at (field w 8 4) 15 (row2 w under (reg w 12) (reg w 0) tt) no_row_lem) no_row_lem

    sat : hashed n ≡ 0 → (number : ℕ) → number < 2 ^ 32 → Good addr (sat_of w addr n number)
    sat count number fits =
        either (λ o. Good addr (answer w addr n Next (reg_of w 12 ∷ Count (pos number) ∷ reg_of w 0 ∷ o ∷ []))) (eqb (field w 6 1) 1)
        (row4 w under (reg w 12) (count, fits) (reg w 0) (refl, either (λ a. a < 33) (eqb (field w 7 5) 0) (lit< tt) few) tt)
        (either (λ o. Good addr (answer w addr n Next (reg_of w 12 ∷ Count (pos number) ∷ reg_of w 0 ∷ o ∷ []))) (eqb (field w 7 5) 0)
        (row3 w under (reg w 12) (count, fits) (reg w 0) tt)
        (row4 w under (reg w 12) (count, fits) (reg w 0) (refl, few) tt))
      where
        few : field w 7 5 < 33
        few = omega (arith, small w 7 5)

    turned : field w 10 2 * 8 < 33
    turned = omega (arith, small w 10 2)

    -- an extend with its rotation, or without
    plainly : Good addr (answer w addr n Next (reg_of w 12 ∷ reg_of w 0 ∷ rotate_of w ∷ []))
    plainly =
        either (λ o. Good addr (answer w addr n Next (reg_of w 12 ∷ reg_of w 0 ∷ o ∷ []))) (eqb (field w 10 2) 0)
        (row2 w under (reg w 12) (reg w 0) tt)
        (row3 w under (reg w 12) (reg w 0) turned tt)

    adding : Good addr (answer w addr n Next (reg_of w 12 ∷ reg_of w 16 ∷ reg_of w 0 ∷ rotate_of w ∷ []))
    adding =
        either (λ o. Good addr (answer w addr n Next (reg_of w 12 ∷ reg_of w 16 ∷ reg_of w 0 ∷ o ∷ []))) (eqb (field w 10 2) 0)
        (row3 w under (reg w 12) (reg w 16) (reg w 0) tt)
        (row4 w under (reg w 12) (reg w 16) (reg w 0) turned tt)

  extend : (n m : ℕ) → Under w n Next → Under w m Next → Good addr (extend_of w addr n m)
  extend n m under under' = at (field w 5 3) 3 (at (field w 8 2) 0 (at (field w 16 4) 15 (plainly n under) (adding m under')) no_row_lem) no_row_lem

  width : (field w 16 5 - field w 7 5 + 1) < 2 ^ 32
  width = omega (arith, small w 16 5)

  bf : Good addr (bf_of w addr)
  bf =
      at (field w 5 2) 0
      (choice (ltb (field w 16 5) (field w 7 5)) no_row_lem
      (at (field w 0 4) 15
      (row3 w (tt, c) (reg w 12) (refl, lsb) (refl, width) tt)
      (row4 w (tt, c) (reg w 12) (reg w 0) (refl, lsb) (refl, width) tt)))
      no_row_lem

  abbrev op : ℕ
  op = field w 20 5

  abbrev low : ℕ
  low = field w 5 3

  abbrev saturates : Bool
  saturates = eqb (field w 4 2) 1

  ssat : Good addr (sat_of w addr (name "ssat") (field w 16 5 + 1))
  ssat = sat (name "ssat") (tt, c) refl (field w 16 5 + 1) (omega (arith, small w 16 5))

  usat : Good addr (sat_of w addr (name "usat") (field w 16 5))
  usat = sat (name "usat") (tt, c) refl (field w 16 5) (omega (arith, small w 16 5))

  pub media_good : Good addr (media_of w addr)
  media_good =
      at op 31 (at low 7 (row1 w (tt, c) (refl, omega (arith, joined_small w 8 12 0 4)) tt) (bfx (name "ubfx") (tt, c) refl))
      (at op 26 (bfx (name "sbfx") (tt, c) refl)
      (at op 27 (bfx (name "sbfx") (tt, c) refl)
      (at op 30 (bfx (name "ubfx") (tt, c) refl)
      (at op 28 bf
      (at op 29 bf
      (at op 17 (div (name "sdiv") (tt, c))
      (at op 19 (div (name "udiv") (tt, c))
      (at op 10 (choice saturates ssat (extend (name "sxtb") (name "sxtab") (tt, c) (tt, c)))
      (at op 11 (choice saturates ssat (at low 1 (rev (name "rev") (tt, c)) (at low 5 (rev (name "rev16") (tt, c))
      (extend (name "sxth") (name "sxtah") (tt, c) (tt, c)))))
      (at op 14 (choice saturates usat (extend (name "uxtb") (name "uxtab") (tt, c) (tt, c)))
      (at op 15 (choice saturates usat (at low 1 (rev (name "rbit") (tt, c)) (at low 5 (rev (name "revsh") (tt, c))
      (extend (name "uxth") (name "uxtah") (tt, c) (tt, c)))))
      (at op 8 (extend (name "sxtb16") (name "sxtab16") (tt, c) (tt, c))
      (at op 12 (extend (name "uxtb16") (name "uxtab16") (tt, c) (tt, c))
      no_row_lem)))))))))))))
