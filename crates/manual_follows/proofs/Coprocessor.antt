-- Coprocessor words beside the manual. Assumes nothing.
use mathlib.Core.Path.{◌≡◌, refl, ◌∙◌}
use mathlib.Core.Bool.{Bool, true, false}
use Prim.Native.Nat.{ℕ, ◌*◌, ◌+◌, ◌/◌, ◌%◌, ◌<◌, ◌≤◌}
use native.Mathlib.Omega.{arith}
use borrow.Author.Tests.{ne_eqb, ltb-true, ltb-false}
use lib.Dec.{eqb, ltb}
use Rattle.word.specs.Choice.{pick, both}
use Rattle.word.specs.Every.{at_each}
use Rattle.word.specs.Field.{field, small, splits}
use Rattle.a32_coproc.specs.Coproc.{floating_of}
use Rattle.a32.specs.Decode.{decode_of, group_of}
use Rattle.manual.specs.A5 as A
use Rattle.manual.specs.A8.{said_of, page_of}
use Rattle.manual.specs.Departures.{standing_of}
use Rattle.manual.proofs.Fields.{HeldAt, holds, all_six, group_25, bits, by_field, split, apart, same, same→eq, ◌also◌}
use Rattle.manual.proofs.Forms.{mode_at, mark_at}

-- "101x", as `bits` leaves it, is 10 or 11
abbrev is_a7 : ℕ → Bool
is_a7 n = both (eqb (n / 8 % 2) 1) (both (eqb (n / 4 % 2) 0) (eqb (n / 2 % 2) 1))

a7 : (w : ℕ) → is_a7 (field w 8 4) ≡ floating_of w
a7 w = unfold floating_of in
    same→eq (is_a7 (field w 8 4)) _ (at_each (λ n. same (is_a7 n) (pick (eqb n 10) true (eqb n 11))) 16 tt (field w 8 4) (small w 8 4))

-- 25:20 by its bits
pub six : (w : ℕ) → field w 20 6 ≡ ((((field w 25 1 * 2 + field w 24 1) * 2 + field w 23 1) * 2 + field w 22 1) * 2 + field w 21 1) * 2 + field w 20 1
six w = omega (arith, splits w 20 5 1, splits w 21 4 1, splits w 22 3 1, splits w 23 2 1, splits w 24 1 1)

module _ (w addr : ℕ) (cond : eqb (field w 28 4) 15 ≡ false) (other : floating_of w ≡ false) where
  generic : is_a7 (field w 8 4) ≡ false
  generic = a7 w ∙ other

  -- 27:24 by 27:25 and bit 24
  high : field w 24 4 ≡ field w 25 3 * 2 + field w 24 1
  high = splits w 24 3 1

  -- imm8:'00'
  words : 4 * field w 0 8 ≡ field w 0 8 * 4
  words = omega arith

  ruleset here = (all_six, bits, generic, high, words)

  module _ (group : field w 25 3 ≡ 6) where
    low : field w 25 1 ≡ 0
    low = simp (group_25, group)

    -- no move of a pair: P, U or W is set
    module _ (some : 0 < field w 24 1 + field w 23 1 + field w 21 1) where
      four : eqb (field w 20 6) 4 ≡ false
      four =
          ne_eqb (field w 20 6) 4 (λ e. omega (arith, e, six w, low, some, small w 24 1, small w 23 1, small w 22 1, small w 21 1, small w 20 1))

      five : eqb (field w 20 6) 5 ≡ false
      five =
          ne_eqb (field w 20 6) 5 (λ e. omega (arith, e, six w, low, some, small w 24 1, small w 23 1, small w 22 1, small w 21 1, small w 20 1))

      two : field w 24 1 ≡ 0 → eqb (field w 21 3) 2 ≡ false
      two clear =
          ne_eqb (field w 21 3) 2
          (λ e. omega (arith, e, splits w 21 2 1, splits w 22 1 1, some, clear, small w 23 1, small w 22 1, small w 21 1))

    abbrev is_zero : Bool
    is_zero = both (eqb (field w 23 1) 0) (eqb (field w 0 8 * 4) 0)

    store : field w 20 1 ≡ 0 → 0 < field w 24 1 + field w 23 1 + field w 21 1 → HeldAt w addr
    store l some = unfold decode_of group_of said_of page_of standing_of A.table_row A.coprocessor in
        by_field w 24 1
        ((λ p. by_field w 21 1
        ((λ v. by_field w 23 1
        ((λ u. absurd (omega (arith, some, p, v, u))) also
        (λ u. simp (here, cond, other, group, low, l, p, v, u, four some, five some, two some p) (holds (simp (bits, group, l, p, v, u, words) (refl, λ e. e)))) also tt)) also
        (λ v. split is_zero
        (λ z. simp (here, cond, other, group, low, l, p, v, z, four some, five some, two some p)
        (holds (simp (bits, group, l, p, v, z, words) (refl, apart (mark_at 2) _ _ refl))))
        (λ z. simp (here, cond, other, group, low, l, p, v, z, four some, five some, two some p) (holds (simp (bits, group, l, p, v, z, words))))) also tt)) also
        (λ p. split is_zero
        (λ z. simp (here, cond, other, group, low, l, p, z, four some, five some)
        (holds (simp (bits, group, l, p, z, words) (refl, apart (mark_at 2) _ _ refl))))
        (λ z. simp (here, cond, other, group, low, l, p, z, four some, five some) (holds (simp (bits, group, l, p, z, words))))) also tt)

    load : field w 20 1 ≡ 1 → 0 < field w 24 1 + field w 23 1 + field w 21 1 → eqb (field w 16 4) 15 ≡ false → HeldAt w addr
    load l some n = unfold decode_of group_of said_of page_of standing_of A.table_row A.coprocessor in
        by_field w 24 1
        ((λ p. by_field w 21 1
        ((λ v. by_field w 23 1
        ((λ u. absurd (omega (arith, some, p, v, u))) also
        (λ u. simp (here, cond, other, group, low, l, n, p, v, u, four some, five some, two some p)
        (holds (simp (bits, group, l, n, p, v, u, words) (refl, λ e. e)))) also tt)) also
        (λ v. split is_zero
        (λ z. simp (here, cond, other, group, low, l, n, p, v, z, four some, five some, two some p)
        (holds (simp (bits, group, l, n, p, v, z, words) (refl, apart (mark_at 2) _ _ refl))))
        (λ z. simp (here, cond, other, group, low, l, n, p, v, z, four some, five some, two some p)
        (holds (simp (bits, group, l, n, p, v, z, words))))) also tt)) also
        (λ p. split is_zero
        (λ z. simp (here, cond, other, group, low, l, n, p, z, four some, five some)
        (holds (simp (bits, group, l, n, p, z, words) (refl, apart (mark_at 2) _ _ refl))))
        (λ z. simp (here, cond, other, group, low, l, n, p, z, four some, five some) (holds (simp (bits, group, l, n, p, z, words))))) also tt)

    -- from R[15], which is not written back
    literal : field w 20 1 ≡ 1 → 0 < field w 24 1 + field w 23 1 + field w 21 1 → eqb (field w 16 4) 15 ≡ true → HeldAt w addr
    literal l some n = unfold decode_of group_of said_of page_of standing_of A.table_row A.coprocessor in
        by_field w 24 1
        ((λ p. by_field w 21 1
        ((λ v. by_field w 23 1
        ((λ u. absurd (omega (arith, some, p, v, u))) also
        (λ u. simp (here, cond, other, group, low, l, n, p, v, u, four some, five some, two some p)
        (holds (simp (bits, group, l, n, p, v, u, words) (refl, λ e. e)))) also tt)) also
        (λ v. simp (here, cond, other, group, low, l, n, p, v, four some, five some, two some p)
        (holds (simp (bits, group, l, n, p, v, words) (refl, apart (mode_at 2) _ _ refl)))) also tt)) also
        (λ p. by_field w 21 1
        ((λ v. split is_zero
        (λ z. simp (here, cond, other, group, low, l, n, p, v, z, four some, five some)
        (holds (simp (bits, group, l, n, p, v, z, words) (refl, apart (mark_at 2) _ _ refl))))
        (λ z. simp (here, cond, other, group, low, l, n, p, v, z, four some, five some) (holds (simp (bits, group, l, n, p, v, z, words))))) also
        (λ v. simp (here, cond, other, group, low, l, n, p, v, four some, five some)
        (holds (simp (bits, group, l, n, p, v, words) (refl, apart (mode_at 2) _ _ refl)))) also tt)) also tt)

    -- P, U and W are clear: with D a move of a pair, without it none
    none : field w 24 1 ≡ 0 → field w 23 1 ≡ 0 → field w 21 1 ≡ 0 → HeldAt w addr
    none p u v = unfold decode_of group_of said_of page_of standing_of A.table_row A.coprocessor in
        let three : (d : ℕ) → field w 22 1 ≡ d → field w 21 3 ≡ d * 2 = λ d e. omega (arith, splits w 21 2 1, splits w 22 1 1, e, u, v) in
        by_field w 22 1
        ((λ d. simp (here, cond, other, group, low, p, u, v, d, three 0 d) (holds refl)) also
        (λ d. by_field w 20 1
        ((λ l. simp (here, six w, cond, other, group, low, p, u, v, d, l, three 1 d) (holds refl)) also
        (λ l. simp (here, six w, cond, other, group, low, p, u, v, d, l, three 1 d) (holds refl)) also tt)) also tt)

    pub move_or_transfer : HeldAt w addr
    move_or_transfer =
        let set = field w 24 1 + field w 23 1 + field w 21 1 in
        split (ltb 0 set) (λ t. indexed (ltb-true 0 set t))
        (λ t. let all : set ≤ 0 = ltb-false 0 set t in none (omega (arith, all)) (omega (arith, all)) (omega (arith, all)))
      where
        indexed : 0 < field w 24 1 + field w 23 1 + field w 21 1 → HeldAt w addr
        indexed some =
            by_field w 20 1
            ((λ l. store l some) also (λ l. split (eqb (field w 16 4) 15) (literal l some) (load l some)) also tt)

  -- 27:25 = 111
  pub operation : field w 25 3 ≡ 7 → HeldAt w addr
  operation group = unfold decode_of group_of said_of page_of standing_of A.table_row A.coprocessor in
      let top : field w 25 1 ≡ 1 = simp (group_25, group) in
      let four : eqb (field w 20 6) 4 ≡ false = ne_eqb (field w 20 6) 4 (λ e. omega (arith, e, six w, top)) in
      let five : eqb (field w 20 6) 5 ≡ false = ne_eqb (field w 20 6) 5 (λ e. omega (arith, e, six w, top)) in
      by_field w 24 1
      ((λ p. by_field w 4 1
      ((λ b. simp (here, cond, other, group, top, four, five, p, b) (holds refl)) also
      (λ b. by_field w 20 1
      ((λ l. simp (here, cond, other, group, top, four, five, p, b, l) (holds refl)) also
      (λ l. split (eqb (field w 12 4) 15)
      (λ t. simp (here, cond, other, group, top, four, five, p, b, l, t) (holds (simp t (refl, λ e. e))))
      (λ t. simp (here, cond, other, group, top, four, five, p, b, l, t) (holds (simp t)))) also tt)) also tt)) also
      (λ p. simp (here, cond, other, group, top, p) (holds refl)) also tt)
