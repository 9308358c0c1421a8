-- Multiplies, exclusives, halfword multiplies and the miscellaneous instructions beside the manual. Assumes nothing.
use mathlib.Core.Path.{◌≡◌, refl}
use mathlib.Core.Bool.{false}
use Prim.Native.Nat.{ℕ, ◌+◌}
use native.Mathlib.Omega.{arith}
use borrow.Author.Tests.{eqb-true}
use lib.Dec.{eqb}
use Rattle.word.specs.Field.{field}
use Rattle.insn.specs.Roots.{name}
use Rattle.a32_multiply.specs.Halfword.{half_of, halves_of}
use Rattle.a32.specs.Decode as D
use Rattle.a32.specs.Decode.{decode_of, group_of, dp_misc_of, control_of}
use Rattle.manual.specs.A5 as A
use Rattle.manual.specs.A8.{said_of, page_of}
use Rattle.manual.specs.Departures.{standing_of}
use Rattle.manual.specs.Reads.{half, halves}
use Rattle.manual.proofs.Fields.{HeldAt, holds, ops, controls, lows, low_bits, groups, bits, rn_bits, by_field, split, conditions, ◌also◌}
use Rattle.manual.proofs.Pages.{undefined_held}

-- names that stand in a row are counted on from the first, by bit 6, and by bits 5 and 6
half_is : (w n : ℕ) → half w n (n + 1) ≡ half_of w n
half_is w n = by_field w 6 1 ((λ e. simp e (omega arith)) also (λ e. simp e (omega arith)) also tt)

halves_is : (w n : ℕ) → halves w n (n + 1) (n + 2) (n + 3) ≡ halves_of w n
halves_is w n =
    by_field w 5 1
    ((λ e. by_field w 6 1 ((λ f. simp (e, f) (omega arith)) also (λ f. simp (e, f) (omega arith)) also tt)) also
    (λ e. by_field w 6 1 ((λ f. simp (e, f) (omega arith)) also (λ f. simp (e, f) (omega arith)) also tt)) also tt)

module _ (w addr : ℕ) (cond : eqb (field w 28 4) 15 ≡ false) (group : field w 25 3 ≡ 0) where
  -- 7:4 = 1001, by 24:20
  pub multiplies : field w 4 4 ≡ 9 → HeldAt w addr
  multiplies low = unfold decode_of group_of dp_misc_of D.extra_of said_of page_of standing_of A.table_row A.data_processing A.multiply A.synchronization in
      by_field w 20 5
      ((λ e. simp (ops, lows, groups, cond, group, low, e) (holds (simp (ops, bits, e)))) also
      (λ e. simp (ops, lows, groups, cond, group, low, e) (holds (simp (ops, bits, e)))) also
      (λ e. simp (ops, lows, groups, cond, group, low, e) (holds (simp (ops, bits, e)))) also
      (λ e. simp (ops, lows, groups, cond, group, low, e) (holds (simp (ops, bits, e)))) also
      (λ e. simp (ops, lows, groups, cond, group, low, e) (holds refl)) also
      (λ e. simp (ops, lows, groups, cond, group, low, e) (undefined_held w addr)) also
      (λ e. simp (ops, lows, groups, cond, group, low, e) (holds refl)) also
      (λ e. simp (ops, lows, groups, cond, group, low, e) (undefined_held w addr)) also
      (λ e. simp (ops, lows, groups, cond, group, low, e) (holds (simp (ops, bits, e)))) also
      (λ e. simp (ops, lows, groups, cond, group, low, e) (holds (simp (ops, bits, e)))) also
      (λ e. simp (ops, lows, groups, cond, group, low, e) (holds (simp (ops, bits, e)))) also
      (λ e. simp (ops, lows, groups, cond, group, low, e) (holds (simp (ops, bits, e)))) also
      (λ e. simp (ops, lows, groups, cond, group, low, e) (holds (simp (ops, bits, e)))) also
      (λ e. simp (ops, lows, groups, cond, group, low, e) (holds (simp (ops, bits, e)))) also
      (λ e. simp (ops, lows, groups, cond, group, low, e) (holds (simp (ops, bits, e)))) also
      (λ e. simp (ops, lows, groups, cond, group, low, e) (holds (simp (ops, bits, e)))) also
      (λ e. simp (ops, lows, groups, cond, group, low, e) (holds refl)) also
      (λ e. simp (ops, lows, groups, cond, group, low, e) (undefined_held w addr)) also
      (λ e. simp (ops, lows, groups, cond, group, low, e) (undefined_held w addr)) also
      (λ e. simp (ops, lows, groups, cond, group, low, e) (undefined_held w addr)) also
      (λ e. simp (ops, lows, groups, cond, group, low, e) (holds refl)) also
      (λ e. simp (ops, lows, groups, cond, group, low, e) (undefined_held w addr)) also
      (λ e. simp (ops, lows, groups, cond, group, low, e) (undefined_held w addr)) also
      (λ e. simp (ops, lows, groups, cond, group, low, e) (undefined_held w addr)) also
      (λ e. simp (ops, lows, groups, cond, group, low, e) (holds refl)) also
      (λ e. simp (ops, lows, groups, cond, group, low, e) (holds refl)) also
      (λ e. simp (ops, lows, groups, cond, group, low, e) (holds refl)) also
      (λ e. simp (ops, lows, groups, cond, group, low, e) (holds refl)) also
      (λ e. simp (ops, lows, groups, cond, group, low, e) (holds refl)) also
      (λ e. simp (ops, lows, groups, cond, group, low, e) (holds refl)) also
      (λ e. simp (ops, lows, groups, cond, group, low, e) (holds refl)) also
      (λ e. simp (ops, lows, groups, cond, group, low, e) (holds refl)) also tt)

  -- 24:23 = 10 with bit 20 clear, by 22:21
  module _ (op : field w 23 2 ≡ 2) (s : field w 20 1 ≡ 0) where
    -- any of the fields: four rows of the table are one page
    msr_fields : field w 4 4 ≡ 0 → field w 21 2 ≡ 1 → field w 9 1 ≡ 0 → HeldAt w addr
    msr_fields low e n = unfold decode_of group_of dp_misc_of D.plain_of control_of said_of page_of standing_of A.table_row A.data_processing A.miscellaneous in
        by_field w 16 2
        ((λ f. simp (controls, lows, groups, cond, group, op, s, low, e, n, rn_bits, f) (holds (simp (controls, e)))) also
        (λ f. simp (controls, lows, groups, cond, group, op, s, low, e, n, rn_bits, f) (holds (simp (controls, e)))) also
        (λ f. simp (controls, lows, groups, cond, group, op, s, low, e, n, rn_bits, f) (holds (simp (controls, e)))) also
        (λ f. simp (controls, lows, groups, cond, group, op, s, low, e, n, rn_bits, f) (holds (simp (controls, e)))) also tt)

    pub status : field w 4 4 ≡ 0 → HeldAt w addr
    status low = unfold decode_of group_of dp_misc_of D.plain_of control_of said_of page_of standing_of A.table_row A.data_processing A.miscellaneous in
        by_field w 21 2
        (
        (λ e. by_field w 9 1 ((λ n. simp (controls, lows, groups, cond, group, op, s, low, e, n) (holds (simp (controls, e)))) also
        (λ n. simp (controls, lows, groups, cond, group, op, s, low, e, n) (holds refl)) also tt)) also
        (λ e. by_field w 9 1 ((λ n. msr_fields low e n) also (λ n. simp (controls, lows, groups, cond, group, op, s, low, e, n) (holds refl)) also
        tt)) also
        (λ e. by_field w 9 1 ((λ n. simp (controls, lows, groups, cond, group, op, s, low, e, n) (holds (simp (controls, e)))) also
        (λ n. simp (controls, lows, groups, cond, group, op, s, low, e, n) (holds refl)) also tt)) also
        (λ e. by_field w 9 1 ((λ n. simp (controls, lows, groups, cond, group, op, s, low, e, n) (holds (simp (controls, e)))) also
        (λ n. simp (controls, lows, groups, cond, group, op, s, low, e, n) (holds refl)) also tt)) also tt)

    pub exchange_and_zeros : field w 4 4 ≡ 1 → HeldAt w addr
    unfolding decode_of group_of dp_misc_of D.plain_of control_of said_of page_of standing_of A.table_row A.data_processing A.miscellaneous
    exchange_and_zeros low =
        by_field w 21 2
        ((λ e. simp (controls, lows, groups, cond, group, op, s, low, e) (undefined_held w addr)) also
        (λ e. simp (controls, lows, groups, cond, group, op, s, low, e) (holds refl)) also
        (λ e. simp (controls, lows, groups, cond, group, op, s, low, e) (undefined_held w addr)) also
        (λ e. simp (controls, lows, groups, cond, group, op, s, low, e) (holds refl)) also tt)

    pub jazelle : field w 4 4 ≡ 2 → HeldAt w addr
    jazelle low = unfold decode_of group_of dp_misc_of D.plain_of control_of said_of page_of standing_of A.table_row A.data_processing A.miscellaneous in
        by_field w 21 2
        ((λ e. simp (controls, lows, groups, cond, group, op, s, low, e) (undefined_held w addr)) also
        (λ e. simp (controls, lows, groups, cond, group, op, s, low, e) (holds refl)) also
        (λ e. simp (controls, lows, groups, cond, group, op, s, low, e) (undefined_held w addr)) also
        (λ e. simp (controls, lows, groups, cond, group, op, s, low, e) (undefined_held w addr)) also tt)

    pub exchange_link : field w 4 4 ≡ 3 → HeldAt w addr
    exchange_link low = unfold decode_of group_of dp_misc_of D.plain_of control_of said_of page_of standing_of A.table_row A.data_processing A.miscellaneous in
        by_field w 21 2
        ((λ e. simp (controls, lows, groups, cond, group, op, s, low, e) (undefined_held w addr)) also
        (λ e. simp (controls, lows, groups, cond, group, op, s, low, e) (holds refl)) also
        (λ e. simp (controls, lows, groups, cond, group, op, s, low, e) (undefined_held w addr)) also
        (λ e. simp (controls, lows, groups, cond, group, op, s, low, e) (undefined_held w addr)) also tt)

    pub none : field w 4 4 ≡ 4 → HeldAt w addr
    none low = unfold decode_of group_of dp_misc_of D.plain_of control_of said_of page_of standing_of A.table_row A.data_processing A.miscellaneous in
        by_field w 21 2
        ((λ e. simp (controls, lows, groups, cond, group, op, s, low, e) (undefined_held w addr)) also
        (λ e. simp (controls, lows, groups, cond, group, op, s, low, e) (undefined_held w addr)) also
        (λ e. simp (controls, lows, groups, cond, group, op, s, low, e) (undefined_held w addr)) also
        (λ e. simp (controls, lows, groups, cond, group, op, s, low, e) (undefined_held w addr)) also tt)

    pub saturating : field w 4 4 ≡ 5 → HeldAt w addr
    unfolding decode_of group_of dp_misc_of D.plain_of control_of said_of page_of standing_of A.table_row A.data_processing A.miscellaneous A.saturating
    saturating low =
        by_field w 21 2
        ((λ e. simp (controls, lows, groups, cond, group, op, s, low, e) (holds refl)) also
        (λ e. simp (controls, lows, groups, cond, group, op, s, low, e) (holds refl)) also
        (λ e. simp (controls, lows, groups, cond, group, op, s, low, e) (holds refl)) also
        (λ e. simp (controls, lows, groups, cond, group, op, s, low, e) (holds refl)) also tt)

    pub return : field w 4 4 ≡ 6 → HeldAt w addr
    return low = unfold decode_of group_of dp_misc_of D.plain_of control_of said_of page_of standing_of A.table_row A.data_processing A.miscellaneous in
        by_field w 21 2
        ((λ e. simp (controls, lows, groups, cond, group, op, s, low, e) (undefined_held w addr)) also
        (λ e. simp (controls, lows, groups, cond, group, op, s, low, e) (undefined_held w addr)) also
        (λ e. simp (controls, lows, groups, cond, group, op, s, low, e) (undefined_held w addr)) also
        (λ e. simp (controls, lows, groups, cond, group, op, s, low, e) (holds refl)) also tt)

    pub breakpoint : field w 4 4 ≡ 7 → HeldAt w addr
    breakpoint low = unfold decode_of group_of dp_misc_of D.plain_of control_of said_of page_of standing_of A.table_row A.data_processing A.miscellaneous in
        by_field w 21 2
        ((λ e. simp (controls, lows, groups, cond, group, op, s, low, e) (undefined_held w addr)) also
        (λ e. split (eqb (field w 28 4) 14) (λ c. simp (controls, lows, groups, cond, group, op, s, low, e)
        (holds (simp (c, eqb-true (field w 28 4) 14 c)))) (λ c. simp (controls, lows, groups, cond, group, op, s, low, e)
        (holds (simp c (refl, conditions c))))) also
        (λ e. simp (controls, lows, groups, cond, group, op, s, low, e) (holds refl)) also
        (λ e. simp (controls, lows, groups, cond, group, op, s, low, e) (holds refl)) also tt)

    -- the halfword multiplies: a page reads four names, or two, that stand in a row
    module _ (seven : field w 7 1 ≡ 1) (four : field w 4 1 ≡ 0) where
      pub halfword : HeldAt w addr
      halfword = unfold decode_of group_of dp_misc_of D.plain_of control_of said_of page_of standing_of A.table_row A.data_processing A.halfword_multiply in
          by_field w 21 2
          ((λ e. simp (controls, low_bits, groups, cond, group, op, s, seven, four, e) (holds (simp (← halves_is w (name "smlabb"))))) also
          (λ e.
          by_field w 5 1
          ((λ x. simp (controls, low_bits, groups, cond, group, op, s, seven, four, e, x) (holds (simp (← half_is w (name "smlawb"))))) also
          (λ x. simp (controls, low_bits, groups, cond, group, op, s, seven, four, e, x) (holds (simp (← half_is w (name "smulwb"))))) also tt)) also
          (λ e. simp (controls, low_bits, groups, cond, group, op, s, seven, four, e) (holds (simp (← halves_is w (name "smlalbb"))))) also
          (λ e. simp (controls, low_bits, groups, cond, group, op, s, seven, four, e) (holds (simp (← halves_is w (name "smulbb"))))) also tt)
