-- Unconditional instructions beside the manual. Assumes nothing.
use mathlib.Core.Path.{◌≡◌, refl}
use mathlib.Core.Bool.{true, false}
use Prim.Native.Nat.{ℕ, ◌+◌, ◌*◌}
use Prim.Native.String.{String}
use native.Mathlib.Omega.{arith}
use borrow.Author.Tests.{eqb-false, eqb-true, eq-eqb, ne_eqb}
use lib.Dec.{eqb}
use Rattle.word.specs.Choice.{pick}
use Rattle.word.specs.Field.{field, small, splits}
use Rattle.insn.specs.Answer.{accepted, refused}
use Rattle.insn.specs.declared.Insn.{Insn}
use Rattle.a32_transfer.specs.Unconditional.{barrier_slot, preload_slot}
use Rattle.a32.specs.Decode.{decode_of}
use Rattle.manual.specs.A5 as A
use Rattle.manual.specs.A8.{said_of, page_of}
use Rattle.manual.specs.Departures.{standing_of, barrier_bits, literal_pldw}
use Rattle.manual.proofs.Fields.{Held, HeldAt, holds, ops, op_24, both_24_4, both_20_8, eight_bits, seven_bits, five_bits, whole_19, whole_23, lows}
use Rattle.manual.proofs.Fields.{low_bits, bits, both_false, both_true, pick_same, by_field, split, apart, accepts, refuses, ◌also◌}
use Rattle.manual.proofs.Forms.{mark_at}
use Rattle.manual.proofs.Pages.{named, undefined_held}
use Rattle.manual_follows.proofs.Rows.{Where, read_where, later_rows}
use Rattle.manual_follows.proofs.Targets.{blx_is}

module _ (w addr : ℕ) (cond : field w 28 4 ≡ 15) where
  -- what is unpredictable is refused, but for a PLDW from R[15]
  unpredictable_held : literal_pldw w ≡ false → Held "UNPREDICTABLE" w addr (refused 3)
  unpredictable_held other = unfold said_of page_of standing_of in holds (simp other)

  -- 27:24 other than 0101 is neither preload nor barrier
  module _ (off : eqb (field w 24 4) 5 ≡ false) where
    no_literal : literal_pldw w ≡ false
    no_literal = unfold literal_pldw in simp (off, both_false)

    no_preload : preload_slot w ≡ false
    no_preload = unfold preload_slot in simp off

    no_barrier : barrier_slot w ≡ false
    unfolding barrier_slot
    no_barrier = ne_eqb (field w 8 20) 0x57ff0 (λ is. eqb-false (field w 24 4) 5 off (omega (arith, is, splits w 8 4 16, small w 8 16)))

  off_group : (g : ℕ) → field w 25 3 ≡ g → eqb g 2 ≡ false → eqb (field w 24 4) 5 ≡ false
  off_group g h n =
      ne_eqb (field w 24 4) 5
      (λ (e : field w 24 4 ≡ 5). eqb-false g 2 n (omega (arith, e, h, splits w 24 3 1, small w 24 1)))

  group_0 : field w 25 3 ≡ 0 → HeldAt w addr
  group_0 group = unfold decode_of said_of page_of standing_of A.table_row A.unconditional A.hints_and_simd in
      simp (eight_bits, seven_bits, cond, group, no_preload (off_group 0 group refl), no_barrier (off_group 0 group refl))
      (search later_rows depth 40 fits 4000)

  group_1 : field w 25 3 ≡ 1 → HeldAt w addr
  unfolding decode_of said_of page_of standing_of A.table_row A.unconditional A.hints_and_simd
  group_1 group =
      simp (eight_bits, seven_bits, cond, group, no_preload (off_group 1 group refl), no_barrier (off_group 1 group refl))
      (named w addr _ refl refl refl)

  module _ (group : field w 25 3 ≡ 2) where
    -- 27:24 = 0100
    module _ (b24 : field w 24 1 ≡ 0) where
      off : eqb (field w 24 4) 5 ≡ false
      off = simp (both_24_4, ← op_24, group, b24)

      below : HeldAt w addr
      below = unfold decode_of said_of page_of standing_of A.table_row A.unconditional A.hints_and_simd in
          by_field w 20 1
          ((λ b20. simp (eight_bits, seven_bits, both_false, cond, group, no_preload off, no_barrier off, b24, b20)
          (named w addr _ refl refl refl)) also
          (λ b20. by_field w 21 1
          ((λ b21. by_field w 22 1
          ((λ b22. simp (eight_bits, seven_bits, both_false, cond, group, no_preload off, no_barrier off, b24, b20, b21, b22)
          (named w addr _ refl refl refl)) also
          (λ b22. simp (eight_bits, seven_bits, both_false, cond, group, no_preload off, no_barrier off, b24, b20, b21, b22)
          (named w addr _ refl refl refl)) also tt)) also
          (λ b21. simp (eight_bits, seven_bits, both_false, cond, group, no_preload off, no_barrier off, b24, b20, b21)
          (unpredictable_held (no_literal off))) also tt)) also tt)

    -- 27:24 = 0101: preloads and barriers, by 23:20
    module _ (b24 : field w 24 1 ≡ 1) where
      slot : eqb (field w 24 4) 5 ≡ true
      slot = simp (both_24_4, ← op_24, group, b24)

      kind : field w 20 2 ≡ field w 21 1 * 2 + field w 20 1
      kind = splits w 20 1 1

      even : field w 20 1 ≡ 0 → (eqb (field w 20 2) 1 ≡ false) × (eqb (field w 20 2) 3 ≡ false)
      even b20 = (ne_eqb (field w 20 2) 1 (λ is. omega (arith, is, kind, b20)), ne_eqb (field w 20 2) 3 (λ is. omega (arith, is, kind, b20)))

      other_kind : eqb (field w 20 2) 1 ≡ false → preload_slot w ≡ false
      other_kind n = unfold preload_slot in simp (n, both_false)

      other_barrier : eqb (field w 20 2) 3 ≡ false → barrier_slot w ≡ false
      unfolding barrier_slot
      other_barrier n =
          ne_eqb (field w 8 20) 0x57ff0 (λ is. eqb-false (field w 20 2) 3 n (omega (
            arith,
            is,
            splits w 8 8 12,
            splits w 20 6 2,
            small w 8 12,
            small w 20 2,
          )))

      -- 1111 0101 0111
      module _ (e : field w 20 5 ≡ 23) where
        is_barrier : barrier_slot w ≡ eqb (field w 8 12) 0xff0
        unfolding barrier_slot
        is_barrier =
            split (eqb (field w 8 12) 0xff0)
            (λ d. simp d (eq-eqb (field w 8 20) 0x57ff0 (omega (arith, eqb-true (field w 8 12) 0xff0 d, whole))))
            (λ d. simp d (ne_eqb (field w 8 20) 0x57ff0 (λ is. eqb-false (field w 8 12) 0xff0 d (omega (arith, is, whole)))))
          where
            whole : field w 8 20 ≡ 0x57 * 4096 + field w 8 12
            whole = omega (arith, e, group, splits w 8 8 12, both_20_8 w)

        no_preload_23 : preload_slot w ≡ false
        no_preload_23 = other_kind (simp (ops, e))

        no_literal_23 : literal_pldw w ≡ false
        no_literal_23 = unfold literal_pldw in simp (ops, e, both_false)

        -- 7:4 other than 0001, 0100, 0101 and 0110
        module _ (n1 : eqb (field w 4 4) 1 ≡ false) (n4 : eqb (field w 4 4) 4 ≡ false) (n5 : eqb (field w 4 4) 5 ≡ false)
            (n6 : eqb (field w 4 4) 6 ≡ false) where
          refused_here : decode_of w addr ≡ refused 3
          unfolding decode_of
          refused_here = split (barrier_slot w) (λ d. simp (cond, group, d, n1, n4, n5, n6)) (λ d. simp (cond, group, d, no_preload_23))

          unread : HeldAt w addr
          unread = unfold said_of page_of standing_of A.table_row A.unconditional A.hints_and_simd in
              simp (refused_here, eight_bits, seven_bits, cond, group, ops, e, n1, n4, n5, n6)
              (search (later_rows, unpredictable_held no_literal_23) depth 40 fits 4000)

        barrier : (row : String) {i : Insn} → Where w addr row barrier_bits (eqb (field w 8 12) 0xff0) i
            → Held row w addr (pick (eqb (field w 8 12) 0xff0) (accepted i) (refused 3))
        barrier row = read_where w addr row barrier_bits (eqb (field w 8 12) 0xff0) _

        barriers : HeldAt w addr
        barriers = unfold decode_of said_of page_of standing_of A.table_row A.unconditional A.hints_and_simd in
            split (eqb (field w 4 4) 1)
            (λ b. simp (eight_bits, seven_bits, cond, group, ops, is_barrier, no_preload_23, lows, e, eqb-true (field w 4 4) 1 b)
            (barrier "CLREX" (simp cond, refl, refl, refl)))
            (λ n1. split (eqb (field w 4 4) 4)
            (λ b. simp (eight_bits, seven_bits, cond, group, ops, is_barrier, no_preload_23, lows, e, eqb-true (field w 4 4) 4 b)
            (barrier "DSB" (simp cond, refl, refl, refl)))
            (λ n4. split (eqb (field w 4 4) 5)
            (λ b. simp (eight_bits, seven_bits, cond, group, ops, is_barrier, no_preload_23, lows, e, eqb-true (field w 4 4) 5 b)
            (barrier "DMB" (simp cond, refl, refl, refl)))
            (λ n5. split (eqb (field w 4 4) 6)
            (λ b. simp (eight_bits, seven_bits, cond, group, ops, is_barrier, no_preload_23, lows, e, eqb-true (field w 4 4) 6 b)
            (barrier "ISB" (simp cond, refl, refl, refl))) (unread n1 n4 n5))))

      -- 21:20 = 01, by Rn and by 15:12
      module _ (b20 : field w 20 1 ≡ 1) (b21 : field w 21 1 ≡ 0) where
        is_preload : preload_slot w ≡ eqb (field w 12 4) 15
        is_preload = unfold preload_slot in simp (slot, kind, b20, b21, both_true)

        three : field w 20 3 ≡ field w 22 1 * 4 + 1
        three = omega (arith, b20, b21, splits w 20 1 2, kind)

        no_barrier_01 : barrier_slot w ≡ false
        no_barrier_01 = other_barrier (simp (kind, b20, b21))

        preloads : HeldAt w addr
        preloads = unfold decode_of said_of page_of standing_of literal_pldw A.table_row A.unconditional A.hints_and_simd in
            by_field w 22 1
            ((λ b22. split (eqb (field w 16 4) 15)
            (λ r. split (eqb (field w 12 4) 15)
            (λ d. simp (eight_bits, seven_bits, bits, cond, group, is_preload, no_barrier_01, whole_19 w, whole_23 w, b24, b20, b21, b22, r, d)
            (holds (simp (bits, cond, group, slot, three, b24, b20, b21, b22, r, d) (refl, accepts))))
            (λ d. simp (eight_bits, seven_bits, bits, cond, group, is_preload, no_barrier_01, whole_19 w, whole_23 w, b24, b20, b21, b22, r, d)
            (holds (simp (bits, d)))))
            (λ r. split (eqb (field w 12 4) 15)
            (λ d. by_field w 23 1
            ((λ u. split (eqb (field w 0 12) 0)
            (λ z. simp (eight_bits, seven_bits, bits, cond, group, is_preload, no_barrier_01, whole_19 w, whole_23 w, b24, b20, b21, b22, r, d, u, z)
            (holds (simp (bits, cond, d, u, z) (refl, apart (mark_at 0) _ _ refl))))
            (λ z. simp (eight_bits, seven_bits, bits, cond, group, is_preload, no_barrier_01, whole_19 w, whole_23 w, b24, b20, b21, b22, r, d, u, z)
            (holds (simp (bits, cond, d, u, z))))) also
            (λ u. simp (eight_bits, seven_bits, bits, cond, group, is_preload, no_barrier_01, whole_19 w, whole_23 w, b24, b20, b21, b22, r, d, u)
            (holds (simp (bits, cond, d, u)))) also tt))
            (λ d. simp (eight_bits, seven_bits, bits, cond, group, is_preload, no_barrier_01, whole_19 w, whole_23 w, b24, b20, b21, b22, r, d)
            (holds (simp (bits, cond, d) (refl, refuses)))))) also
            (λ b22. split (eqb (field w 16 4) 15)
            (λ r. split (eqb (field w 12 4) 15)
            (λ d. by_field w 23 1
            ((λ u. split (eqb (field w 0 12) 0)
            (λ z. simp (eight_bits, seven_bits, bits, cond, group, is_preload, no_barrier_01, whole_19 w, whole_23 w, b24, b20, b21, b22, r, d, u, z)
            (holds (simp (bits, cond, d, u, z) (refl, apart (mark_at 0) _ _ refl))))
            (λ z. simp (eight_bits, seven_bits, bits, cond, group, is_preload, no_barrier_01, whole_19 w, whole_23 w, b24, b20, b21, b22, r, d, u, z)
            (holds (simp (bits, cond, d, u, z))))) also
            (λ u. simp (eight_bits, seven_bits, bits, cond, group, is_preload, no_barrier_01, whole_19 w, whole_23 w, b24, b20, b21, b22, r, d, u)
            (holds (simp (bits, cond, d, u)))) also tt))
            (λ d. simp (eight_bits, seven_bits, bits, cond, group, is_preload, no_barrier_01, whole_19 w, whole_23 w, b24, b20, b21, b22, r, d)
            (holds (simp (bits, cond, d) (refl, refuses)))))
            (λ r. split (eqb (field w 12 4) 15)
            (λ d. by_field w 23 1
            ((λ u. split (eqb (field w 0 12) 0)
            (λ z. simp (eight_bits, seven_bits, bits, cond, group, is_preload, no_barrier_01, whole_19 w, whole_23 w, b24, b20, b21, b22, r, d, u, z)
            (holds (simp (bits, cond, d, u, z) (refl, apart (mark_at 0) _ _ refl))))
            (λ z. simp (eight_bits, seven_bits, bits, cond, group, is_preload, no_barrier_01, whole_19 w, whole_23 w, b24, b20, b21, b22, r, d, u, z)
            (holds (simp (bits, cond, d, u, z))))) also
            (λ u. simp (eight_bits, seven_bits, bits, cond, group, is_preload, no_barrier_01, whole_19 w, whole_23 w, b24, b20, b21, b22, r, d, u)
            (holds (simp (bits, cond, d, u)))) also tt))
            (λ d. simp (eight_bits, seven_bits, bits, cond, group, is_preload, no_barrier_01, whole_19 w, whole_23 w, b24, b20, b21, b22, r, d)
            (holds (simp (bits, cond, d) (refl, refuses)))))) also tt)

      -- 21:20 = 11: unpredictable, but for the barriers
      module _ (b20 : field w 20 1 ≡ 1) (b21 : field w 21 1 ≡ 1) where
        no_literal_11 : literal_pldw w ≡ false
        no_literal_11 = unfold literal_pldw in simp (ne_eqb (field w 20 3) 1 (λ is. omega (arith, is, splits w 20 1 2, kind, b20, b21)), both_false)

        module _ (b23 b22 : ℕ) (is-23 : field w 23 1 ≡ b23) (is-22 : field w 22 1 ≡ b22) (other : eqb (b23 * 2 + b22) 1 ≡ false) where
          no_barrier_11 : barrier_slot w ≡ false
          no_barrier_11 = unfold barrier_slot in
              ne_eqb (field w 8 20) 0x57ff0
              (λ is. eqb-false (b23 * 2 + b22) 1 other (omega (
                arith,
                is,
                is-23,
                is-22,
                splits w 22 1 1,
                splits w 22 4 2,
                splits w 8 6 14,
                small w 8 14,
                small w 22 2,
              )))

          refused_11 : decode_of w addr ≡ refused 3
          refused_11 = unfold decode_of in simp (cond, group, no_barrier_11, other_kind (simp (kind, b20, b21)))

          unnamed : A.table_row w ≡ "UNPREDICTABLE" → HeldAt w addr
          unnamed row = simp (row, refused_11) (unpredictable_held no_literal_11)

        rest : HeldAt w addr
        rest = unfold A.table_row A.unconditional A.hints_and_simd in
            by_field w 23 1
            ((λ b23. by_field w 22 1
            ((λ b22. unnamed 0 0 b23 b22 refl (simp (eight_bits, seven_bits, cond, group, five_bits w, b24, b23, b22, b21, b20))) also
            (λ b22. barriers (simp (five_bits w, b24, b23, b22, b21, b20))) also tt)) also
            (λ b23. by_field w 22 1
            ((λ b22. unnamed 1 0 b23 b22 refl (simp (eight_bits, seven_bits, cond, group, five_bits w, b24, b23, b22, b21, b20))) also
            (λ b22. unnamed 1 1 b23 b22 refl (simp (eight_bits, seven_bits, cond, group, five_bits w, b24, b23, b22, b21, b20))) also tt)) also tt)

      above : HeldAt w addr
      above = unfold decode_of said_of page_of standing_of A.table_row A.unconditional A.hints_and_simd in
          by_field w 20 1
          ((λ b20. simp (
            eight_bits,
            seven_bits,
            bits,
            cond,
            group,
            other_kind (even b20).0,
            other_barrier (even b20).1,
            whole_19 w,
            whole_23 w,
            b24,
            b20,
          ) (undefined_held w addr)) also
          (λ b20. by_field w 21 1 (preloads b20 also rest b20 also tt)) also tt)

    group_2 : HeldAt w addr
    group_2 = by_field w 24 1 (below also above also tt)

  -- by bits 4, 20, 21, 22 and 24
  group_3 : field w 25 3 ≡ 3 → HeldAt w addr
  group_3 group = unfold decode_of said_of page_of standing_of A.table_row A.unconditional A.hints_and_simd in
      by_field w 4 1
      ((λ b. by_field w 20 1
      ((λ b20. simp (
        eight_bits,
        seven_bits,
        both_false,
        cond,
        group,
        no_preload (off_group 3 group refl),
        no_barrier (off_group 3 group refl),
        low_bits,
        pick_same,
        b,
        b20,
      ) (undefined_held w addr)) also
      (λ b20. by_field w 21 1
      ((λ b21. by_field w 22 1
      ((λ b22. by_field w 24 1 ((λ b24. simp (
        eight_bits,
        seven_bits,
        both_false,
        cond,
        group,
        no_preload (off_group 3 group refl),
        no_barrier (off_group 3 group refl),
        low_bits,
        b,
        b20,
        b21,
        b22,
        b24,
      ) (named w addr _ refl refl refl)) also
      (λ b24. simp (
        eight_bits,
        seven_bits,
        both_false,
        cond,
        group,
        no_preload (off_group 3 group refl),
        no_barrier (off_group 3 group refl),
        low_bits,
        b,
        b20,
        b21,
        b22,
        b24,
      ) (named w addr _ refl refl refl)) also tt)) also
      (λ b22. by_field w 24 1 ((λ b24. simp (
        eight_bits,
        seven_bits,
        both_false,
        cond,
        group,
        no_preload (off_group 3 group refl),
        no_barrier (off_group 3 group refl),
        low_bits,
        b,
        b20,
        b21,
        b22,
        b24,
      ) (named w addr _ refl refl refl)) also
      (λ b24. simp (
        eight_bits,
        seven_bits,
        both_false,
        cond,
        group,
        no_preload (off_group 3 group refl),
        no_barrier (off_group 3 group refl),
        low_bits,
        b,
        b20,
        b21,
        b22,
        b24,
      ) (named w addr _ refl refl refl)) also tt)) also tt)) also
      (λ b21. simp (
        eight_bits,
        seven_bits,
        both_false,
        cond,
        group,
        no_preload (off_group 3 group refl),
        no_barrier (off_group 3 group refl),
        low_bits,
        b,
        b20,
        b21,
      ) (unpredictable_held (no_literal (off_group 3 group refl)))) also tt)) also tt)) also
      (λ b. simp (
        eight_bits,
        seven_bits,
        both_false,
        cond,
        group,
        no_preload (off_group 3 group refl),
        no_barrier (off_group 3 group refl),
        low_bits,
        pick_same,
        both_false,
        b,
      ) (undefined_held w addr)) also tt)

  group_4 : field w 25 3 ≡ 4 → HeldAt w addr
  group_4 group = unfold decode_of said_of page_of standing_of A.table_row A.unconditional A.hints_and_simd in
      simp (eight_bits, seven_bits, cond, group, no_preload (off_group 4 group refl), no_barrier (off_group 4 group refl))
      (search later_rows depth 40 fits 4000)

  group_5 : field w 25 3 ≡ 5 → HeldAt w addr
  unfolding decode_of said_of page_of standing_of A.table_row A.unconditional A.hints_and_simd
  group_5 group = simp (eight_bits, cond, group) (holds (simp (blx_is, cond)))

  group_6 : field w 25 3 ≡ 6 → HeldAt w addr
  group_6 group = unfold decode_of said_of page_of standing_of A.table_row A.unconditional A.hints_and_simd in
      simp (eight_bits, seven_bits, cond, group, no_preload (off_group 6 group refl), no_barrier (off_group 6 group refl))
      (search later_rows depth 40 fits 4000)

  -- by bits 24, 4 and 20
  group_7 : field w 25 3 ≡ 7 → HeldAt w addr
  group_7 group = unfold decode_of said_of page_of standing_of A.table_row A.unconditional A.hints_and_simd in
      by_field w 24 1
      ((λ b24. by_field w 4 1
      ((λ b. simp (eight_bits, seven_bits, cond, group, no_preload (off_group 7 group refl), no_barrier (off_group 7 group refl), b24, b)
      (named w addr _ refl refl refl)) also
      (λ b. by_field w 20 1
      ((λ b20. simp (eight_bits, seven_bits, cond, group, no_preload (off_group 7 group refl), no_barrier (off_group 7 group refl), b24, b, b20)
      (named w addr _ refl refl refl)) also
      (λ b20. simp (eight_bits, seven_bits, cond, group, no_preload (off_group 7 group refl), no_barrier (off_group 7 group refl), b24, b, b20)
      (named w addr _ refl refl refl)) also tt)) also tt)) also
      (λ b24. simp (eight_bits, seven_bits, cond, group, no_preload (off_group 7 group refl), no_barrier (off_group 7 group refl), b24)
      (undefined_held w addr)) also tt)

  pub unconditional : HeldAt w addr
  unconditional =
      by_field w 25 3
      (group_0 also group_1 also group_2 also group_3 also group_4 also group_5 also group_6 also group_7 also tt)
