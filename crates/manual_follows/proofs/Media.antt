-- Media instructions beside the manual. Assumes nothing.
use mathlib.Core.Path.{◌≡◌, refl}
use mathlib.Core.Bool.{Bool, true, false, not}
use Prim.Native.Nat.{ℕ, ◌/◌, ◌%◌}
use Prim.Native.String.{String}
use borrow.Author.Tests.{eqb-true}
use lib.Dec.{eqb, ltb}
use Rattle.word.specs.Choice.{pick, both}
use Rattle.word.specs.Field.{field, within}
use Rattle.insn.specs.Answer.{accepted, refused}
use Rattle.insn.specs.declared.Insn.{Insn}
use Rattle.a32.specs.Decode.{decode_of, group_of}
use Rattle.manual.specs.A5 as A
use Rattle.manual.specs.A8.{said_of, page_of}
use Rattle.manual.specs.Departures.{standing_of, extend_bits, reverse_bits}
use Rattle.manual.proofs.Fields.{Held, HeldAt, holds, ops, highs, high_bits_lem, groups, by_field, split, conditions, refuses, ◌also◌}
use Rattle.manual.proofs.Pages.{undefined_held}
use Rattle.manual.proofs.Shifts.{saturate_is}
use Rattle.manual_follows.proofs.Rows.{Where, read_where, rows, later_rows}

pick_both {ℓ} : {A : Type ℓ} (a b : Bool) (x y : A) → pick (both a b) x y ≡ pick a (pick b x y) y
pick_both true b x y = refl
pick_both false b x y = refl

module _ (w addr : ℕ) (cond : eqb (field w 28 4) 15 ≡ false) (group : field w 25 3 ≡ 3) (low : field w 4 1 ≡ 1) where
  bit_5 : field w 5 3 / 1 % 2 ≡ field w 5 1
  bit_5 = unfold field in within w 5 3 0 1 refl

  -- an extension: it adds nothing where Rn is 15
  extension : (adding plain : String) {i j : Insn} → Where w addr adding extend_bits (eqb (field w 8 2) 0) i
      → Where w addr plain extend_bits (eqb (field w 8 2) 0) j
      → Held (pick (both (not (eqb (field w 16 4) 15)) true) adding (pick (both (eqb (field w 16 4) 15) true) plain "UNDEFINED")) w addr
      (pick (eqb (field w 8 2) 0) (pick (eqb (field w 16 4) 15) (accepted j) (accepted i)) (refused 3))
  extension adding plain p q =
      split (eqb (field w 16 4) 15)
      (λ r. simp r (read_where w addr plain extend_bits (eqb (field w 8 2) 0) _ q))
      (λ r. simp r (read_where w addr adding extend_bits (eqb (field w 8 2) 0) _ p))

  -- a reversal, with 15 for Rn and in 11:8
  reversal : (row : String) {i : Insn} → Where w addr row reverse_bits (both (eqb (field w 16 4) 15) (eqb (field w 8 4) 15)) i
      → Held row w addr (pick (eqb (field w 16 4) 15) (pick (eqb (field w 8 4) 15) (accepted i) (refused 3)) (refused 3))
  reversal row p = rw (← pick_both) (read_where w addr row reverse_bits (both (eqb (field w 16 4) 15) (eqb (field w 8 4) 15)) _ p)

  extend_8 : field w 20 5 ≡ 8 → HeldAt w addr
  extend_8 e = unfold decode_of group_of said_of page_of standing_of A.table_row A.media A.packing in
      split (eqb (field w 5 3) 3)
      (λ u. simp (ops, highs, groups, cond, group, low, e, eqb-true (field w 5 3) 3 u) (extension "SXTAB16" "SXTB16" (refl, refl, refl, refl)
      (refl, refl, refl, refl)))
      (λ u. simp (ops, highs, groups, cond, group, low, e, u) (search later_rows depth 40 fits 4000))

  extend_12 : field w 20 5 ≡ 12 → HeldAt w addr
  extend_12 e = unfold decode_of group_of said_of page_of standing_of A.table_row A.media A.packing in
      split (eqb (field w 5 3) 3)
      (λ u. simp (ops, highs, groups, cond, group, low, e, eqb-true (field w 5 3) 3 u) (extension "UXTAB16" "UXTB16" (refl, refl, refl, refl)
      (refl, refl, refl, refl)))
      (λ u. simp (ops, highs, groups, cond, group, low, e, u) (search later_rows depth 40 fits 4000))

  saturate_10 : field w 20 5 ≡ 10 → HeldAt w addr
  saturate_10 e = unfold decode_of group_of said_of page_of standing_of A.table_row A.media A.packing in
      by_field w 5 1
      ((λ b. simp (bit_5, ops, highs, groups, cond, group, low, e, b) (holds (simp (highs, saturate_is)))) also
      (λ b. split (eqb (field w 5 3) 3)
      (λ u. simp (ops, highs, groups, cond, group, low, e, eqb-true (field w 5 3) 3 u) (extension "SXTAB" "SXTB" (refl, refl, refl, refl)
      (refl, refl, refl, refl)))
      (λ u. simp (bit_5, ops, highs, groups, cond, group, low, e, b, u) (search later_rows depth 40 fits 4000))) also tt)

  saturate_11 : field w 20 5 ≡ 11 → HeldAt w addr
  saturate_11 e = unfold decode_of group_of said_of page_of standing_of A.table_row A.media A.packing in
      by_field w 5 1
      ((λ b. simp (bit_5, ops, highs, groups, cond, group, low, e, b) (holds (simp (highs, saturate_is)))) also
      (λ b. split (eqb (field w 5 3) 3)
      (λ u. simp (ops, highs, groups, cond, group, low, e, eqb-true (field w 5 3) 3 u) (extension "SXTAH" "SXTH" (refl, refl, refl, refl)
      (refl, refl, refl, refl)))
      (λ u. split (eqb (field w 5 3) 1)
      (λ v. simp (ops, highs, groups, cond, group, low, e, eqb-true (field w 5 3) 1 v) (reversal "REV" (refl, refl, refl, refl)))
      (λ v. split (eqb (field w 5 3) 5)
      (λ x. simp (ops, highs, groups, cond, group, low, e, eqb-true (field w 5 3) 5 x) (reversal "REV16" (refl, refl, refl, refl)))
      (λ x. simp (bit_5, ops, highs, groups, cond, group, low, e, b, u, v, x) (search later_rows depth 40 fits 4000))))) also tt)

  saturate_14 : field w 20 5 ≡ 14 → HeldAt w addr
  saturate_14 e = unfold decode_of group_of said_of page_of standing_of A.table_row A.media A.packing in
      by_field w 5 1
      ((λ b. simp (bit_5, ops, highs, groups, cond, group, low, e, b) (holds (simp (highs, saturate_is)))) also
      (λ b. split (eqb (field w 5 3) 3)
      (λ u. simp (ops, highs, groups, cond, group, low, e, eqb-true (field w 5 3) 3 u) (extension "UXTAB" "UXTB" (refl, refl, refl, refl)
      (refl, refl, refl, refl)))
      (λ u. simp (bit_5, ops, highs, groups, cond, group, low, e, b, u) (search later_rows depth 40 fits 4000))) also tt)

  saturate_15 : field w 20 5 ≡ 15 → HeldAt w addr
  saturate_15 e = unfold decode_of group_of said_of page_of standing_of A.table_row A.media A.packing in
      by_field w 5 1
      ((λ b. simp (bit_5, ops, highs, groups, cond, group, low, e, b) (holds (simp (highs, saturate_is)))) also
      (λ b. split (eqb (field w 5 3) 3)
      (λ u. simp (ops, highs, groups, cond, group, low, e, eqb-true (field w 5 3) 3 u) (extension "UXTAH" "UXTH" (refl, refl, refl, refl)
      (refl, refl, refl, refl)))
      (λ u. split (eqb (field w 5 3) 1)
      (λ v. simp (ops, highs, groups, cond, group, low, e, eqb-true (field w 5 3) 1 v) (reversal "RBIT" (refl, refl, refl, refl)))
      (λ v. split (eqb (field w 5 3) 5)
      (λ x. simp (ops, highs, groups, cond, group, low, e, eqb-true (field w 5 3) 5 x) (reversal "REVSH" (refl, refl, refl, refl)))
      (λ x. simp (bit_5, ops, highs, groups, cond, group, low, e, b, u, v, x) (search later_rows depth 40 fits 4000))))) also tt)

  divide_17 : field w 20 5 ≡ 17 → HeldAt w addr
  divide_17 e = unfold decode_of group_of said_of page_of standing_of A.table_row A.media A.signed_multiply in
      split (eqb (field w 5 3) 0)
      (λ u. simp (ops, highs, groups, cond, group, low, e, eqb-true (field w 5 3) 0 u) (holds refl))
      (λ u. simp (ops, highs, groups, cond, group, low, e, u) (undefined_held w addr))

  divide_19 : field w 20 5 ≡ 19 → HeldAt w addr
  divide_19 e = unfold decode_of group_of said_of page_of standing_of A.table_row A.media A.signed_multiply in
      split (eqb (field w 5 3) 0)
      (λ u. simp (ops, highs, groups, cond, group, low, e, eqb-true (field w 5 3) 0 u) (holds refl))
      (λ u. simp (ops, highs, groups, cond, group, low, e, u) (undefined_held w addr))

  extract_26 : field w 20 5 ≡ 26 → HeldAt w addr
  extract_26 e = unfold decode_of group_of said_of page_of standing_of A.table_row A.media in
      by_field w 5 2
      ((λ u. simp (ops, high_bits_lem, groups, cond, group, low, e, u) (undefined_held w addr)) also
      (λ u. simp (ops, high_bits_lem, groups, cond, group, low, e, u) (undefined_held w addr)) also
      (λ u. simp (ops, high_bits_lem, groups, cond, group, low, e, u) (holds refl)) also
      (λ u. simp (ops, high_bits_lem, groups, cond, group, low, e, u) (undefined_held w addr)) also
      tt)

  extract_27 : field w 20 5 ≡ 27 → HeldAt w addr
  extract_27 e = unfold decode_of group_of said_of page_of standing_of A.table_row A.media in
      by_field w 5 2
      ((λ u. simp (ops, high_bits_lem, groups, cond, group, low, e, u) (undefined_held w addr)) also
      (λ u. simp (ops, high_bits_lem, groups, cond, group, low, e, u) (undefined_held w addr)) also
      (λ u. simp (ops, high_bits_lem, groups, cond, group, low, e, u) (holds refl)) also
      (λ u. simp (ops, high_bits_lem, groups, cond, group, low, e, u) (undefined_held w addr)) also
      tt)

  extract_30 : field w 20 5 ≡ 30 → HeldAt w addr
  extract_30 e = unfold decode_of group_of said_of page_of standing_of A.table_row A.media in
      by_field w 5 2
      ((λ u. simp (ops, high_bits_lem, groups, cond, group, low, e, u) (undefined_held w addr)) also
      (λ u. simp (ops, high_bits_lem, groups, cond, group, low, e, u) (undefined_held w addr)) also
      (λ u. simp (ops, high_bits_lem, groups, cond, group, low, e, u) (holds refl)) also
      (λ u. simp (ops, high_bits_lem, groups, cond, group, low, e, u) (undefined_held w addr)) also
      tt)

  insert_28 : field w 20 5 ≡ 28 → HeldAt w addr
  insert_28 e = unfold decode_of group_of said_of page_of standing_of A.table_row A.media in
      by_field w 5 2
      ((λ u. split (eqb (field w 0 4) 15)
      (λ m. split (ltb (field w 16 5) (field w 7 5))
      (λ k. simp (ops, high_bits_lem, groups, cond, group, low, e, u, m, k) (holds (simp (m, k) (refl, refuses))))
      (λ k. simp (ops, high_bits_lem, groups, cond, group, low, e, u, m, k) (holds (simp (m, k)))))
      (λ m. split (ltb (field w 16 5) (field w 7 5))
      (λ k. simp (ops, high_bits_lem, groups, cond, group, low, e, u, m, k) (holds (simp (m, k) (refl, refuses))))
      (λ k. simp (ops, high_bits_lem, groups, cond, group, low, e, u, m, k) (holds (simp (m, k)))))) also
      (λ u. simp (ops, high_bits_lem, groups, cond, group, low, e, u) (undefined_held w addr)) also
      (λ u. simp (ops, high_bits_lem, groups, cond, group, low, e, u) (undefined_held w addr)) also
      (λ u. simp (ops, high_bits_lem, groups, cond, group, low, e, u) (undefined_held w addr)) also
      tt)

  insert_29 : field w 20 5 ≡ 29 → HeldAt w addr
  insert_29 e = unfold decode_of group_of said_of page_of standing_of A.table_row A.media in
      by_field w 5 2
      ((λ u. split (eqb (field w 0 4) 15)
      (λ m. split (ltb (field w 16 5) (field w 7 5))
      (λ k. simp (ops, high_bits_lem, groups, cond, group, low, e, u, m, k) (holds (simp (m, k) (refl, refuses))))
      (λ k. simp (ops, high_bits_lem, groups, cond, group, low, e, u, m, k) (holds (simp (m, k)))))
      (λ m. split (ltb (field w 16 5) (field w 7 5))
      (λ k. simp (ops, high_bits_lem, groups, cond, group, low, e, u, m, k) (holds (simp (m, k) (refl, refuses))))
      (λ k. simp (ops, high_bits_lem, groups, cond, group, low, e, u, m, k) (holds (simp (m, k)))))) also
      (λ u. simp (ops, high_bits_lem, groups, cond, group, low, e, u) (undefined_held w addr)) also
      (λ u. simp (ops, high_bits_lem, groups, cond, group, low, e, u) (undefined_held w addr)) also
      (λ u. simp (ops, high_bits_lem, groups, cond, group, low, e, u) (undefined_held w addr)) also
      tt)

  extract_31 : field w 20 5 ≡ 31 → HeldAt w addr
  extract_31 e = unfold decode_of group_of said_of page_of standing_of A.table_row A.media in
      by_field w 5 3
      ((λ u. simp (ops, highs, groups, cond, group, low, e, u) (undefined_held w addr)) also
      (λ u. simp (ops, highs, groups, cond, group, low, e, u) (undefined_held w addr)) also
      (λ u. simp (ops, highs, groups, cond, group, low, e, u) (holds refl)) also
      (λ u. simp (ops, highs, groups, cond, group, low, e, u) (undefined_held w addr)) also
      (λ u. simp (ops, highs, groups, cond, group, low, e, u) (undefined_held w addr)) also
      (λ u. simp (ops, highs, groups, cond, group, low, e, u) (undefined_held w addr)) also
      (λ u. simp (ops, highs, groups, cond, group, low, e, u) (holds refl)) also
      (λ u. split (eqb (field w 28 4) 14)
      (λ c. simp (ops, highs, groups, cond, group, low, e, u) (holds (simp (c, eqb-true (field w 28 4) 14 c))))
      (λ c. simp (ops, highs, groups, cond, group, low, e, u) (holds (simp c (refl, conditions c))))) also
      tt)

  -- the rows that are all named and not read stand by the table's shape
  pub media : HeldAt w addr
  media = unfold decode_of group_of said_of page_of standing_of A.table_row A.media A.parallel_signed A.parallel_unsigned A.packing A.signed_multiply in
      by_field w 20 5
      ((λ e. simp (ops, highs, groups, cond, group, low, e) (undefined_held w addr)) also
      (λ e. simp (ops, highs, groups, cond, group, low, e) (search rows depth 40)) also
      (λ e. simp (ops, highs, groups, cond, group, low, e) (search rows depth 40)) also
      (λ e. simp (ops, highs, groups, cond, group, low, e) (search rows depth 40)) also
      (λ e. simp (ops, highs, groups, cond, group, low, e) (undefined_held w addr)) also
      (λ e. simp (ops, highs, groups, cond, group, low, e) (search rows depth 40)) also
      (λ e. simp (ops, highs, groups, cond, group, low, e) (search rows depth 40)) also
      (λ e. simp (ops, highs, groups, cond, group, low, e) (search rows depth 40)) also
      extend_8 also
      (λ e. simp (ops, highs, groups, cond, group, low, e) (undefined_held w addr)) also
      saturate_10 also
      saturate_11 also
      extend_12 also
      (λ e. simp (ops, highs, groups, cond, group, low, e) (undefined_held w addr)) also
      saturate_14 also
      saturate_15 also
      (λ e. simp (ops, highs, groups, cond, group, low, e) (search rows depth 40)) also
      divide_17 also
      (λ e. simp (ops, highs, groups, cond, group, low, e) (search rows depth 40)) also
      divide_19 also
      (λ e. simp (ops, highs, groups, cond, group, low, e) (search later_rows depth 40 fits 4000)) also
      (λ e. simp (ops, highs, groups, cond, group, low, e) (search later_rows depth 40 fits 4000)) also
      (λ e. simp (ops, highs, groups, cond, group, low, e) (undefined_held w addr)) also
      (λ e. simp (ops, highs, groups, cond, group, low, e) (undefined_held w addr)) also
      (λ e. simp (ops, highs, groups, cond, group, low, e) (search later_rows depth 40 fits 4000)) also
      (λ e. simp (ops, highs, groups, cond, group, low, e) (undefined_held w addr)) also
      extract_26 also
      extract_27 also
      insert_28 also
      insert_29 also
      extract_30 also
      extract_31 also
      tt)
