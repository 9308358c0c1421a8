-- Block transfers and branches beside the manual. Assumes nothing.
use mathlib.Core.Path.{◌≡◌, refl}
use mathlib.Core.Bool.{true, false}
use Prim.Native.Nat.{ℕ}
use Prim.Native.String.{String}
use native.Mathlib.Omega.{arith}
use borrow.Author.Tests.{eqb-true, ne_eqb, ltb-true}
use lib.Count.{ones_in}
use lib.Dec.{eqb, leb, ltb}
use Rattle.word.specs.Choice.{pick}
use Rattle.word.specs.Field.{field, splits}
use Rattle.insn.specs.Answer.{accepted, refused}
use Rattle.insn.specs.declared.Insn.{Insn}
use Rattle.a32_transfer.specs.Block.{stack_of}
use Rattle.a32.specs.Decode.{decode_of, group_of}
use Rattle.manual.specs.A5 as A
use Rattle.manual.specs.A8.{said_of, page_of, fewer_than_two}
use Rattle.manual.specs.Departures.{standing_of, empty_list}
use Rattle.manual.proofs.Fields.{Held, HeldAt, holds, ops, groups, group_25, group_26_2, six_bits, bits, pick_same, by_field, split, refuses, ◌also◌}
use Rattle.manual_follows.proofs.Rows.{Unless, read_unless, later_rows}
use Rattle.manual_follows.proofs.Targets.{branch_is}

module _ (w addr : ℕ) (cond : eqb (field w 28 4) 15 ≡ false) where
  module _ (group : field w 25 3 ≡ 4) where
    ruleset here = (ops, groups, pick_same)

    -- an empty list is refused
    multiple : (row : String) {i : Insn} → Unless w addr row empty_list (eqb (field w 0 16) 0) i
        → Held row w addr (pick (eqb (field w 0 16) 0) (refused 3) (accepted i))
    multiple row = read_unless w addr row empty_list (eqb (field w 0 16) 0) _

    -- two registers or more are pushed and popped
    stack_11 : field w 20 5 ≡ 11 → HeldAt w addr
    stack_11 e = unfold decode_of group_of said_of page_of standing_of fewer_than_two ones_in stack_of A.table_row A.branch_and_block in
        split (eqb (field w 16 4) 13)
        (λ r. split (eqb (field w 0 16) 0)
        (λ z. simp (here, cond, group, e, r, eqb-true (field w 0 16) 0 z) (holds (simp (eqb-true (field w 0 16) 0 z) (refl, refuses))))
        (λ z. split (leb 2 (ones_in 16 (field w 0 16)))
        (λ k. simp (here, cond, group, e, r, z, k) (holds (simp (bits, ops, z, e, r, k))))
        (λ k. simp (here, cond, group, e, r, z, k) (holds (simp (bits, ops, z, e, r, k))))))
        (λ r. simp (here, bits, cond, group, e, r) (multiple "LDM" (simp (bits, ops, e, r), refl, refl, refl)))

    stack_18 : field w 20 5 ≡ 18 → HeldAt w addr
    stack_18 e = unfold decode_of group_of said_of page_of standing_of fewer_than_two ones_in stack_of A.table_row A.branch_and_block in
        split (eqb (field w 16 4) 13)
        (λ r. split (eqb (field w 0 16) 0)
        (λ z. simp (here, cond, group, e, r, eqb-true (field w 0 16) 0 z) (holds (simp (eqb-true (field w 0 16) 0 z) (refl, refuses))))
        (λ z. split (leb 2 (ones_in 16 (field w 0 16)))
        (λ k. simp (here, cond, group, e, r, z, k) (holds (simp (bits, ops, z, e, r, k))))
        (λ k. simp (here, cond, group, e, r, z, k) (holds (simp (bits, ops, z, e, r, k))))))
        (λ r. simp (here, bits, cond, group, e, r) (multiple "STMDB" (simp (bits, ops, e), refl, refl, refl)))

    pub block : HeldAt w addr
    block = unfold decode_of group_of said_of page_of standing_of fewer_than_two ones_in stack_of A.table_row A.branch_and_block in
        by_field w 20 5
        ((λ e. simp (here, bits, cond, group, e) (multiple "STMDA" (simp (bits, ops, e), refl, refl, refl))) also
        (λ e. simp (here, bits, cond, group, e) (multiple "LDMDA" (simp (bits, ops, e), refl, refl, refl))) also
        (λ e. simp (here, bits, cond, group, e) (multiple "STMDA" (simp (bits, ops, e), refl, refl, refl))) also
        (λ e. simp (here, bits, cond, group, e) (multiple "LDMDA" (simp (bits, ops, e), refl, refl, refl))) also
        (λ e. simp (here, cond, group, e) (search later_rows depth 40 fits 4000)) also
        (λ e. simp (here, cond, group, e) (search later_rows depth 40 fits 4000)) also
        (λ e. simp (here, cond, group, e) (search later_rows depth 40 fits 4000)) also
        (λ e. simp (here, cond, group, e) (search later_rows depth 40 fits 4000)) also
        (λ e. simp (here, bits, cond, group, e) (multiple "STM" (simp (bits, ops, e), refl, refl, refl))) also
        (λ e. simp (here, bits, cond, group, e) (multiple "LDM" (simp (bits, ops, e), refl, refl, refl))) also
        (λ e. simp (here, bits, cond, group, e) (multiple "STM" (simp (bits, ops, e), refl, refl, refl))) also
        stack_11 also
        (λ e. simp (here, cond, group, e) (search later_rows depth 40 fits 4000)) also
        (λ e. simp (here, cond, group, e) (search later_rows depth 40 fits 4000)) also
        (λ e. simp (here, cond, group, e) (search later_rows depth 40 fits 4000)) also
        (λ e. simp (here, cond, group, e) (search later_rows depth 40 fits 4000)) also
        (λ e. simp (here, bits, cond, group, e) (multiple "STMDB" (simp (bits, ops, e), refl, refl, refl))) also
        (λ e. simp (here, bits, cond, group, e) (multiple "LDMDB" (simp (bits, ops, e), refl, refl, refl))) also
        stack_18 also
        (λ e. simp (here, bits, cond, group, e) (multiple "LDMDB" (simp (bits, ops, e), refl, refl, refl))) also
        (λ e. simp (here, cond, group, e) (search later_rows depth 40 fits 4000)) also
        (λ e. simp (here, cond, group, e) (search later_rows depth 40 fits 4000)) also
        (λ e. simp (here, cond, group, e) (search later_rows depth 40 fits 4000)) also
        (λ e. simp (here, cond, group, e) (search later_rows depth 40 fits 4000)) also
        (λ e. simp (here, bits, cond, group, e) (multiple "STMIB" (simp (bits, ops, e), refl, refl, refl))) also
        (λ e. simp (here, bits, cond, group, e) (multiple "LDMIB" (simp (bits, ops, e), refl, refl, refl))) also
        (λ e. simp (here, bits, cond, group, e) (multiple "STMIB" (simp (bits, ops, e), refl, refl, refl))) also
        (λ e. simp (here, bits, cond, group, e) (multiple "LDMIB" (simp (bits, ops, e), refl, refl, refl))) also
        (λ e. simp (here, cond, group, e) (search later_rows depth 40 fits 4000)) also
        (λ e. simp (here, cond, group, e) (search later_rows depth 40 fits 4000)) also
        (λ e. simp (here, cond, group, e) (search later_rows depth 40 fits 4000)) also
        (λ e. simp (here, cond, group, e) (search later_rows depth 40 fits 4000)) also
        tt)

  -- with bit 25 set, 25:20 are none of the block transfers'
  above : field w 25 1 ≡ 1 → (n : ℕ) → ltb n 32 ≡ true → eqb (field w 20 6) n ≡ false
  above one n h =
      ne_eqb (field w 20 6) n
      (λ (e : field w 20 6 ≡ n). omega (arith, e, one, splits w 20 1 5, ltb-true n 32 h))

  pub branch : field w 25 3 ≡ 5 → HeldAt w addr
  branch group = unfold decode_of group_of said_of page_of standing_of A.table_row A.branch_and_block in
      by_field w 24 1
      ((λ b. split (eqb (field w 28 4) 14)
      (λ k. simp (six_bits, group_25, group_26_2, above (simp (group_25, group)), cond, group, b, k) (holds (simp (branch_is, k))))
      (λ k. simp (six_bits, group_25, group_26_2, above (simp (group_25, group)), cond, group, b, k) (holds (simp (branch_is, k))))) also
      (λ b. simp (six_bits, group_25, group_26_2, above (simp (group_25, group)), cond, group, b) (holds (simp branch_is))) also tt)
