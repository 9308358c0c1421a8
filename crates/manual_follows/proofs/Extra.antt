-- The extra loads and stores beside the manual. Assumes nothing.
use mathlib.Core.Path.{◌≡◌, refl, sym}
use mathlib.Core.Bool.{Bool, true, false, not}
use mathlib.Core.List.{[], ◌∷◌}
use Prim.Native.Nat.{ℕ, ◌+◌, ◌%◌}
use Prim.Native.String.{String}
use lib.Dec.{eqb}
use Rattle.word.specs.Choice.{pick, both}
use Rattle.word.specs.Field.{field}
use Rattle.insn.specs.Answer.{refused}
use Rattle.insn.specs.Roots.{name}
use Rattle.insn.specs.declared.AddrMode.TheVariants.{Offset}
use Rattle.insn.specs.declared.Flow.TheVariants.{Next}
use Rattle.insn.specs.declared.Operand.TheVariants.{Register}
use Rattle.a32_shared.specs.Row.{answer, reg_of}
use Rattle.a32_ldst.specs.ExtraLdst.{subtracted_index_of, imm8}
use Rattle.a32_ldst.specs.Mem.{unprivileged_of, minus_zero_of, with_disp_of, with_index_of}
use Rattle.a32.specs.Decode as D
use Rattle.a32.specs.Decode.{decode_of, group_of, dp_misc_of}
use Rattle.manual.specs.A5 as A
use Rattle.manual.specs.A8.{said_of, page_of, extra, extra_index, one, pair}
use Rattle.manual.specs.Departures.{standing_of, port_of, answered, is_offset, follows, departs, index, literal_index, odd_pair, pair_write_back}
use Rattle.manual.specs.Reads.{is_set, addressing}
use Rattle.manual.proofs.Fields.{Held, HeldAt, holds, op_bits, lows, groups, bits, by_field, split, apart, refuses, no_true, ◌also◌}
use Rattle.manual.proofs.Forms.{mode_at}
use Rattle.manual.proofs.Pages.{named}

module _ (w addr : ℕ) where
  -- P clear with W
  abbrev user : Bool
  user = both (eqb (field w 24 1) 0) (not (eqb (field w 21 1) 0))

  -- one register by an index, which is added
  by_index : (theirs row root : String) (size : ℕ) → Held theirs w addr (refused 3) → said_of w addr row ≡ extra_index w addr row root size (one w addr)
      → page_of row w ≡ row → standing_of row w ≡ pick (not (is_set w 23)) (departs index) follows
      → Held (pick user (pick user theirs "UNDEFINED") row) w addr (pick user (refused 3) (pick (eqb (field w 23 1) 0) (refused 3)
      (answer w addr (name root) Next (reg_of w 12 ∷ with_index_of w 0 size true ∷ []))))
  by_index theirs row root size h said page stands =
      split user
      (λ t. simp t h)
      (λ t. split (eqb (field w 23 1) 0)
      (λ u. simp (t, u) (holds (simp (page, stands, said, bits, t, u) (refl, (λ x. x)))))
      (λ u. simp (t, u) (holds (simp (page, stands, said, bits, t, u)))))

  -- two registers
  pair_by_index : (row root : String) → said_of w addr row ≡ extra_index w addr row root 8 (pair w addr) → page_of row w ≡ row
      → standing_of row w ≡ pick (both (not (is_set w 24)) (is_set w 21)) (departs pair_write_back)
      (pick (eqb (field w 12 4 % 2) 1) (departs odd_pair) (pick (not (is_set w 23)) (departs index) follows))
      → Held (pick user (pick user row "UNDEFINED") row) w addr (pick user (refused 3) (pick (eqb (field w 23 1) 0) (refused 3)
      (pick (eqb (field w 12 4 % 2) 1) (refused 3)
      (answer w addr (name root) Next (reg_of w 12 ∷ Register (record { 0 = field w 12 4 + 1 }) ∷ with_index_of w 0 8 true ∷ [])))))
  pair_by_index row root said page stands =
      split user
      (λ t. split (eqb (field w 23 1) 0)
      (λ u. simp (t, u) (holds (simp (page, stands, said, bits, t, u) (refl, (λ x. x)))))
      (λ u. simp (t, u) (holds (simp (page, stands, said, bits, t, u) (refl, refuses)))))
      (λ t. split (eqb (field w 12 4 % 2) 1)
      (λ o. split (eqb (field w 23 1) 0)
      (λ u. simp (t, o, u) (holds (simp (page, stands, said, bits, t, o, u) (refl, (λ x. x)))))
      (λ u. simp (t, o, u) (holds (simp (page, stands, said, bits, t, o, u) (refl, refuses)))))
      (λ o. split (eqb (field w 23 1) 0)
      (λ u. simp (t, o, u) (holds (simp (page, stands, said, bits, t, o, u) (refl, (λ x. x)))))
      (λ u. simp (t, o, u) (holds (simp (page, stands, said, bits, t, o, u))))))

  -- a load of one register by a displacement: from R[15] it has a page of its own, which knows no other mode than offset
  loads : (theirs literal row root : String) (size : ℕ) → Held theirs w addr (refused 3)
      → said_of w addr literal ≡ extra w addr root size (one w addr) Offset → page_of literal w ≡ literal
      → standing_of literal w ≡ pick (not (is_offset (addressing w))) (departs literal_index) follows
      → port_of w addr literal_index literal literal ≡ answered (extra w addr root size (one w addr) (addressing w))
      → said_of w addr row ≡ extra w addr root size (one w addr) (addressing w) → page_of row w ≡ row → standing_of row w ≡ follows
      → Held (pick user (pick user theirs "UNDEFINED") (pick (eqb (field w 16 4) 15) (pick (eqb (field w 16 4) 15) literal "UNDEFINED") row)) w addr
      (pick user (refused 3) (answer w addr (name root) Next (reg_of w 12 ∷ with_disp_of w (imm8 w) size true (minus_zero_of w (imm8 w)) ∷ [])))
  loads theirs literal row root size h said page stands port said' page' stands' = unfold minus_zero_of in
      split user
      (λ t. simp t h)
      (λ t. split (eqb (field w 16 4) 15)
      (λ r. by_field w 24 1
      ((λ p. by_field w 21 1
      ((λ v. simp (t, r) (holds (simp (page, stands, said, bits, p, v) (sym (simp (bits, p, v) at port), apart (mode_at 1) _ _ refl)))) also
      (λ v. absurd (no_true (simp (p, v) at t))) also tt)) also
      (λ p. by_field w 21 1
      ((λ v. simp (t, r) (holds (simp (page, stands, said, bits, p, v)))) also
      (λ v. simp (t, r) (holds (simp (page, stands, said, bits, p, v) (sym (simp (bits, p, v) at port), apart (mode_at 1) _ _ refl)))) also tt)) also
      tt))
      (λ r. simp (t, r) (holds (simp (page', stands', said', bits, t)))))

module _ (w addr : ℕ) (cond : eqb (field w 28 4) 15 ≡ false) (group : field w 25 3 ≡ 0) where
  ldrd_displacement : field w 4 4 ≡ 13 → field w 20 1 ≡ 0 → field w 22 1 ≡ 1 → HeldAt w addr
  unfolding decode_of group_of dp_misc_of D.extra_of unprivileged_of subtracted_index_of minus_zero_of said_of page_of standing_of A.table_row A.data_processing
      A.extra_load_store A.extra_unprivileged
  ldrd_displacement low l i =
      split (both (eqb (field w 24 1) 0) (not (eqb (field w 21 1) 0)))
      (λ t. split (eqb (field w 16 4) 15)
      (λ r. simp (op_bits, lows, groups, bits, cond, group, low, l, i, t, r) (holds (simp (bits, t, r) (refl, refuses))))
      (λ r. simp (op_bits, lows, groups, bits, cond, group, low, l, i, t, r) (holds (simp (bits, t, r) (refl, refuses)))))
      (λ t. split (eqb (field w 12 4 % 2) 1)
      (λ o. split (eqb (field w 16 4) 15)
      (λ r. simp (op_bits, lows, groups, bits, cond, group, low, l, i, t, o, r) (holds (simp (bits, t, o, r) (refl, refuses))))
      (λ r. simp (op_bits, lows, groups, bits, cond, group, low, l, i, t, o, r) (holds (simp (bits, t, o, r) (refl, refuses)))))
      (λ o. split (eqb (field w 16 4) 15)
      (λ r. by_field w 24 1
      ((λ p. by_field w 21 1
      ((λ v. simp (op_bits, lows, groups, bits, cond, group, low, l, i, t, o, r, p, v) (holds
      (simp (bits, t, o, r, p, v) (refl, apart (mode_at 2) _ _ refl)))) also
      (λ v. absurd (no_true (simp (p, v) at t))) also tt)) also
      (λ p. by_field w 21 1
      ((λ v. simp (op_bits, lows, groups, bits, cond, group, low, l, i, t, o, r, p, v) (holds (simp (bits, t, o, r, p, v)))) also
      (λ v. simp (op_bits, lows, groups, bits, cond, group, low, l, i, t, o, r, p, v) (holds
      (simp (bits, t, o, r, p, v) (refl, apart (mode_at 2) _ _ refl)))) also tt)) also tt))
      (λ r. simp (op_bits, lows, groups, bits, cond, group, low, l, i, t, o, r) (holds (simp (bits, t, o, r))))))

  strd_displacement : field w 4 4 ≡ 15 → field w 20 1 ≡ 0 → field w 22 1 ≡ 1 → HeldAt w addr
  unfolding decode_of group_of dp_misc_of D.extra_of unprivileged_of subtracted_index_of minus_zero_of said_of page_of standing_of A.table_row A.data_processing
      A.extra_load_store A.extra_unprivileged
  strd_displacement low l i =
      split (both (eqb (field w 24 1) 0) (not (eqb (field w 21 1) 0)))
      (λ t. simp (op_bits, lows, groups, bits, cond, group, low, l, i, t) (holds (simp (bits, t) (refl, refuses))))
      (λ t. split (eqb (field w 12 4 % 2) 1)
      (λ o. simp (op_bits, lows, groups, bits, cond, group, low, l, i, t, o) (holds (simp (bits, t, o) (refl, refuses))))
      (λ o. simp (op_bits, lows, groups, bits, cond, group, low, l, i, t, o) (holds (simp (bits, t, o)))))

  -- by bits 20 and 22
  pub extra_11 : field w 4 4 ≡ 11 → HeldAt w addr
  unfolding decode_of group_of dp_misc_of D.extra_of unprivileged_of subtracted_index_of minus_zero_of said_of page_of standing_of A.table_row A.data_processing
      A.extra_load_store A.extra_unprivileged
  extra_11 low = by_field w 20 1
      ((λ l. by_field w 22 1
      ((λ i. simp (op_bits, lows, groups, bits, cond, group, low, l, i) (by_index w addr "STRHT" "STRH (register)" "strh" 2
      (named w addr "STRHT" refl refl refl) refl refl refl)) also
      (λ i. split (both (eqb (field w 24 1) 0) (not (eqb (field w 21 1) 0)))
      (λ t. simp (op_bits, lows, groups, bits, cond, group, low, l, i, t) (holds refl))
      (λ t. simp (op_bits, lows, groups, bits, cond, group, low, l, i, t) (holds (simp (bits, t))))) also tt)) also
      (λ l. by_field w 22 1
      ((λ i. simp (op_bits, lows, groups, bits, cond, group, low, l, i) (by_index w addr "LDRHT" "LDRH (register)" "ldrh" 2
      (named w addr "LDRHT" refl refl refl) refl refl refl)) also
      (λ i. simp (op_bits, lows, groups, bits, cond, group, low, l, i) (loads w addr "LDRHT" "LDRH (literal)" "LDRH (immediate, ARM)" "ldrh" 2
      (named w addr "LDRHT" refl refl refl) refl refl refl refl refl refl refl)) also tt)) also tt)

  pub extra_13 : field w 4 4 ≡ 13 → HeldAt w addr
  unfolding decode_of group_of dp_misc_of D.extra_of unprivileged_of subtracted_index_of minus_zero_of said_of page_of standing_of A.table_row A.data_processing
      A.extra_load_store A.extra_unprivileged
  extra_13 low = by_field w 20 1
      ((λ l. by_field w 22 1
      ((λ i. simp (op_bits, lows, groups, bits, cond, group, low, l, i) (pair_by_index w addr "LDRD (register)" "ldrd" refl refl refl)) also
      ldrd_displacement low l also tt)) also
      (λ l. by_field w 22 1
      ((λ i. simp (op_bits, lows, groups, bits, cond, group, low, l, i) (by_index w addr "LDRSBT" "LDRSB (register)" "ldrsb" 1
      (named w addr "LDRSBT" refl refl refl) refl refl refl)) also
      (λ i. simp (op_bits, lows, groups, bits, cond, group, low, l, i) (loads w addr "LDRSBT" "LDRSB (literal)" "LDRSB (immediate)" "ldrsb" 1
      (named w addr "LDRSBT" refl refl refl) refl refl refl refl refl refl refl)) also tt)) also tt)

  pub extra_15 : field w 4 4 ≡ 15 → HeldAt w addr
  unfolding decode_of group_of dp_misc_of D.extra_of unprivileged_of subtracted_index_of minus_zero_of said_of page_of standing_of A.table_row A.data_processing
      A.extra_load_store A.extra_unprivileged
  extra_15 low = by_field w 20 1
      ((λ l. by_field w 22 1
      ((λ i. simp (op_bits, lows, groups, bits, cond, group, low, l, i) (pair_by_index w addr "STRD (register)" "strd" refl refl refl)) also
      strd_displacement low l also tt)) also
      (λ l. by_field w 22 1
      ((λ i. simp (op_bits, lows, groups, bits, cond, group, low, l, i) (by_index w addr "LDRSHT" "LDRSH (register)" "ldrsh" 2
      (named w addr "LDRSHT" refl refl refl) refl refl refl)) also
      (λ i. simp (op_bits, lows, groups, bits, cond, group, low, l, i) (loads w addr "LDRSHT" "LDRSH (literal)" "LDRSH (immediate)" "ldrsh" 2
      (named w addr "LDRSHT" refl refl refl) refl refl refl refl refl refl refl)) also tt)) also tt)
