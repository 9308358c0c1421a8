-- Loads and stores of a word or a byte beside the manual. Assumes nothing.
use mathlib.Core.Path.{◌≡◌, refl, sym}
use mathlib.Core.Bool.{Bool, true, false, not}
use mathlib.Core.List.{List}
use Prim.Native.Nat.{ℕ}
use Prim.Native.String.{String}
use borrow.Author.Tests.{eqb-true}
use lib.Dec.{eqb}
use Rattle.word.specs.Choice.{pick, both}
use Rattle.word.specs.Field.{field}
use Rattle.insn.specs.Answer.{accepted, refused, insn_of}
use Rattle.insn.specs.declared.Cond.{Cond}
use Rattle.insn.specs.declared.Flow.TheVariants.{Next}
use Rattle.insn.specs.declared.Insn.{Insn}
use Rattle.insn.specs.declared.Place.{Place}
use Rattle.a32_shared.specs.Row.{pc_flow}
use Rattle.a32_ldst.specs.Ldst.{refused_index_of, marked_of}
use Rattle.a32_ldst.specs.Mem.{unprivileged_of, minus_zero_of, post_of}
use Rattle.a32.specs.Decode.{decode_of, group_of}
use Rattle.manual.specs.A5 as A
use Rattle.manual.specs.A8.{said_of, page_of, one_word, reads, beyond}
use Rattle.manual.specs.Departures.{standing_of, port_of, follows, departs, index, load_15}
use Rattle.manual.proofs.Fields.{Held, HeldAt, holds, op_bits, groups, bits, by_field, split, passed, apart, accepts, branches, ◌also◌}
use Rattle.manual.proofs.Forms.{flow_of, mode_at, mark_at}

-- a single push or pop moves four bytes
four : (w : ℕ) (a b : Bool) → both a (both b (eqb (field w 0 12) 4)) ≡ true → eqb (field w 0 12) 0 ≡ false
four w a b o = simp (eqb-true (field w 0 12) 4 (passed b _ (passed a _ o)))

-- by a displacement
module _ (w addr : ℕ) (cond : eqb (field w 28 4) 15 ≡ false) (group : field w 25 3 ≡ 2) where
  str : field w 22 1 ≡ 0 → field w 20 1 ≡ 0 → HeldAt w addr
  unfolding decode_of group_of refused_index_of marked_of minus_zero_of unprivileged_of post_of one_word said_of page_of standing_of A.table_row A.load_store
  str b l =
      by_field w 24 1
      ((λ p. by_field w 21 1
      ((λ v. simp (op_bits, groups, bits, cond, group, b, l, p, v) (holds (simp (bits, groups, cond, group, b, l, p, v)))) also
      (λ v. simp (op_bits, groups, bits, cond, group, b, l, p, v) (holds (simp (bits, groups, cond, group, b, l, p, v)))) also tt)) also
      (λ p. by_field w 21 1
      ((λ v. split (both (eqb (field w 23 1) 0) (eqb (field w 0 12) 0))
      (λ z. simp (op_bits, groups, bits, cond, group, b, l, p, v, z) (holds (simp (bits, groups, cond, group, b, l, p, v, z)
      (refl, apart (mark_at 1) _ _ refl))))
      (λ z. simp (op_bits, groups, bits, cond, group, b, l, p, v, z) (holds (simp (bits, groups, cond, group, b, l, p, v, z))))) also
      (λ v. split (both (eqb (field w 16 4) 13) (both (eqb (field w 23 1) 0) (eqb (field w 0 12) 4)))
      (λ o. simp (op_bits, groups, bits, cond, group, b, l, p, v, o, four w (eqb (field w 16 4) 13) (eqb (field w 23 1) 0) o)
      (holds (simp (bits, groups, cond, group, b, l, p, v, o, four w (eqb (field w 16 4) 13) (eqb (field w 23 1) 0) o) (refl, accepts))))
      (λ o. simp (op_bits, groups, bits, cond, group, b, l, p, v, o) (holds (simp (bits, groups, cond, group, b, l, p, v, o))))) also tt)) also tt)

  strb : field w 22 1 ≡ 1 → field w 20 1 ≡ 0 → HeldAt w addr
  unfolding decode_of group_of refused_index_of marked_of minus_zero_of unprivileged_of post_of one_word said_of page_of standing_of A.table_row A.load_store
  strb b l =
      by_field w 24 1
      ((λ p. by_field w 21 1
      ((λ v. simp (op_bits, groups, bits, cond, group, b, l, p, v) (holds (simp (bits, groups, cond, group, b, l, p, v)))) also
      (λ v. simp (op_bits, groups, bits, cond, group, b, l, p, v) (holds (simp (bits, groups, cond, group, b, l, p, v)))) also tt)) also
      (λ p. by_field w 21 1
      ((λ v. split (both (eqb (field w 23 1) 0) (eqb (field w 0 12) 0))
      (λ z. simp (op_bits, groups, bits, cond, group, b, l, p, v, z) (holds (simp (bits, groups, cond, group, b, l, p, v, z)
      (refl, apart (mark_at 1) _ _ refl))))
      (λ z. simp (op_bits, groups, bits, cond, group, b, l, p, v, z) (holds (simp (bits, groups, cond, group, b, l, p, v, z))))) also
      (λ v. simp (op_bits, groups, bits, cond, group, b, l, p, v) (holds (simp (bits, groups, cond, group, b, l, p, v)))) also tt)) also tt)

  ldr : field w 22 1 ≡ 0 → field w 20 1 ≡ 1 → HeldAt w addr
  unfolding decode_of group_of refused_index_of marked_of minus_zero_of unprivileged_of post_of one_word said_of page_of standing_of A.table_row A.load_store
  ldr b l =
      by_field w 24 1
      ((λ p. by_field w 21 1
      ((λ v. split (eqb (field w 16 4) 15)
      (λ r. simp (op_bits, groups, bits, cond, group, b, l, p, v, r) (holds (simp (bits, groups, cond, group, b, l, p, v, r)
      (refl, apart (mode_at 1) _ _ refl))))
      (λ r. split (both (eqb (field w 16 4) 13) (both (not (eqb (field w 23 1) 0)) (eqb (field w 0 12) 4)))
      (λ o. simp (op_bits, groups, bits, cond, group, b, l, p, v, r, o, four w (eqb (field w 16 4) 13) (not (eqb (field w 23 1) 0)) o)
      (holds (simp (bits, groups, cond, group, b, l, p, v, r, o, four w (eqb (field w 16 4) 13) (not (eqb (field w 23 1) 0)) o) (refl, accepts))))
      (λ o. simp (op_bits, groups, bits, cond, group, b, l, p, v, r, o) (holds (simp (bits, groups, cond, group, b, l, p, v, r, o)))))) also
      (λ v. split (eqb (field w 12 4) 15)
      (λ d. simp (op_bits, groups, bits, cond, group, b, l, p, v, d) (holds (simp (bits, groups, cond, group, b, l, p, v, d)
      (refl, apart flow_of _ _ refl))))
      (λ d. simp (op_bits, groups, bits, cond, group, b, l, p, v, d) (holds (simp (bits, groups, cond, group, b, l, p, v, d))))) also tt)) also
      (λ p. by_field w 21 1
      ((λ v. split (eqb (field w 16 4) 15)
      (λ r. split (both (eqb (field w 23 1) 0) (eqb (field w 0 12) 0))
      (λ z. simp (op_bits, groups, bits, cond, group, b, l, p, v, r, z) (holds (simp (bits, groups, cond, group, b, l, p, v, r, z)
      (refl, apart (mark_at 1) _ _ refl))))
      (λ z. simp (op_bits, groups, bits, cond, group, b, l, p, v, r, z) (holds (simp (bits, groups, cond, group, b, l, p, v, r, z)))))
      (λ r. split (both (eqb (field w 23 1) 0) (eqb (field w 0 12) 0))
      (λ z. simp (op_bits, groups, bits, cond, group, b, l, p, v, r, z) (holds (simp (bits, groups, cond, group, b, l, p, v, r, z)
      (refl, apart (mark_at 1) _ _ refl))))
      (λ z. simp (op_bits, groups, bits, cond, group, b, l, p, v, r, z) (holds (simp (bits, groups, cond, group, b, l, p, v, r, z)))))) also
      (λ v. split (eqb (field w 16 4) 15)
      (λ r. simp (op_bits, groups, bits, cond, group, b, l, p, v, r) (holds (simp (bits, groups, cond, group, b, l, p, v, r)
      (refl, apart (mode_at 1) _ _ refl))))
      (λ r. simp (op_bits, groups, bits, cond, group, b, l, p, v, r) (holds (simp (bits, groups, cond, group, b, l, p, v, r))))) also tt)) also tt)

  ldrb : field w 22 1 ≡ 1 → field w 20 1 ≡ 1 → HeldAt w addr
  unfolding decode_of group_of refused_index_of marked_of minus_zero_of unprivileged_of post_of one_word said_of page_of standing_of A.table_row A.load_store
  ldrb b l =
      by_field w 24 1
      ((λ p. by_field w 21 1
      ((λ v. split (eqb (field w 12 4) 15)
      (λ d. split (eqb (field w 16 4) 15)
      (λ r. simp (op_bits, groups, bits, cond, group, b, l, p, v, d, r) (holds (simp (bits, groups, cond, group, b, l, p, v, d, r)
      (refl, apart flow_of _ _ refl))))
      (λ r. simp (op_bits, groups, bits, cond, group, b, l, p, v, d, r) (holds (simp (bits, groups, cond, group, b, l, p, v, d, r)
      (refl, apart flow_of _ _ refl)))))
      (λ d. split (eqb (field w 16 4) 15)
      (λ r. simp (op_bits, groups, bits, cond, group, b, l, p, v, d, r) (holds (simp (bits, groups, cond, group, b, l, p, v, d, r)
      (refl, apart (mode_at 1) _ _ refl))))
      (λ r. simp (op_bits, groups, bits, cond, group, b, l, p, v, d, r) (holds (simp (bits, groups, cond, group, b, l, p, v, d, r)))))) also
      (λ v. split (eqb (field w 12 4) 15)
      (λ d. simp (op_bits, groups, bits, cond, group, b, l, p, v, d) (holds (simp (bits, groups, cond, group, b, l, p, v, d)
      (refl, apart flow_of _ _ refl))))
      (λ d. simp (op_bits, groups, bits, cond, group, b, l, p, v, d) (holds (simp (bits, groups, cond, group, b, l, p, v, d))))) also tt)) also
      (λ p. by_field w 21 1
      ((λ v. split (eqb (field w 12 4) 15)
      (λ d. split (eqb (field w 16 4) 15)
      (λ r. simp (op_bits, groups, bits, cond, group, b, l, p, v, d, r) (holds (simp (bits, groups, cond, group, b, l, p, v, d, r)
      (refl, apart flow_of _ _ refl))))
      (λ r. simp (op_bits, groups, bits, cond, group, b, l, p, v, d, r) (holds (simp (bits, groups, cond, group, b, l, p, v, d, r)
      (refl, apart flow_of _ _ refl)))))
      (λ d. split (eqb (field w 16 4) 15)
      (λ r. split (both (eqb (field w 23 1) 0) (eqb (field w 0 12) 0))
      (λ z. simp (op_bits, groups, bits, cond, group, b, l, p, v, d, r, z) (holds (simp (bits, groups, cond, group, b, l, p, v, d, r, z)
      (refl, apart (mark_at 1) _ _ refl))))
      (λ z. simp (op_bits, groups, bits, cond, group, b, l, p, v, d, r, z) (holds (simp (bits, groups, cond, group, b, l, p, v, d, r, z)))))
      (λ r. split (both (eqb (field w 23 1) 0) (eqb (field w 0 12) 0))
      (λ z. simp (op_bits, groups, bits, cond, group, b, l, p, v, d, r, z) (holds (simp (bits, groups, cond, group, b, l, p, v, d, r, z)
      (refl, apart (mark_at 1) _ _ refl))))
      (λ z. simp (op_bits, groups, bits, cond, group, b, l, p, v, d, r, z) (holds (simp (bits, groups, cond, group, b, l, p, v, d, r, z))))))) also
      (λ v. split (eqb (field w 12 4) 15)
      (λ d. split (eqb (field w 16 4) 15)
      (λ r. simp (op_bits, groups, bits, cond, group, b, l, p, v, d, r) (holds (simp (bits, groups, cond, group, b, l, p, v, d, r)
      (refl, apart flow_of _ _ refl))))
      (λ r. simp (op_bits, groups, bits, cond, group, b, l, p, v, d, r) (holds (simp (bits, groups, cond, group, b, l, p, v, d, r)
      (refl, apart flow_of _ _ refl)))))
      (λ d. split (eqb (field w 16 4) 15)
      (λ r. simp (op_bits, groups, bits, cond, group, b, l, p, v, d, r) (holds (simp (bits, groups, cond, group, b, l, p, v, d, r)
      (refl, apart (mode_at 1) _ _ refl))))
      (λ r. simp (op_bits, groups, bits, cond, group, b, l, p, v, d, r) (holds (simp (bits, groups, cond, group, b, l, p, v, d, r)))))) also tt)) also
      tt)

  pub by_displacement : HeldAt w addr
  by_displacement = by_field w 20 1
      ((λ l. by_field w 22 1 ((λ b. str b l) also (λ b. strb b l) also tt)) also
      (λ l. by_field w 22 1 ((λ b. ldr b l) also (λ b. ldrb b l) also tt)) also tt)

-- by an index that is added and shifted left: any other is refused
module _ (w addr : ℕ) (row : String) where
  abbrev left : Bool
  left = both (not (eqb (field w 23 1) 0)) (eqb (field w 5 2) 0)

  reads_left : {i : Insn} → (left ≡ true → said_of w addr row ≡ reads (accepted i)) → (left ≡ false → said_of w addr row ≡ beyond row)
      → page_of row w ≡ row → standing_of row w ≡ pick (not left) (departs index) follows
      → Held row w addr (pick left (accepted i) (refused 3))
  reads_left said none page stands =
      split left
      (λ x. simp x (holds (simp (page, stands, said x, x))))
      (λ x. simp x (holds (simp (page, stands, none x, x) (refl, (λ y. y)))))

  -- and a load to 15 is a branch
  branches_left : {a n : ℕ} {c : Cond} {o : List Place} → (left ≡ true → said_of w addr row ≡ reads (accepted (insn_of a n c Next o)))
      → (left ≡ false → said_of w addr row ≡ beyond row) → page_of row w ≡ row
      → standing_of row w ≡ pick (not left) (departs index) (pick (eqb (field w 12 4) 15) (departs load_15) follows)
      → (left ≡ true → port_of w addr load_15 row row ≡ accepted (insn_of a n c (pc_flow w) o))
      → Held row w addr (pick left (accepted (insn_of a n c (pc_flow w) o)) (refused 3))
  branches_left said none page stands port =
      split left
      (λ x. split (eqb (field w 12 4) 15)
      (λ d. simp (x, d) (holds (simp (page, stands, said x, x, d) (sym (simp (x, d) at (port x)), branches))))
      (λ d. simp (x, d) (holds (simp (page, stands, said x, x, d)))))
      (λ x. simp x (holds (simp (page, stands, none x, x) (refl, (λ y. y)))))

module _ (w addr : ℕ) (cond : eqb (field w 28 4) 15 ≡ false) (group : field w 25 3 ≡ 3) (low : field w 4 1 ≡ 0) where
  pub by_index : HeldAt w addr
  unfolding decode_of group_of refused_index_of marked_of minus_zero_of unprivileged_of post_of one_word said_of page_of standing_of A.table_row A.load_store
  by_index = by_field w 20 1
      ((λ l. by_field w 22 1
      ((λ b. split (both (eqb (field w 24 1) 0) (not (eqb (field w 21 1) 0)))
      (λ t. simp (op_bits, groups, bits, cond, group, low, b, l, t) (reads_left w addr "STRT" (λ x. simp (bits, groups, group, b, t, x))
      (λ x. simp (bits, groups, group, b, t, x)) refl (simp (bits, groups, group))))
      (λ t. simp (op_bits, groups, bits, cond, group, low, b, l, t) (reads_left w addr "STR (register)" (λ x. simp (bits, groups, group, b, t, x))
      (λ x. simp (bits, groups, group, b, t, x)) refl (simp bits)))) also
      (λ b. split (both (eqb (field w 24 1) 0) (not (eqb (field w 21 1) 0)))
      (λ t. simp (op_bits, groups, bits, cond, group, low, b, l, t) (reads_left w addr "STRBT" (λ x. simp (bits, groups, group, b, t, x))
      (λ x. simp (bits, groups, group, b, t, x)) refl (simp (bits, groups, group))))
      (λ t. simp (op_bits, groups, bits, cond, group, low, b, l, t) (reads_left w addr "STRB (register)" (λ x. simp (bits, groups, group, b, t, x))
      (λ x. simp (bits, groups, group, b, t, x)) refl (simp bits)))) also tt)) also
      (λ l. by_field w 22 1
      ((λ b. split (both (eqb (field w 24 1) 0) (not (eqb (field w 21 1) 0)))
      (λ t. simp (op_bits, groups, bits, cond, group, low, b, l, t) (branches_left w addr "LDRT" (λ x. simp (bits, groups, group, b, t, x))
      (λ x. simp (bits, groups, group, b, t, x)) refl (simp (bits, groups, group)) (λ x. simp (bits, groups, group, b, t, x))))
      (λ t. simp (op_bits, groups, bits, cond, group, low, b, l, t) (reads_left w addr "LDR (register, ARM)"
      (λ x. simp (bits, groups, group, b, t, x)) (λ x. simp (bits, groups, group, b, t, x)) refl (simp bits)))) also
      (λ b. split (both (eqb (field w 24 1) 0) (not (eqb (field w 21 1) 0)))
      (λ t. simp (op_bits, groups, bits, cond, group, low, b, l, t) (branches_left w addr "LDRBT" (λ x. simp (bits, groups, group, b, t, x))
      (λ x. simp (bits, groups, group, b, t, x)) refl (simp (bits, groups, group)) (λ x. simp (bits, groups, group, b, t, x))))
      (λ t. simp (op_bits, groups, bits, cond, group, low, b, l, t) (branches_left w addr "LDRB (register)" (λ x. simp (bits, groups, group, b, t, x))
      (λ x. simp (bits, groups, group, b, t, x)) refl (simp bits) (λ x. simp (bits, groups, group, b, t, x))))) also tt)) also tt)
