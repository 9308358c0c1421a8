-- Data processing words are formed. Assumes nothing.
use mathlib.Core.Path.{◌≡◌, refl}
use mathlib.Core.Bool.{Bool, false, true}
use mathlib.Core.List.{List, [], ◌∷◌, map}
use Prim.Native.Nat.{ℕ, ◌*◌, ◌^◌, ◌<◌}
use native.Mathlib.Omega.{arith}
use borrow.Author.Tests.{ltb-false}
use lib.Dec.{T, eqb, ltb, lit<, eqb→eq}
use lib.IntN.{pos, nat_abs}
use lib.ListN.{get_or}
use Rattle.word.specs.Choice.{both, tested}
use Rattle.word.specs.Every.{left, right, at_each}
use Rattle.word.specs.Field.{field, small}
use Rattle.word.specs.Layout.{joined, joined_small}
use Rattle.insn.specs.Roots.{name}
use Rattle.insn.specs.declared.Flow.{Flow}
use Rattle.insn.specs.declared.Flow.TheVariants.{Next}
use Rattle.insn.specs.declared.Operand.{Operand}
use Rattle.insn.specs.declared.Operand.TheVariants.{Count}
use Rattle.a32_shared.specs.Row.{reg_of, mask_of, pc_flow, answer}
use Rattle.a32_shared.specs.Shifts.{amount_of, plain_of, rrx_of, shift_by_of, shifted_of}
use Rattle.a32_imm.specs.Closed.{value_fits}
use Rattle.a32_imm.specs.Imm.{imm_of, so_imm_of, least_of, count_of, byte_of, rotation_of}
use Rattle.a32_dp.specs.Names.{plain, setting, dp_name, shift_name}
use Rattle.a32_dp.specs.DpReg.{source_of, mov_flow, mov_of, dp_reg_of}
use Rattle.a32_dp.specs.DpImm.{hint_slot, hint_of, msr_of, to_pc, operation_of, dp_imm_of}
use Rattle.line_spelling.proofs.Formed.{reg, Good, Sound, Aimed, hashed, Under, ordinary, by_name, either, choice, at, no_row_lem, row0, row2}
use Rattle.line_spelling.proofs.Formed.{row3}
use Rattle.line_spelling.proofs.Formed.{row4}
use Rattle.line_spelling.proofs.FormedLdst.{abs_minus}

-- the names of data processing are ordinary, and have counts
abbrev counting : ℕ → Bool
counting n = both (ordinary n) (eqb (hashed n) 0)

module _ (w : ℕ) where
  dp_name_lem : T (counting (dp_name w))
  dp_name_lem = unfold dp_name in
      either (λ n. T (counting n)) (eqb (field w 20 1) 0)
      (at_each (λ k. counting (get_or plain k 0)) 16 tt (field w 21 4) (small w 21 4))
      (at_each (λ k. counting (get_or setting k 0)) 16 tt (field w 21 4) (small w 21 4))

  shift_name_lem : T (counting (shift_name w))
  shift_name_lem = unfold shift_name in
      either (λ n. T (counting n)) (eqb (field w 20 1) 0)
      (at_each (λ k. counting (get_or (map name ("lsl" ∷ "lsr" ∷ "asr" ∷ "ror" ∷ [])) k 0)) 4 tt (field w 5 2) (small w 5 2))
      (at_each (λ k. counting (get_or (map name ("lsls" ∷ "lsrs" ∷ "asrs" ∷ "rors" ∷ [])) k 0)) 4 tt (field w 5 2) (small w 5 2))

module _ (n : ℕ) (t : T (counting n)) where
  signs : hashed n ≡ 0
  signs = eqb→eq (hashed n) 0 (right (ordinary n) (eqb (hashed n) 0) t)

  under : (w : ℕ) → eqb (field w 28 4) 15 ≡ false → (flow : Flow) → Under w n flow
  under w c = by_name w n c (left (ordinary n) (eqb (hashed n) 0) t)

-- a count of 32 bits
count_small : (unsigned : Bool) (v : ℕ) → v < 2 ^ 32 → nat_abs (count_of unsigned v) < 2 ^ 32
count_small unsigned v fits =
    either (λ z. nat_abs z < 2 ^ 32) unsigned fits
    (tested (λ z. nat_abs z < 2 ^ 32) (ltb v (2 ^ 31)) (λ e. fits) (λ e. rw abs_minus (omega (arith, ltb-false v (2 ^ 31) e))))

amount_small : (ty n : ℕ) → n < 32 → amount_of ty n < 33
amount_small ty n few =
    either Few (eqb n 0) (either Few (eqb ty 1) (lit< tt) (either Few (eqb ty 2) (lit< tt) (lit< tt))) (omega arith)
  where
    Few : ℕ → Type 0
    Few a = a < 33

module _ (w addr : ℕ) (c : eqb (field w 28 4) 15 ≡ false) where
  amount : amount_of (field w 5 2) (field w 7 5) < 33
  amount = amount_small (field w 5 2) (field w 7 5) (small w 7 5)

  shifted : (name : ℕ) → Sound true name (shifted_of w)
  shifted name = either (Sound true name) (plain_of w) (reg w 0) (reg w 0, amount)

  abbrev amounted : Bool
  amounted = eqb (field w 4 1) 0

  to_pc_lem : (ops : List Operand) → Aimed ops (pc_flow w)
  to_pc_lem ops = either (Aimed ops) (eqb (field w 12 4) 15) tt tt

  to_return : (ops : List Operand) → Aimed ops (mov_flow w)
  to_return ops = either (Aimed ops) (eqb (field w 12 4) 15) (either (Aimed ops) (eqb (field w 0 4) 14) tt tt) tt

  operation : (flow : Flow) → Under w (dp_name w) flow
  operation = under (dp_name w) (dp_name_lem w) w c

  shift : Under w (shift_name w) (pc_flow w)
  shift = under (shift_name w) (shift_name_lem w) w c (pc_flow w)

  -- the operation, after one register and after two
  one_source : (lo : ℕ) → Good addr (answer w addr (dp_name w) (pc_flow w) (reg_of w lo ∷ source_of w))
  one_source lo =
      either (λ ops. Good addr (answer w addr (dp_name w) (pc_flow w) (reg_of w lo ∷ ops))) amounted
      (row2 w (operation (pc_flow w)) (reg w lo) (shifted (dp_name w)) (to_pc_lem (reg_of w lo ∷ shifted_of w ∷ [])))
      (row3 w (operation (pc_flow w)) (reg w lo) (reg w 0) (reg w 8) (to_pc_lem (reg_of w lo ∷ reg_of w 0 ∷ shift_by_of w ∷ [])))

  two_source : Good addr (answer w addr (dp_name w) (pc_flow w) (reg_of w 12 ∷ reg_of w 16 ∷ source_of w))
  two_source =
      either (λ ops. Good addr (answer w addr (dp_name w) (pc_flow w) (reg_of w 12 ∷ reg_of w 16 ∷ ops))) amounted
      (row3 w (operation (pc_flow w)) (reg w 12) (reg w 16) (shifted (dp_name w)) (to_pc_lem (reg_of w 12 ∷ reg_of w 16 ∷ shifted_of w ∷ [])))
      (row4 w (operation (pc_flow w)) (reg w 12) (reg w 16) (reg w 0) (reg w 8) (to_pc_lem (reg_of w 12 ∷ reg_of w 16 ∷ reg_of w 0 ∷ shift_by_of w ∷ [])))

  mov_good : Good addr (mov_of w addr)
  mov_good =
      choice amounted
      (choice (plain_of w)
      (either (λ n. Good addr (answer w addr n (mov_flow w) (reg_of w 12 ∷ reg_of w 0 ∷ []))) (eqb (field w 20 1) 0)
      (row2 w (tt, c) (reg w 12) (reg w 0) (to_return (reg_of w 12 ∷ reg_of w 0 ∷ [])))
      (row2 w (tt, c) (reg w 12) (reg w 0) (to_return (reg_of w 12 ∷ reg_of w 0 ∷ []))))
      (choice (rrx_of w)
      (either (λ n. Good addr (answer w addr n (pc_flow w) (reg_of w 12 ∷ reg_of w 0 ∷ []))) (eqb (field w 20 1) 0)
      (row2 w (tt, c) (reg w 12) (reg w 0) (to_pc_lem (reg_of w 12 ∷ reg_of w 0 ∷ [])))
      (row2 w (tt, c) (reg w 12) (reg w 0) (to_pc_lem (reg_of w 12 ∷ reg_of w 0 ∷ []))))
      (row3 w shift (reg w 12) (reg w 0) (signs (shift_name w) (shift_name_lem w), omega (arith, amount))
      (to_pc_lem (reg_of w 12 ∷ reg_of w 0 ∷ Count (pos (amount_of (field w 5 2) (field w 7 5))) ∷ [])))))
      (row3 w shift (reg w 12) (reg w 0) (reg w 8) (to_pc_lem (reg_of w 12 ∷ reg_of w 0 ∷ reg_of w 8 ∷ [])))

  pub dp_reg_good : Good addr (dp_reg_of w addr)
  dp_reg_good =
      at (field w 23 2) 2 (one_source 16)
      (at (field w 21 4) 13 mov_good
      (at (field w 21 4) 15 (one_source 12)
      two_source))

  abbrev imm12 : ℕ
  imm12 = field w 0 12

  value : (unsigned : Bool) → nat_abs (count_of unsigned (so_imm_of imm12)) < 2 ^ 32
  value unsigned = count_small unsigned (so_imm_of imm12) (value_fits imm12 (small w 0 12))

  byte : byte_of imm12 < 2 ^ 32
  byte = omega (arith, small imm12 0 8)

  turn : 2 * rotation_of imm12 < 2 ^ 32
  turn = omega (arith, small imm12 8 4)

  abbrev least : Bool → Operand
  least unsigned = Count (count_of unsigned (so_imm_of imm12))

  -- an immediate, after one operand and after two
  module _ {name : ℕ} {flow : Flow} (plain : hashed name ≡ 0) (under : Under w name flow) (aimed : (ops : List Operand) → Aimed ops flow)
      (unsigned : Bool) where
    one_value : (a : Operand) → Sound false name a → Good addr (answer w addr name flow (a ∷ imm_of imm12 unsigned))
    one_value a s =
        either (λ ops. Good addr (answer w addr name flow (a ∷ ops))) (least_of imm12)
        (row2 w under s (plain, value unsigned) (aimed (a ∷ least unsigned ∷ [])))
        (row3 w under s (plain, byte) (plain, turn) (aimed (a ∷ Count (pos (byte_of imm12)) ∷ Count (pos (2 * rotation_of imm12)) ∷ [])))

    two_value : (a b : Operand) → Sound false name a → Sound false name b → Good addr (answer w addr name flow (a ∷ b ∷ imm_of imm12 unsigned))
    two_value a b s t =
        either (λ ops. Good addr (answer w addr name flow (a ∷ b ∷ ops))) (least_of imm12)
        (row3 w under s t (plain, value unsigned) (aimed (a ∷ b ∷ least unsigned ∷ [])))
        (row4 w under s t (plain, byte) (plain, turn) (aimed (a ∷ b ∷ Count (pos (byte_of imm12)) ∷ Count (pos (2 * rotation_of imm12)) ∷ [])))

  no_pattern : hashed (dp_name w) ≡ 0
  no_pattern = signs (dp_name w) (dp_name_lem w)

  operation_good : Good addr (operation_of w addr)
  operation_good =
      at (field w 23 2) 2 (one_value no_pattern (operation Next) (λ ops. tt) false (reg_of w 16) (reg w 16))
      (at (field w 21 4) 13 (one_value no_pattern (operation (pc_flow w)) to_pc_lem (to_pc w) (reg_of w 12) (reg w 12))
      (at (field w 21 4) 15 (one_value no_pattern (operation (pc_flow w)) to_pc_lem false (reg_of w 12) (reg w 12))
      (two_value no_pattern (operation (pc_flow w)) to_pc_lem false (reg_of w 12) (reg_of w 16) (reg w 12) (reg w 16))))

  msr_good : Good addr (msr_of w addr)
  msr_good = one_value refl (tt, c) (λ ops. tt) true (mask_of w) (joined_small w 22 1 16 4)

  hint_good : Good addr (hint_of w addr)
  hint_good =
      at (field w 0 8) 0 (row0 w (tt, c) tt)
      (at (field w 0 8) 1 (row0 w (tt, c) tt)
      (at (field w 0 8) 2 (row0 w (tt, c) tt)
      (at (field w 0 8) 3 (row0 w (tt, c) tt)
      (at (field w 0 8) 4 (row0 w (tt, c) tt)
      no_row_lem))))

  wide : joined w 16 4 0 12 < 2 ^ 32
  wide = omega (arith, joined_small w 16 4 0 12)

  pub dp_imm_good : Good addr (dp_imm_of w addr)
  dp_imm_good =
      at (field w 20 5) 16 (row2 w (tt, c) (reg w 12) (refl, wide) tt)
      (at (field w 20 5) 20 (row2 w (tt, c) (reg w 12) (refl, wide) tt)
      (at (field w 20 5) 18 (choice (hint_slot w) hint_good msr_good)
      (at (field w 20 5) 22 msr_good
      operation_good)))
