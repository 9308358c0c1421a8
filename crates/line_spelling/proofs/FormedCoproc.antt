-- Coprocessor words are formed. Assumes nothing.
use mathlib.Core.Path.{◌≡◌, refl, subst}
use mathlib.Core.Bool.{Bool, false, not}
use mathlib.Core.List.{List, [], ◌∷◌}
use Prim.Native.Nat.{ℕ, ◌*◌, ◌^◌, ◌<◌}
use native.Mathlib.Omega.{arith}
use lib.Dec.{T, eqb, lit<}
use Rattle.word.specs.Field.{field, small}
use Rattle.insn.specs.Roots.{name}
use Rattle.insn.specs.declared.Flow.TheVariants.{Next}
use Rattle.insn.specs.declared.Operand.{Operand}
use Rattle.a32_shared.specs.Row.{rd, rn, rm, reg_of, answer}
use Rattle.a32_ldst.specs.Mem.{L, is_clear, mode_of, with_disp_of}
use Rattle.a32_coproc.specs.Coproc.{D, by_l, floating_of, coprocessor_of, co_reg_of, opcode_of, unindexed_of, register_move_of, operation_of, pair_move_of}
use Rattle.a32_coproc.specs.Coproc.{transfer_of, generic_of, coproc_of}
use Rattle.word.specs.declared.refusal.Refusal.TheVariants.{Coprocessor}
use Rattle.line_spelling.proofs.Formed.{reg, Good, Under, hashed, decimal_for, good_refusal, either, choice, at, no_row_lem, row3, row5, row6}
use Rattle.line_spelling.proofs.FormedLdst.{with_disp}

module _ (w addr : ℕ) (c : eqb (field w 28 4) 15 ≡ false) where
  -- one of two names, by bit 20
  by_l_lem : (ops : List Operand) {store load : ℕ} → Good addr (answer w addr store Next ops) → Good addr (answer w addr load Next ops)
      → Good addr (answer w addr (by_l w store load) Next ops)
  by_l_lem ops = either (λ n. Good addr (answer w addr n Next ops)) (is_clear w L)

  -- an opcode of three bits, and of four
  three : (lo : ℕ) → field w lo 3 < 2 ^ 32
  three lo = omega (arith, small w lo 3)

  four : (lo : ℕ) → field w lo 4 < 2 ^ 32
  four lo = omega (arith, small w lo 4)

  abbrev moved : List Operand
  moved = coprocessor_of w ∷ opcode_of w 21 3 ∷ reg_of w rd ∷ co_reg_of w rn ∷ co_reg_of w rm ∷ opcode_of w 5 3 ∷ []

  register_move : Good addr (register_move_of w addr)
  register_move = by_l_lem moved (of (name "mcr") (tt, c) refl) (of (name "mrc") (tt, c) refl)
    where
      of : (n : ℕ) → Under w n Next → hashed n ≡ 0 → Good addr (answer w addr n Next moved)
      of n under counts = row6 w under tt (reg w 8) (counts, three 21) (reg w rd) (reg w rn) (reg w rm) (counts, three 5) tt

  operation : Good addr (operation_of w addr)
  operation = row6 w (tt, c) tt (reg w 8) (refl, four 20) (reg w rd) (reg w rn) (reg w rm) (refl, three 5) tt

  abbrev paired : List Operand
  paired = coprocessor_of w ∷ opcode_of w 4 4 ∷ reg_of w rd ∷ reg_of w rn ∷ co_reg_of w rm ∷ []

  pair_move : Good addr (pair_move_of w addr)
  pair_move = by_l_lem paired (of (name "mcrr") (tt, c) refl) (of (name "mrrc") (tt, c) refl)
    where
      of : (n : ℕ) → Under w n Next → hashed n ≡ 0 → Good addr (answer w addr n Next paired)
      of n under counts = row5 w under tt (reg w 8) (counts, four 4) (reg w rd) (reg w rn) (reg w rm) tt

  abbrev transferred : List Operand
  transferred = coprocessor_of w ∷ co_reg_of w rd ∷ with_disp_of w (4 * field w 0 8) 4 false false ∷ []

  transfer : Good addr (transfer_of w addr)
  transfer =
      either (λ n. Good addr (answer w addr n Next transferred)) (is_clear w D)
      (by_l_lem transferred (of (name "stc") (tt, c) refl) (of (name "ldc") (tt, c) refl))
      (by_l_lem transferred (of (name "stcl") (tt, c) refl) (of (name "ldcl") (tt, c) refl))
    where
      fits : 4 * field w 0 8 < 4096
      fits = omega (arith, small w 0 8)

      of : (n : ℕ) → Under w n Next → false ≡ decimal_for n (mode_of w) → Good addr (answer w addr n Next transferred)
      of n under plain =
          row3 w under (reg w 8) (reg w rd) (with_disp w (lit< tt) plain fits (λ e. absurd (subst (λ (x : Bool). T (not x)) e tt))) tt

  generic : Good addr (generic_of w addr)
  generic =
      at (field w 24 4) 12 (at (field w 21 3) 2 pair_move (choice (unindexed_of w) no_row_lem transfer))
      (at (field w 24 4) 13 transfer
      (at (field w 24 4) 14 (at (field w 4 1) 0 operation register_move)
      no_row_lem))

  pub coproc_good : Good addr (coproc_of w addr)
  coproc_good = choice (floating_of w) (good_refusal Coprocessor tt tt) generic
