-- Loads and stores are formed, the extra ones too. Assumes nothing.
use mathlib.Core.Path.{◌≡◌, refl}
use mathlib.Core.Bool.{Bool, false, true, not}
use mathlib.Core.List.{List, [], ◌∷◌}
use Prim.Native.Nat.{ℕ, zero, suc, ◌+◌, ◌%◌, ◌<◌}
use native.Mathlib.Omega.{arith}
use borrow.Author.Tests.{eqb-true, eqb-false}
use lib.Dec.{T, eqb, ltb, lit<}
use lib.IntN.{pos, nat_abs}
use Rattle.word.specs.Choice.{tested, parts}
use Rattle.word.specs.Field.{field, small}
use Rattle.word.specs.Layout.{joined_small}
use Rattle.word.specs.Signed.{minus}
use Rattle.insn.specs.Roots.{name}
use Rattle.insn.specs.declared.Flow.TheVariants.{Next}
use Rattle.insn.specs.declared.Operand.{Operand}
use Rattle.a32_shared.specs.Row.{reg_of}
use Rattle.a32_ldst.specs.Mem.{U, L, is_clear, is_offset, unprivileged_of, mode_of, is_post, post_of, minus_zero_of, disp_of, with_disp_of, with_index_of}
use Rattle.a32_ldst.specs.ExtraLdst as X
use Rattle.a32_ldst.specs.ExtraLdst.{immediate, imm8, subtracted_index_of, extra_ldst_of}
use Rattle.a32_ldst.specs.Ldst.{B, reg_form, refused_index_of, marked_of, size_of, name_of, flow_of, memory_of, ldst_of}
use Rattle.line_spelling.proofs.Formed.{reg, Good, Sound, Aimed, decimal_for, Under, ordinary, by_name, either, choice, at, no_row_lem, row2, row3}

pub abs_minus : (n : ℕ) → nat_abs (minus n) ≡ n
abs_minus zero = refl
abs_minus (suc n) = refl

-- a displacement signed by U
module _ (w off : ℕ) where
  pub disp_small : off < 4096 → nat_abs (disp_of w off) < 4096
  disp_small few = either (λ z. nat_abs z < 4096) (is_clear w U) (rw abs_minus few) few

  disp_zero : off ≡ 0 → disp_of w off ≡ pos 0
  disp_zero e = rw e (either (λ z. z ≡ pos 0) (is_clear w U) refl refl)

  marked_zero : minus_zero_of w off ≡ true → off ≡ 0
  marked_zero e = unfold minus_zero_of in eqb-true off 0 (parts (is_clear w U) (eqb off 0) e).1

module _ (w : ℕ) {name size : ℕ} {decimal : Bool} (few : size < 10) (is : decimal ≡ decimal_for name (mode_of w)) where
  pub with_disp : {off : ℕ} {marked : Bool} → off < 4096 → (marked ≡ true → off ≡ 0) → Sound true name (with_disp_of w off size decimal marked)
  with_disp {off} fits mark = (
    refl,
    record {
      base = reg w 16;
      index = tt;
      disp = disp_small w off fits;
      size = few;
      decimal = is;
      minus_zero = λ e.
          disp_zero w off (mark e);
    },
  )

  with_index : {shift : ℕ} → shift < 32 → Sound true name (with_index_of w shift size decimal)
  with_index fits = (refl, record { base = reg w 16; index = (reg w 0, fits); disp = lit< tt; size = few; decimal = is; minus_zero = λ e. refl })

module _ (w addr : ℕ) (c : eqb (field w 28 4) 15 ≡ false) where
  extra_memory : (name size : ℕ) → T (ltb size 10) → true ≡ decimal_for name (mode_of w) → Sound true name (X.memory_of w size)
  extra_memory name size few is =
      either (Sound true name) (is_clear w immediate)
      (with_index w (lit< few) is (lit< tt))
      (with_disp w (lit< few) is (omega (arith, joined_small w 8 4 0 4)) (marked_zero w (imm8 w)))

  pair : (name : ℕ) → Under w name Next → true ≡ decimal_for name (mode_of w) → Good addr (X.pair_of w addr name)
  pair name under is =
      tested (Good addr) (eqb (field w 12 4 % 2) 1) (λ odd. no_row_lem) (λ even. row3 w under (reg w 12) (next (eqb-false _ 1 even))
      (extra_memory name 8 tt is) tt)
    where
      next : (field w 12 4 % 2 ≡ 1 → ⊥) → field w 12 4 + 1 < 16
      next even = omega (arith, reg w 12)

  abbrev kind : ℕ
  kind = field w 5 2

  pub extra_good : Good addr (extra_ldst_of w addr)
  extra_good =
      choice (unprivileged_of w) no_row_lem
      (choice (subtracted_index_of w) no_row_lem
      (at kind 1 (choice (is_clear w L) (row2 w (tt, c) (reg w 12) (extra_memory (name "strh") 2 tt refl) tt)
      (row2 w (tt, c) (reg w 12) (extra_memory (name "ldrh") 2 tt refl) tt))
      (at kind 2 (choice (is_clear w L) (pair (name "ldrd") (tt, c) refl) (row2 w (tt, c) (reg w 12) (extra_memory (name "ldrsb") 1 tt refl) tt))
      (at kind 3 (choice (is_clear w L) (pair (name "strd") (tt, c) refl) (row2 w (tt, c) (reg w 12) (extra_memory (name "ldrsh") 2 tt refl) tt))
      no_row_lem))))

  -- what holds of the eight names holds of the name
  eight : (P : ℕ → Type 0) → P (name "ldr") → P (name "ldrb") → P (name "str") → P (name "strb") → P (name "ldrt") → P (name "ldrbt")
      → P (name "strt") → P (name "strbt") → P (name_of w)
  eight P ldr ldrb str strb ldrt ldrbt strt strbt =
      either P (unprivileged_of w)
      (either P (is_clear w L) (either P (is_clear w B) strt strbt) (either P (is_clear w B) ldrt ldrbt))
      (either P (is_clear w L) (either P (is_clear w B) str strb) (either P (is_clear w B) ldr ldrb))

  few : size_of w < 10
  few = either (λ n. n < 10) (is_clear w B) (lit< tt) (lit< tt)

  post : post_of w ≡ decimal_for (name_of w) (mode_of w)
  post = unfold post_of in eight (λ n. is_post (mode_of w) ≡ decimal_for n (mode_of w)) refl refl refl refl refl refl refl refl

  mark : marked_of w (field w 0 12) ≡ true → field w 0 12 ≡ 0
  mark e = unfold marked_of in marked_zero w (field w 0 12) (parts (not (is_offset (mode_of w))) (minus_zero_of w (field w 0 12)) e).1

  pub ldst_good : Good addr (ldst_of w addr)
  ldst_good =
      choice (refused_index_of w) no_row_lem
      (row2 w (by_name w (name_of w) c (eight (λ n. T (ordinary n)) tt tt tt tt tt tt tt tt) (flow_of w)) (reg w 12)
      (either (Sound true (name_of w)) (is_clear w reg_form) (with_disp w few post (small w 0 12) mark) (with_index w few post (small w 7 5)))
      (either (Aimed operands) (is_clear w L) tt (either (Aimed operands) (eqb (field w 12 4) 15) tt tt)))
    where
      operands : List Operand
      operands = reg_of w 12 ∷ memory_of w ∷ []
