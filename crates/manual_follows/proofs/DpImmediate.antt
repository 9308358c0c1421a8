-- Data-processing by a constant beside the manual. Assumes nothing.
use mathlib.Core.Path.{◌≡◌, refl, ap}
use mathlib.Core.Bool.{Bool, true, false}
use mathlib.Core.List.{List, ◌∷◌}
use Prim.Native.Nat.{ℕ}
use Prim.Native.String.{String}
use borrow.Author.Tests.{eqb-true}
use lib.Dec.{eqb}
use Rattle.word.specs.Field.{field}
use Rattle.insn.specs.Roots.{name}
use Rattle.insn.specs.Answer.{Decoded, insn_in}
use Rattle.insn.specs.declared.Flow.TheVariants.{Next}
use Rattle.insn.specs.declared.Operand.{Operand}
use Rattle.a32_imm.specs.Imm.{imm_of}
use Rattle.a32_shared.specs.Row.{reg_of, answer, by_s, pc_flow}
use Rattle.a32_dp.specs.DpImm.{hint_slot, to_pc}
use Rattle.a32_dp.specs.Names.{dp_name}
use Rattle.a32.specs.Decode.{decode_of, group_of}
use Rattle.manual.specs.A5 as A
use Rattle.manual.specs.A8.{said_of, page_of, other_page_of}
use Rattle.manual.specs.Departures.{standing_of}
use Rattle.manual.specs.Pattern.{bits_are}
use Rattle.manual.specs.Reads.{R, setflags, writes_pc, constant}
use Rattle.manual.specs.Stands.{Stands}
use Rattle.manual.proofs.Fields.{HeldAt, holds, tops, groups, bits, by_field, split, apart, accepts, ◌also◌}
use Rattle.manual.proofs.Pages.{by_flags, Alu, alu_page, Read, read_page}
use Rattle.manual.proofs.Shifts.{constant_is}

module _ (w addr : ℕ) (cond : eqb (field w 28 4) 15 ≡ false) (group : field w 25 3 ≡ 1) where
  ruleset here = (tops, groups)

  two : (row : String) (plain s : ℕ) → Alu w addr row (setflags w plain s) (writes_pc w) (R w 12 ∷ R w 16 ∷ constant w false)
      → Stands row w addr (answer w addr (by_s w plain s) (pc_flow w) (reg_of w 12 ∷ reg_of w 16 ∷ imm_of (field w 0 12) false))
  two row plain s = alu_page w addr row _ _ _ _ _ (by_flags w plain s) (ap (λ (os : List Operand). R w 12 ∷ R w 16 ∷ os) (constant_is w false))

  one : (row : String) (plain s : ℕ) (unsigned : Bool) → Alu w addr row (setflags w plain s) (writes_pc w) (R w 12 ∷ constant w unsigned)
      → Stands row w addr (answer w addr (by_s w plain s) (pc_flow w) (reg_of w 12 ∷ imm_of (field w 0 12) unsigned))
  one row plain s unsigned = alu_page w addr row _ _ _ _ _ (by_flags w plain s) (ap (λ (os : List Operand). R w 12 ∷ os) (constant_is w unsigned))

  compare : (row : String) (name : ℕ) → Read w addr row name Next (R w 16 ∷ constant w false)
      → Stands row w addr (answer w addr name Next (reg_of w 16 ∷ imm_of (field w 0 12) false))
  compare row name = read_page w addr row name Next _ name _ refl (ap (λ (os : List Operand). R w 16 ∷ os) (constant_is w false))

  -- from R[15]: an ADR unless bit 20 is set
  add_15 : field w 21 4 ≡ 4 → eqb (field w 16 4) 15 ≡ true → HeldAt w addr
  unfolding decode_of group_of dp_name said_of page_of other_page_of standing_of A.table_row A.data_processing A.data_processing_immediate A.msr_and_hints
  add_15 e r =
      by_field w 20 1
      ((λ s. simp (here, cond, group, e, r, s) (holds (simp (tops, bits, constant_is, e, s) (refl, accepts)))) also
      (λ s. split (eqb (field w 12 4) 15)
      (λ d. simp (here, cond, group, e, r, s) (holds (simp (tops, bits, constant_is, e, s, d) (refl, accepts))))
      (λ d. simp (here, cond, group, e, r, s) (holds (simp (tops, bits, constant_is, e, s, d))))) also tt)

  sub_15 : field w 21 4 ≡ 2 → eqb (field w 16 4) 15 ≡ true → HeldAt w addr
  unfolding decode_of group_of dp_name said_of page_of other_page_of standing_of A.table_row A.data_processing A.data_processing_immediate A.msr_and_hints
  sub_15 e r =
      by_field w 20 1
      ((λ s. simp (here, cond, group, e, r, s) (holds (simp (tops, bits, constant_is, e, s) (refl, accepts)))) also
      (λ s. split (eqb (field w 12 4) 15)
      (λ d. simp (here, cond, group, e, r, s) (holds (simp (tops, bits, constant_is, e, s, d) (refl, accepts))))
      (λ d. simp (here, cond, group, e, r, s) (holds (simp (tops, bits, constant_is, e, s, d))))) also tt)

  add : field w 21 4 ≡ 4 → HeldAt w addr
  add e = unfold decode_of group_of dp_name said_of page_of other_page_of standing_of A.table_row A.data_processing A.data_processing_immediate A.msr_and_hints in
      split (eqb (field w 16 4) 15) (add_15 e) (λ r. simp (here, cond, group, e, r) (holds (two "ADD (immediate, ARM)" (name "add") (name "adds")
      (refl, refl, refl, refl))))

  sub : field w 21 4 ≡ 2 → HeldAt w addr
  sub e = unfold decode_of group_of dp_name said_of page_of other_page_of standing_of A.table_row A.data_processing A.data_processing_immediate A.msr_and_hints in
      split (eqb (field w 16 4) 15) (sub_15 e) (λ r. simp (here, cond, group, e, r) (holds (two "SUB (immediate, ARM)" (name "sub") (name "subs")
      (refl, refl, refl, refl))))

  -- hints, and msr where 19:16 are not zero
  module _ (e : field w 21 4 ≡ 9) (s : field w 20 1 ≡ 0) where
    hint : field w 16 4 ≡ 0 → HeldAt w addr
    hint n = unfold decode_of group_of hint_slot said_of page_of standing_of A.table_row A.data_processing A.msr_and_hints in
        split (eqb (field w 12 4) 15)
        (λ d. split (eqb (field w 0 8) 0)
        (λ h. simp (here, cond, group, e, s, n, d, eqb-true (field w 0 8) 0 h) (holds (simp d)))
        (λ h0. split (eqb (field w 0 8) 1)
        (λ h. simp (here, cond, group, e, s, n, d, eqb-true (field w 0 8) 1 h) (holds (simp d)))
        (λ h1. split (eqb (field w 0 8) 2)
        (λ h. simp (here, cond, group, e, s, n, d, eqb-true (field w 0 8) 2 h) (holds (simp d)))
        (λ h2. split (eqb (field w 0 8) 3)
        (λ h. simp (here, cond, group, e, s, n, d, eqb-true (field w 0 8) 3 h) (holds (simp d)))
        (λ h3. split (eqb (field w 0 8) 4)
        (λ h. simp (here, cond, group, e, s, n, d, eqb-true (field w 0 8) 4 h) (holds (simp d)))
        (λ h4. split (bits_are (field w 0 8) "1111xxxx")
        (λ g. simp (here, cond, group, e, s, n, d, h0, h1, h2, h3, h4, g) (holds (simp d)))
        (λ g. simp (here, cond, group, e, s, n, d, h0, h1, h2, h3, h4, g) (holds (simp d)))))))))
        (λ d. split (eqb (field w 0 8) 0)
        (λ h. simp (here, cond, group, e, s, n, d, eqb-true (field w 0 8) 0 h) (holds (simp (tops, e, n, d, constant_is)
        (refl, apart (λ (x : Decoded). (insn_in x).name) _ _ refl))))
        (λ h0. split (eqb (field w 0 8) 1)
        (λ h. simp (here, cond, group, e, s, n, d, eqb-true (field w 0 8) 1 h) (holds (simp (tops, e, n, d, constant_is)
        (refl, apart (λ (x : Decoded). (insn_in x).name) _ _ refl))))
        (λ h1. split (eqb (field w 0 8) 2)
        (λ h. simp (here, cond, group, e, s, n, d, eqb-true (field w 0 8) 2 h) (holds (simp (tops, e, n, d, constant_is)
        (refl, apart (λ (x : Decoded). (insn_in x).name) _ _ refl))))
        (λ h2. split (eqb (field w 0 8) 3)
        (λ h. simp (here, cond, group, e, s, n, d, eqb-true (field w 0 8) 3 h) (holds (simp (tops, e, n, d, constant_is)
        (refl, apart (λ (x : Decoded). (insn_in x).name) _ _ refl))))
        (λ h3. split (eqb (field w 0 8) 4)
        (λ h. simp (here, cond, group, e, s, n, d, eqb-true (field w 0 8) 4 h) (holds (simp (tops, e, n, d, constant_is)
        (refl, apart (λ (x : Decoded). (insn_in x).name) _ _ refl))))
        (λ h4. split (bits_are (field w 0 8) "1111xxxx")
        (λ g. simp (here, cond, group, e, s, n, d, h0, h1, h2, h3, h4, g) (holds (simp (tops, e, n, d, constant_is) (refl, accepts))))
        (λ g. simp (here, cond, group, e, s, n, d, h0, h1, h2, h3, h4, g) (holds (simp (tops, e, n, d, constant_is) (refl, accepts))))))))))

    pub status : HeldAt w addr
    status = unfold decode_of group_of hint_slot said_of page_of standing_of A.table_row A.data_processing A.msr_and_hints in
        by_field w 16 4
        (hint also (λ n. simp (here, cond, group, e, s, n) (holds (simp (tops, e, n, constant_is)))) also
        (λ n. simp (here, cond, group, e, s, n) (holds (simp (tops, e, n, constant_is)))) also
        (λ n. simp (here, cond, group, e, s, n) (holds (simp (tops, e, n, constant_is)))) also
        (λ n. simp (here, cond, group, e, s, n) (holds (simp (tops, e, n, constant_is)))) also
        (λ n. simp (here, cond, group, e, s, n) (holds (simp (tops, e, n, constant_is)))) also
        (λ n. simp (here, cond, group, e, s, n) (holds (simp (tops, e, n, constant_is)))) also
        (λ n. simp (here, cond, group, e, s, n) (holds (simp (tops, e, n, constant_is)))) also
        (λ n. simp (here, cond, group, e, s, n) (holds (simp (tops, e, n, constant_is)))) also
        (λ n. simp (here, cond, group, e, s, n) (holds (simp (tops, e, n, constant_is)))) also
        (λ n. simp (here, cond, group, e, s, n) (holds (simp (tops, e, n, constant_is)))) also
        (λ n. simp (here, cond, group, e, s, n) (holds (simp (tops, e, n, constant_is)))) also
        (λ n. simp (here, cond, group, e, s, n) (holds (simp (tops, e, n, constant_is)))) also
        (λ n. simp (here, cond, group, e, s, n) (holds (simp (tops, e, n, constant_is)))) also
        (λ n. simp (here, cond, group, e, s, n) (holds (simp (tops, e, n, constant_is)))) also
        (λ n. simp (here, cond, group, e, s, n) (holds (simp (tops, e, n, constant_is)))) also tt)

  pub by_constant : HeldAt w addr
  unfolding decode_of group_of dp_name said_of page_of other_page_of standing_of A.table_row A.data_processing A.data_processing_immediate A.msr_and_hints
  by_constant =
      by_field w 21 4
      ((λ e. simp (here, cond, group, e) (holds (two "AND (immediate)" (name "and") (name "ands") (refl, refl, refl, refl)))) also
      (λ e. simp (here, cond, group, e) (holds (two "EOR (immediate)" (name "eor") (name "eors") (refl, refl, refl, refl)))) also
      sub also
      (λ e. simp (here, cond, group, e) (holds (two "RSB (immediate)" (name "rsb") (name "rsbs") (refl, refl, refl, refl)))) also
      add also
      (λ e. simp (here, cond, group, e) (holds (two "ADC (immediate)" (name "adc") (name "adcs") (refl, refl, refl, refl)))) also
      (λ e. simp (here, cond, group, e) (holds (two "SBC (immediate)" (name "sbc") (name "sbcs") (refl, refl, refl, refl)))) also
      (λ e. simp (here, cond, group, e) (holds (two "RSC (immediate)" (name "rsc") (name "rscs") (refl, refl, refl, refl)))) also
      (λ e. by_field w 20 1 ((λ s. simp (here, cond, group, e, s) (holds refl)) also
      (λ s. simp (here, cond, group, e, s) (holds (compare "TST (immediate)" (name "tst") (refl, refl, refl)))) also tt)) also
      (λ e. by_field w 20 1 ((λ s. status e s) also
      (λ s. simp (here, cond, group, e, s) (holds (compare "TEQ (immediate)" (name "teq") (refl, refl, refl)))) also tt)) also
      (λ e. by_field w 20 1 ((λ s. simp (here, cond, group, e, s) (holds refl)) also
      (λ s. simp (here, cond, group, e, s) (holds (compare "CMP (immediate)" (name "cmp") (refl, refl, refl)))) also tt)) also
      (λ e. by_field w 20 1 ((λ s. simp (here, cond, group, e, s) (holds (simp (tops, e, constant_is)))) also
      (λ s. simp (here, cond, group, e, s) (holds (compare "CMN (immediate)" (name "cmn") (refl, refl, refl)))) also tt)) also
      (λ e. simp (here, cond, group, e) (holds (two "ORR (immediate)" (name "orr") (name "orrs") (refl, refl, refl, refl)))) also
      (λ e. simp (here, cond, group, e) (holds (one "MOV (immediate)" (name "mov") (name "movs") (to_pc w) (refl, refl, refl, refl)))) also
      (λ e. simp (here, cond, group, e) (holds (two "BIC (immediate)" (name "bic") (name "bics") (refl, refl, refl, refl)))) also
      (λ e. simp (here, cond, group, e) (holds (one "MVN (immediate)" (name "mvn") (name "mvns") false (refl, refl, refl, refl)))) also
      tt)
