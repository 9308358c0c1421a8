-- Data-processing by a register beside the manual. Assumes nothing.
use mathlib.Core.Path.{◌≡◌, refl, ap}
use mathlib.Core.Bool.{false}
use mathlib.Core.List.{List, [], ◌∷◌}
use Prim.Native.Nat.{ℕ}
use Prim.Native.String.{String}
use lib.Dec.{eqb}
use lib.IntN.{pos}
use Rattle.word.specs.Field.{field}
use Rattle.insn.specs.Roots.{name}
use Rattle.insn.specs.declared.Operand.{Operand}
use Rattle.insn.specs.declared.Operand.TheVariants.{Count}
use Rattle.a32_shared.specs.Row.{reg_of, answer, by_s, pc_flow}
use Rattle.a32_shared.specs.Shifts as S
use Rattle.a32_dp.specs.DpReg.{mov_flow}
use Rattle.a32_dp.specs.Names.{dp_name, shift_name}
use Rattle.a32.specs.Decode as D
use Rattle.a32.specs.Decode.{decode_of, group_of, dp_misc_of, control_of}
use Rattle.manual.specs.A5 as A
use Rattle.manual.specs.A8.{said_of, page_of, other_page_of}
use Rattle.manual.specs.Departures.{standing_of, compare_15, shifted_15}
use Rattle.manual.specs.Reads.{R, setflags, writes_pc, shifted, register_shifted, shift_count}
use Rattle.manual.specs.Stands.{Stands}
use Rattle.manual.proofs.Fields.{HeldAt, holds, tops, top_23_2, low_bits, groups, by_field, split, ◌also◌}
use Rattle.manual.proofs.Pages.{by_flags, Alu, alu_page, Goes, next_page}
use Rattle.manual.proofs.Shifts.{shifted_is}

module _ (w addr : ℕ) (cond : eqb (field w 28 4) 15 ≡ false) (group : field w 25 3 ≡ 0)
    (control : field w 23 2 ≡ 2 → field w 20 1 ≡ 0 → HeldAt w addr) where
  ruleset here = (tops, low_bits, groups)

  -- a compare has bit 20 set; with it clear, 24:21 from 8 to 11 are other tables
  compares : field w 23 2 ≡ 2 → (field w 20 1 ≡ 1 → HeldAt w addr) → HeldAt w addr
  compares e set = by_field w 20 1 ((λ s. control e s) also set also tt)

  -- Rm, shifted by a count
  module _ (low : field w 4 1 ≡ 0) where
    three : (row : String) (plain s : ℕ) → Alu w addr row (setflags w plain s) (writes_pc w) (R w 12 ∷ R w 16 ∷ shifted w ∷ [])
        → Stands row w addr (answer w addr (by_s w plain s) (pc_flow w) (reg_of w 12 ∷ reg_of w 16 ∷ S.shifted_of w ∷ []))
    three row plain s = alu_page w addr row _ _ _ _ _ (by_flags w plain s) (ap (λ (o : Operand). R w 12 ∷ R w 16 ∷ o ∷ []) (shifted_is w))

    two : (row : String) (plain s : ℕ) → Alu w addr row (setflags w plain s) (writes_pc w) (R w 12 ∷ shifted w ∷ [])
        → Stands row w addr (answer w addr (by_s w plain s) (pc_flow w) (reg_of w 12 ∷ S.shifted_of w ∷ []))
    two row plain s = alu_page w addr row _ _ _ _ _ (by_flags w plain s) (ap (λ (o : Operand). R w 12 ∷ o ∷ []) (shifted_is w))

    compare : (row : String) (name : ℕ) → Goes w addr row name (R w 16 ∷ shifted w ∷ []) compare_15
        → Stands row w addr (answer w addr name (pc_flow w) (reg_of w 16 ∷ S.shifted_of w ∷ []))
    compare row name = next_page w addr row _ _ _ _ _ refl (ap (λ (o : Operand). R w 16 ∷ o ∷ []) (shifted_is w))

    -- a mov is a move or one of the shifts, by 6:5 and 11:7
    moved : (row : String) (plain s : ℕ) → Alu w addr row (setflags w plain s) (mov_flow w) (R w 12 ∷ R w 0 ∷ [])
        → Stands row w addr (answer w addr (by_s w plain s) (mov_flow w) (reg_of w 12 ∷ reg_of w 0 ∷ []))
    moved row plain s = alu_page w addr row _ _ (R w 12 ∷ R w 0 ∷ []) _ _ (by_flags w plain s) refl

    rotated : (row : String) (plain s : ℕ) → Alu w addr row (setflags w plain s) (writes_pc w) (R w 12 ∷ R w 0 ∷ [])
        → Stands row w addr (answer w addr (by_s w plain s) (pc_flow w) (reg_of w 12 ∷ reg_of w 0 ∷ []))
    rotated row plain s = alu_page w addr row _ _ (R w 12 ∷ R w 0 ∷ []) _ _ (by_flags w plain s) refl

    counted : (row : String) (plain s n : ℕ) → shift_count w ≡ Count (pos n)
        → Alu w addr row (setflags w plain s) (writes_pc w) (R w 12 ∷ R w 0 ∷ shift_count w ∷ [])
        → Stands row w addr (answer w addr (by_s w plain s) (pc_flow w) (reg_of w 12 ∷ reg_of w 0 ∷ Count (pos n) ∷ []))
    counted row plain s n c = alu_page w addr row _ _ _ _ _ (by_flags w plain s) (ap (λ (o : Operand). R w 12 ∷ R w 0 ∷ o ∷ []) c)

    mov : field w 21 4 ≡ 13 → HeldAt w addr
    unfolding decode_of group_of dp_misc_of D.plain_of control_of shift_name S.plain_of S.rrx_of said_of page_of other_page_of standing_of A.table_row
        A.data_processing A.data_processing_register
    mov op =
        split (eqb (field w 7 5) 0)
        (λ z. by_field w 5 2
        ((λ e. simp (here, cond, group, low, op, z, e) (holds (moved "MOV (register, ARM)" (name "mov") (name "movs") (refl, refl, refl, refl)))) also
        (λ e. simp (here, cond, group, low, op, z, e) (holds (counted "LSR (immediate)" (name "lsr") (name "lsrs") _ (simp (z, e))
        (refl, refl, refl, refl)))) also
        (λ e. simp (here, cond, group, low, op, z, e) (holds (counted "ASR (immediate)" (name "asr") (name "asrs") _ (simp (z, e))
        (refl, refl, refl, refl)))) also
        (λ e. simp (here, cond, group, low, op, z, e) (holds (rotated "RRX" (name "rrx") (name "rrxs") (refl, refl, refl, refl)))) also
        tt))
        (λ z. by_field w 5 2
        ((λ e. simp (here, cond, group, low, op, z, e) (holds (counted "LSL (immediate)" (name "lsl") (name "lsls") _ (simp (z, e))
        (refl, refl, refl, refl)))) also
        (λ e. simp (here, cond, group, low, op, z, e) (holds (counted "LSR (immediate)" (name "lsr") (name "lsrs") _ (simp (z, e))
        (refl, refl, refl, refl)))) also
        (λ e. simp (here, cond, group, low, op, z, e) (holds (counted "ASR (immediate)" (name "asr") (name "asrs") _ (simp (z, e))
        (refl, refl, refl, refl)))) also
        (λ e. simp (here, cond, group, low, op, z, e) (holds (counted "ROR (immediate)" (name "ror") (name "rors") _ (simp (z, e))
        (refl, refl, refl, refl)))) also
        tt))

    pub by_count : HeldAt w addr
    unfolding decode_of group_of dp_misc_of D.plain_of control_of dp_name said_of page_of other_page_of standing_of A.table_row A.data_processing
        A.data_processing_register
    by_count =
        by_field w 21 4
        ((λ e. simp (here, cond, group, low, e) (holds (three "AND (register)" (name "and") (name "ands") (refl, refl, refl, refl)))) also
        (λ e. simp (here, cond, group, low, e) (holds (three "EOR (register)" (name "eor") (name "eors") (refl, refl, refl, refl)))) also
        (λ e. simp (here, cond, group, low, e) (holds (three "SUB (register)" (name "sub") (name "subs") (refl, refl, refl, refl)))) also
        (λ e. simp (here, cond, group, low, e) (holds (three "RSB (register)" (name "rsb") (name "rsbs") (refl, refl, refl, refl)))) also
        (λ e. simp (here, cond, group, low, e) (holds (three "ADD (register)" (name "add") (name "adds") (refl, refl, refl, refl)))) also
        (λ e. simp (here, cond, group, low, e) (holds (three "ADC (register)" (name "adc") (name "adcs") (refl, refl, refl, refl)))) also
        (λ e. simp (here, cond, group, low, e) (holds (three "SBC (register)" (name "sbc") (name "sbcs") (refl, refl, refl, refl)))) also
        (λ e. simp (here, cond, group, low, e) (holds (three "RSC (register)" (name "rsc") (name "rscs") (refl, refl, refl, refl)))) also
        (λ e. compares (simp (top_23_2, e)) (λ s. simp (here, cond, group, low, e, s) (holds (compare "TST (register)" (name "tst")
        (refl, refl, refl, refl))))) also
        (λ e. compares (simp (top_23_2, e)) (λ s. simp (here, cond, group, low, e, s) (holds (compare "TEQ (register)" (name "teq")
        (refl, refl, refl, refl))))) also
        (λ e. compares (simp (top_23_2, e)) (λ s. simp (here, cond, group, low, e, s) (holds (compare "CMP (register)" (name "cmp")
        (refl, refl, refl, refl))))) also
        (λ e. compares (simp (top_23_2, e)) (λ s. simp (here, cond, group, low, e, s) (holds (compare "CMN (register)" (name "cmn")
        (refl, refl, refl, refl))))) also
        (λ e. simp (here, cond, group, low, e) (holds (three "ORR (register)" (name "orr") (name "orrs") (refl, refl, refl, refl)))) also
        mov also
        (λ e. simp (here, cond, group, low, e) (holds (three "BIC (register)" (name "bic") (name "bics") (refl, refl, refl, refl)))) also
        (λ e. simp (here, cond, group, low, e) (holds (two "MVN (register)" (name "mvn") (name "mvns") (refl, refl, refl, refl)))) also
        tt)

  -- Rm, shifted by Rs
  module _ (low : field w 4 1 ≡ 1) (seven : field w 7 1 ≡ 0) where
    with_register : (row : String) (plain s : ℕ) (ops : List Operand) → Goes w addr row (setflags w plain s) ops shifted_15
        → Stands row w addr (answer w addr (by_s w plain s) (pc_flow w) ops)
    with_register row plain s ops = next_page w addr row _ ops _ _ _ (by_flags w plain s) refl

    compare_by : (row : String) (name : ℕ) → Goes w addr row name (R w 16 ∷ register_shifted w) compare_15
        → Stands row w addr (answer w addr name (pc_flow w) (R w 16 ∷ register_shifted w))
    compare_by row name = next_page w addr row name (R w 16 ∷ register_shifted w) _ _ _ refl refl

    shift_by : field w 21 4 ≡ 13 → HeldAt w addr
    unfolding decode_of group_of dp_misc_of D.plain_of control_of shift_name S.plain_of S.rrx_of said_of page_of other_page_of standing_of A.table_row
        A.data_processing A.data_processing_shifted
    shift_by op =
        by_field w 5 2
        ((λ e. simp (here, cond, group, low, seven, op, e) (holds (with_register "LSL (register)" (name "lsl") (name "lsls")
        (R w 12 ∷ R w 0 ∷ R w 8 ∷ []) (refl, refl, refl, refl)))) also
        (λ e. simp (here, cond, group, low, seven, op, e) (holds (with_register "LSR (register)" (name "lsr") (name "lsrs")
        (R w 12 ∷ R w 0 ∷ R w 8 ∷ []) (refl, refl, refl, refl)))) also
        (λ e. simp (here, cond, group, low, seven, op, e) (holds (with_register "ASR (register)" (name "asr") (name "asrs")
        (R w 12 ∷ R w 0 ∷ R w 8 ∷ []) (refl, refl, refl, refl)))) also
        (λ e. simp (here, cond, group, low, seven, op, e) (holds (with_register "ROR (register)" (name "ror") (name "rors")
        (R w 12 ∷ R w 0 ∷ R w 8 ∷ []) (refl, refl, refl, refl)))) also
        tt)

    pub by_register : HeldAt w addr
    unfolding decode_of group_of dp_misc_of D.plain_of control_of dp_name said_of page_of other_page_of standing_of A.table_row A.data_processing
        A.data_processing_shifted
    by_register =
        by_field w 21 4
        ((λ e. simp (here, cond, group, low, seven, e) (holds (with_register "AND (register-shifted register)" (name "and") (name "ands")
        (R w 12 ∷ R w 16 ∷ register_shifted w) (refl, refl, refl, refl)))) also
        (λ e. simp (here, cond, group, low, seven, e) (holds (with_register "EOR (register-shifted register)" (name "eor") (name "eors")
        (R w 12 ∷ R w 16 ∷ register_shifted w) (refl, refl, refl, refl)))) also
        (λ e. simp (here, cond, group, low, seven, e) (holds (with_register "SUB (register-shifted register)" (name "sub") (name "subs")
        (R w 12 ∷ R w 16 ∷ register_shifted w) (refl, refl, refl, refl)))) also
        (λ e. simp (here, cond, group, low, seven, e) (holds (with_register "RSB (register-shifted register)" (name "rsb") (name "rsbs")
        (R w 12 ∷ R w 16 ∷ register_shifted w) (refl, refl, refl, refl)))) also
        (λ e. simp (here, cond, group, low, seven, e) (holds (with_register "ADD (register-shifted register)" (name "add") (name "adds")
        (R w 12 ∷ R w 16 ∷ register_shifted w) (refl, refl, refl, refl)))) also
        (λ e. simp (here, cond, group, low, seven, e) (holds (with_register "ADC (register-shifted register)" (name "adc") (name "adcs")
        (R w 12 ∷ R w 16 ∷ register_shifted w) (refl, refl, refl, refl)))) also
        (λ e. simp (here, cond, group, low, seven, e) (holds (with_register "SBC (register-shifted register)" (name "sbc") (name "sbcs")
        (R w 12 ∷ R w 16 ∷ register_shifted w) (refl, refl, refl, refl)))) also
        (λ e. simp (here, cond, group, low, seven, e) (holds (with_register "RSC (register-shifted register)" (name "rsc") (name "rscs")
        (R w 12 ∷ R w 16 ∷ register_shifted w) (refl, refl, refl, refl)))) also
        (λ e. compares (simp (top_23_2, e)) (λ s. simp (here, cond, group, low, seven, e, s) (holds
        (compare_by "TST (register-shifted register)" (name "tst") (refl, refl, refl, refl))))) also
        (λ e. compares (simp (top_23_2, e)) (λ s. simp (here, cond, group, low, seven, e, s) (holds
        (compare_by "TEQ (register-shifted register)" (name "teq") (refl, refl, refl, refl))))) also
        (λ e. compares (simp (top_23_2, e)) (λ s. simp (here, cond, group, low, seven, e, s) (holds
        (compare_by "CMP (register-shifted register)" (name "cmp") (refl, refl, refl, refl))))) also
        (λ e. compares (simp (top_23_2, e)) (λ s. simp (here, cond, group, low, seven, e, s) (holds
        (compare_by "CMN (register-shifted register)" (name "cmn") (refl, refl, refl, refl))))) also
        (λ e. simp (here, cond, group, low, seven, e) (holds (with_register "ORR (register-shifted register)" (name "orr") (name "orrs")
        (R w 12 ∷ R w 16 ∷ register_shifted w) (refl, refl, refl, refl)))) also
        shift_by also
        (λ e. simp (here, cond, group, low, seven, e) (holds (with_register "BIC (register-shifted register)" (name "bic") (name "bics")
        (R w 12 ∷ R w 16 ∷ register_shifted w) (refl, refl, refl, refl)))) also
        (λ e. simp (here, cond, group, low, seven, e) (holds (with_register "MVN (register-shifted register)" (name "mvn") (name "mvns")
        (R w 12 ∷ register_shifted w) (refl, refl, refl, refl)))) also
        tt)
