-- Two words that differ in a field alone are of one row, where the row's page is one whose home words are filled there. Assumes nothing.
use mathlib.Core.Path.{◌≡◌, refl, sym, subst}
use mathlib.Core.Bool.{Bool, true, false, not}
use mathlib.Core.List.{List, [], ◌∷◌, ◌++◌}
use Prim.Native.Nat.{ℕ, ◌+◌}
use Prim.Native.String.{String}
use lib.Dec.{T, eqb, leb}
use lib.Text.{eqt, eqt→eq, eqt_refl}
use Rattle.word.specs.Choice.{pick, both, by_test, passes}
use Rattle.word.specs.Field.{field}
use Rattle.manual.specs.A5 as A
use Rattle.manual.specs.A5.{table_row}
use Rattle.manual.specs.A8.{is_among}
use Rattle.manual.specs.Departures.{hints, displaced, preloads, coprocessor_transfers}
use Rattle.manual.proofs.Fields.{group_26_2, op_bits, all_six, seven_bits, eight_bits, both_false, pick_same, by_field, no_true, ◌also◌}
use Rattle.manual_drawn.proofs.Told.{all_of, one_of, moves}

-- a row of these titles is the other too
unfoldable pub keeps : List String → String → String → Bool
keeps titles x y = pick (is_among x titles) (eqt x y) true

pub kept_row : (titles : List String) (x y : String) → keeps titles x y ≡ true → is_among x titles ≡ true → x ≡ y
kept_row titles x y e is = unfold keeps in eqt→eq x y (subst T (sym (simp is at e)) tt)

module _ (titles : List String) where
  same_test : (b : Bool) (x y x' y' : String) → keeps titles (pick b x y) (pick b x' y') ≡ pick b (keeps titles x x') (keeps titles y y')
  same_test true x y x' y' = refl
  same_test false x y x' y' = refl

  either_row : (b : Bool) (x y z : String) → keeps titles (pick b x y) z ≡ pick b (keeps titles x z) (keeps titles y z)
  either_row true x y z = refl
  either_row false x y z = refl

  itself : (x : String) → keeps titles x x ≡ true
  itself x = unfold keeps in by_test (is_among x titles) (λ is. simp is (passes _ (eqt_refl x))) (λ other. simp other)

  silent : (x y : String) → is_among x titles ≡ false → keeps titles x y ≡ true
  silent x y other = unfold keeps in simp other

ruleset alike = (same_test, itself, silent, pick_same)

ruleset none = (either_row, silent, pick_same)

-- the shifts by a register, whose Rn is drawn
abbrev pub shifts : List String
shifts = "LSL (register)" ∷ "LSR (register)" ∷ "ASR (register)" ∷ "ROR (register)" ∷ "MVN (register-shifted register)" ∷ []

abbrev special : List String
special = shifts ++ moves ++ hints ++ displaced ++ preloads ++ coprocessor_transfers

-- tables that lead to none of them
module _ (w : ℕ) (z : String) (titles : List String) (among : all_of (λ s. is_among s special) titles ≡ true) where
  quiet : (x : String) → is_among x special ≡ false → keeps titles x z ≡ true
  quiet x other =
      silent titles x z
      (by_test (is_among x titles)
      (λ is. absurd (subst T other (one_of (λ s. is_among s special) x titles (subst T (sym among) tt) is)))
      (λ e. e))

  ruleset quietly = (either_row, quiet, pick_same)

  in_media : keeps titles (A.media w) z ≡ true
  in_media = unfold A.media A.parallel_signed A.parallel_unsigned A.packing A.signed_multiply in simp quietly

  in_block : keeps titles (A.branch_and_block w) z ≡ true
  in_block = unfold A.branch_and_block in simp quietly

  in_miscellaneous : keeps titles (A.miscellaneous w) z ≡ true
  in_miscellaneous = unfold A.miscellaneous A.saturating in simp quietly

  in_halfword : keeps titles (A.halfword_multiply w) z ≡ true
  in_halfword = unfold A.halfword_multiply in simp quietly

  in_multiply : keeps titles (A.multiply w) z ≡ true
  in_multiply = unfold A.multiply in simp quietly

  in_synchronization : keeps titles (A.synchronization w) z ≡ true
  in_synchronization = unfold A.synchronization in simp quietly

  in_extra : keeps titles (A.extra_load_store w) z ≡ true
  in_extra = unfold A.extra_load_store in simp quietly

  in_unprivileged : keeps titles (A.extra_unprivileged w) z ≡ true
  in_unprivileged = unfold A.extra_unprivileged in simp quietly

ruleset elsewhere = (in_media, in_block, in_miscellaneous, in_halfword, in_multiply, in_synchronization, in_extra, in_unprivileged)

-- but for 15:8: a hint
module _ (w v : ℕ) (above : (lo k : ℕ) → leb 16 lo ≡ true → field v lo k ≡ field w lo k)
    (below : (lo k : ℕ) → leb (lo + k) 8 ≡ true → field v lo k ≡ field w lo k) where
  hint_data : keeps hints (A.data_processing w) (A.data_processing v) ≡ true
  hint_data = unfold A.data_processing in
      simp (alike, elsewhere, register, shifted, immediate, status, above, below)
    where
      register : (z : String) → keeps hints (A.data_processing_register w) z ≡ true
      register z = unfold A.data_processing_register in simp none

      shifted : (z : String) → keeps hints (A.data_processing_shifted w) z ≡ true
      shifted z = unfold A.data_processing_shifted in simp none

      immediate : (z : String) → keeps hints (A.data_processing_immediate w) z ≡ true
      immediate z = unfold A.data_processing_immediate in simp none

      status : A.msr_and_hints v ≡ A.msr_and_hints w
      status = unfold A.msr_and_hints in simp (above, below)

  pub hint_rows : keeps hints (table_row w) (table_row v) ≡ true
  hint_rows = unfold table_row in simp (alike, elsewhere, unconditional, loads, coprocessor, hint_data, above, below)
    where
      unconditional : (z : String) → keeps hints (A.unconditional w) z ≡ true
      unconditional z = unfold A.unconditional A.hints_and_simd in simp none

      loads : (z : String) → keeps hints (A.load_store w) z ≡ true
      loads z = unfold A.load_store in simp none

      coprocessor : (z : String) → keeps hints (A.coprocessor w) z ≡ true
      coprocessor z = unfold A.coprocessor in simp none

-- but for 19:16: a move or a shift
abbrev pub drawn_moves : List String
drawn_moves = shifts ++ moves

module _ (w v : ℕ) (above : (lo k : ℕ) → leb 20 lo ≡ true → field v lo k ≡ field w lo k)
    (below : (lo k : ℕ) → leb (lo + k) 16 ≡ true → field v lo k ≡ field w lo k) where
  move_data : keeps drawn_moves (A.data_processing w) (A.data_processing v) ≡ true
  move_data = unfold A.data_processing in
      simp (alike, elsewhere, register, shifted, immediate, status, above, below)
    where
      register : A.data_processing_register v ≡ A.data_processing_register w
      register = unfold A.data_processing_register in simp (above, below)

      shifted : A.data_processing_shifted v ≡ A.data_processing_shifted w
      shifted = unfold A.data_processing_shifted in simp (above, below)

      immediate : keeps drawn_moves (A.data_processing_immediate w) (A.data_processing_immediate v) ≡ true
      immediate = unfold A.data_processing_immediate in
          by_field w 24 1
          ((λ p. simp (none, op_bits, p)) also
          (λ p. by_field w 21 1
          ((λ b. simp (none, op_bits, both_false, p, b)) also
          (λ b. simp (alike, op_bits, both_false, above, p, b)) also tt)) also tt)

      status : (z : String) → keeps drawn_moves (A.msr_and_hints w) z ≡ true
      status z = unfold A.msr_and_hints in simp none

  pub move_rows : keeps drawn_moves (table_row w) (table_row v) ≡ true
  move_rows = unfold table_row in simp (alike, elsewhere, unconditional, loads, coprocessor, move_data, above, below)
    where
      unconditional : (z : String) → keeps drawn_moves (A.unconditional w) z ≡ true
      unconditional z = unfold A.unconditional A.hints_and_simd in simp none

      loads : (z : String) → keeps drawn_moves (A.load_store w) z ≡ true
      loads z = unfold A.load_store in simp none

      coprocessor : (z : String) → keeps drawn_moves (A.coprocessor w) z ≡ true
      coprocessor z = unfold A.coprocessor in simp none

-- but for bit 23: a load or store that adds a constant, and a preload
abbrev pub based : List String
based = displaced ++ preloads

module _ (w v : ℕ) (above : (lo k : ℕ) → leb 24 lo ≡ true → field v lo k ≡ field w lo k)
    (below : (lo k : ℕ) → leb (lo + k) 23 ≡ true → field v lo k ≡ field w lo k) where
  based_data : (z : String) → keeps based (A.data_processing w) z ≡ true
  based_data z = unfold A.data_processing in simp (either_row, elsewhere, register, shifted, immediate, status, silent, pick_same)
    where
      register : keeps based (A.data_processing_register w) z ≡ true
      register = unfold A.data_processing_register in simp none

      shifted : keeps based (A.data_processing_shifted w) z ≡ true
      shifted = unfold A.data_processing_shifted in simp none

      immediate : keeps based (A.data_processing_immediate w) z ≡ true
      immediate = unfold A.data_processing_immediate in simp none

      status : keeps based (A.msr_and_hints w) z ≡ true
      status = unfold A.msr_and_hints in simp none

  pub based_rows : keeps based (table_row w) (table_row v) ≡ true
  based_rows = unfold table_row in simp (alike, elsewhere, unconditional, loads, coprocessor, based_data, above, below)
    where
      loads : A.load_store v ≡ A.load_store w
      loads = unfold A.load_store in simp (op_bits, above, below)

      coprocessor : (z : String) → keeps based (A.coprocessor w) z ≡ true
      coprocessor z = unfold A.coprocessor in simp none

      -- a preload has 27:25 = 010
      preload : field w 25 3 ≡ 2 → keeps based (A.hints_and_simd w) (A.hints_and_simd v) ≡ true
      preload g = unfold A.hints_and_simd in simp (alike, seven_bits, above, below, g) (simp none)

      unconditional : keeps based (A.unconditional w) (A.unconditional v) ≡ true
      unconditional = unfold A.unconditional in
          by_field w 25 3
          ((λ g. unfold A.hints_and_simd in simp (none, seven_bits, eight_bits, g)) also
          (λ g. unfold A.hints_and_simd in simp (none, seven_bits, eight_bits, g)) also
          (λ g. simp (preload g, eight_bits, above, g)) also
          (λ g. unfold A.hints_and_simd in simp (none, seven_bits, eight_bits, g)) also
          (λ g. simp (none, eight_bits, g)) also (λ g. simp (none, eight_bits, g)) also (λ g. simp (none, eight_bits, g)) also
          (λ g. simp (none, eight_bits, g)) also tt)

-- tables that lead to no ldc or stc
module _ (w : ℕ) (z : String) where
  transfer_data : keeps coprocessor_transfers (A.data_processing w) z ≡ true
  transfer_data = unfold A.data_processing in simp (either_row, elsewhere, register, shifted, immediate, status, silent, pick_same)
    where
      register : keeps coprocessor_transfers (A.data_processing_register w) z ≡ true
      register = unfold A.data_processing_register in simp none

      shifted : keeps coprocessor_transfers (A.data_processing_shifted w) z ≡ true
      shifted = unfold A.data_processing_shifted in simp none

      immediate : keeps coprocessor_transfers (A.data_processing_immediate w) z ≡ true
      immediate = unfold A.data_processing_immediate in simp none

      status : keeps coprocessor_transfers (A.msr_and_hints w) z ≡ true
      status = unfold A.msr_and_hints in simp none

  transfer_unconditional : keeps coprocessor_transfers (A.unconditional w) z ≡ true
  transfer_unconditional = unfold A.unconditional A.hints_and_simd in simp none

  transfer_loads : keeps coprocessor_transfers (A.load_store w) z ≡ true
  transfer_loads = unfold A.load_store in simp none

  -- so that they are coprocessor words
  other_rows : both (not (eqb (field w 28 4) 15)) (eqb (field w 26 2) 3) ≡ false → keeps coprocessor_transfers (table_row w) z ≡ true
  other_rows outside = unfold table_row in
      by_test (eqb (field w 28 4) 15)
      (λ c. simp (transfer_unconditional, c))
      (λ c. by_field w 25 3
      ((λ g. simp (transfer_data, c, g)) also (λ g. simp (transfer_data, c, g)) also
      (λ g. simp (transfer_loads, c, g)) also
      (λ g. simp (none, elsewhere, transfer_loads, c, g)) also
      (λ g. simp (elsewhere, c, g)) also (λ g. simp (elsewhere, c, g)) also
      (λ g. absurd (no_true (simp (c, group_26_2, g) at outside))) also
      (λ g. absurd (no_true (simp (c, group_26_2, g) at outside))) also tt))

pub no_transfer : (w : ℕ) → both (not (eqb (field w 28 4) 15)) (eqb (field w 26 2) 3) ≡ false → is_among (table_row w) coprocessor_transfers ≡ true → ⊥
no_transfer w outside is =
    let empty : table_row w ≡ "" = kept_row coprocessor_transfers (table_row w) "" (other_rows w "" outside) is in
    no_true (sym (subst (λ (s : String). is_among s coprocessor_transfers ≡ true) empty is))

-- but for bits 23 and 21: ldc and stc, if one of P, U, D and W is set in both
abbrev pub all_clear : ℕ → ℕ → ℕ → ℕ → Bool
all_clear p u d b = both (eqb p 0) (both (eqb u 0) (both (eqb d 0) (both (eqb b 0) true)))

module _ (w v : ℕ) (above : (lo k : ℕ) → leb 24 lo ≡ true → field v lo k ≡ field w lo k)
    (between : field v 22 1 ≡ field w 22 1)
    (below : (lo k : ℕ) → leb (lo + k) 21 ≡ true → field v lo k ≡ field w lo k)
    (four : eqb (field v 20 6) 4 ≡ false) (five : eqb (field v 20 6) 5 ≡ false)
    (some : all_clear (field w 24 1) (field v 23 1) (field w 22 1) (field v 21 1) ≡ false) where
  transfer_table : keeps coprocessor_transfers (A.coprocessor w) (A.coprocessor v) ≡ true
  transfer_table = unfold A.coprocessor in
      by_test (eqb (field w 20 6) 4) (λ e. simp (none, e)) λ n4.
      by_test (eqb (field w 20 6) 5) (λ e. simp (none, e)) λ n5.
      by_field w 25 1
      ((λ t. by_test (all_clear (field w 24 1) (field w 23 1) (field w 22 1) (field w 21 1))
      (λ z. simp (none, all_six, t, z))
      (λ z. simp (four, five, n4, n5) (simp (alike, all_six, above, between, below, t, z, some)))) also
      (λ t. simp (none, all_six, t)) also tt)

  pub transfer_rows : keeps coprocessor_transfers (table_row w) (table_row v) ≡ true
  transfer_rows = unfold table_row in
      simp (alike, elsewhere, transfer_unconditional, transfer_loads, transfer_table, transfer_data, above, below)
