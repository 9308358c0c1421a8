-- Where a table leads to another, by the values of its columns. Assumes nothing.
use Rattle.std.proofs.Common.{◌≡◌, refl, sym, subst, ◌∙◌, Bool, true, false, ℕ, ◌/◌, ◌%◌, ◌<◌, arith, ne_eqb, eqb-true, T, eqb, eqb→eq}
use Rattle.std.proofs.lemmas.Bool.{eqb-false}
use Prim.Native.String.{String}
use Rattle.word.specs.Choice.{pick, by_test}
use Rattle.word.specs.Every.{at_each}
use Rattle.word.specs.Field.{field, small}
use Rattle.manual.specs.A5 as A5
use Rattle.manual.specs.Pattern.{like}
use Rattle.manual_tables.specs.Titles.{number_of, Numbered}
use Rattle.manual_tables.proofs.Place.{tests_alike}
use Rattle.manual_tables.proofs.Parts.{media_op1, unconditional_op1, both_false, pick_same}

-- a row that stands in another table
pub lead : {s t : String} {n : ℕ} → s ≡ t → Numbered t n → Numbered s n
lead {n = n} e h = subst (λ (x : String). Numbered x n) (sym e) h

pub msr_number : Numbered "MSR (immediate)" 110
msr_number = unfold number_of in record { number = refl; known = omega arith }

-- four bits that are not zero, by the one that is set
abbrev is_some : ℕ → Bool
is_some v = pick (eqb v 0) true (pick (eqb v 4) true (pick (eqb (v / 2 % 2) 1) true (pick (eqb (v / 1 % 2) 1) true (eqb (v / 8 % 2) 1))))

some_bit : (v : ℕ) → v < 16 → T (is_some v)
some_bit v h = at_each is_some 16 tt v h

-- the highest of four bits
eighth : (v : ℕ) → 7 < v → v < 16 → v / 8 % 2 ≡ 1
eighth v l h = omega arith

module _ (w : ℕ) where
  control_is : pick (eqb (field w 20 5 % 2) 0) (eqb (field w 20 5 / 8) 2) false ≡ like (field w 20 5) "10xx0"
  control_is = tests_alike (λ v. pick (eqb (v % 2) 0) (eqb (v / 8) 2) false) (λ v. like v "10xx0") 32 tt (field w 20 5) (small w 20 5)

  pub control_even : field w 20 5 % 2 ≡ 0 → eqb (field w 20 5 / 8) 2 ≡ like (field w 20 5) "10xx0"
  control_even e = simp e at control_is

  pub control_odd : (field w 20 5 % 2 ≡ 0 → ⊥) → false ≡ like (field w 20 5) "10xx0"
  control_odd h = simp (ne_eqb (field w 20 5 % 2) 0 h) at control_is

  hint_is : pick (eqb (field w 20 5) 18) true (eqb (field w 20 5) 22) ≡ like (field w 20 5) "10x10"
  hint_is = tests_alike (λ v. pick (eqb v 18) true (eqb v 22)) (λ v. like v "10x10") 32 tt (field w 20 5) (small w 20 5)

  pub hint_18 : field w 20 5 ≡ 18 → true ≡ like (field w 20 5) "10x10"
  hint_18 e = rw e

  pub hint_22 : (field w 20 5 ≡ 18 → ⊥) → eqb (field w 20 5) 22 ≡ like (field w 20 5) "10x10"
  hint_22 h = simp (ne_eqb (field w 20 5) 18 h) at hint_is

  -- table A5-1
  pub to_unconditional : field w 28 4 ≡ 15 → A5.table_row w ≡ A5.unconditional w
  to_unconditional cond = unfold A5.table_row in simp cond

  module _ (cond : field w 28 4 ≡ 15 → ⊥) where
    below_15 : eqb (field w 28 4) 15 ≡ false
    below_15 = ne_eqb _ _ cond

    pub to_data_processing : field w 25 3 < 2 → A5.table_row w ≡ A5.data_processing w
    to_data_processing h = unfold A5.table_row in
        let a : field w 25 3 / 4 % 2 ≡ 0 = omega arith in
        let b : field w 25 3 / 2 % 2 ≡ 0 = omega arith in
        simp (below_15, a, b)

    pub to_load_store : field w 25 3 ≡ 2 → A5.table_row w ≡ A5.load_store w
    to_load_store e = unfold A5.table_row in simp (below_15, e)

    pub to_load_store_index : field w 25 3 ≡ 3 → field w 4 1 ≡ 0 → A5.table_row w ≡ A5.load_store w
    to_load_store_index e f = unfold A5.table_row in simp (below_15, e, f)

    pub to_media : field w 25 3 ≡ 3 → field w 4 1 ≡ 1 → A5.table_row w ≡ A5.media w
    to_media e f = unfold A5.table_row in simp (below_15, e, f)

    pub to_branch_and_block : 3 < field w 25 3 → field w 25 3 < 6 → A5.table_row w ≡ A5.branch_and_block w
    to_branch_and_block l h = unfold A5.table_row in
        let a : field w 25 3 / 4 % 2 ≡ 1 = omega arith in
        let b : field w 25 3 / 2 % 2 ≡ 0 = omega arith in
        simp (below_15, a, b, ne_eqb (field w 25 3) 2 (λ e. omega arith), ne_eqb (field w 25 3) 3 (λ e. omega arith))

    pub to_coprocessor : 5 < field w 25 3 → A5.table_row w ≡ A5.coprocessor w
    to_coprocessor l = unfold A5.table_row in
        let a : field w 25 3 / 4 % 2 ≡ 1 = omega (arith, small w 25 3) in
        let b : field w 25 3 / 2 % 2 ≡ 1 = omega (arith, small w 25 3) in
        simp (below_15, a, b, ne_eqb (field w 25 3) 2 (λ e. omega arith), ne_eqb (field w 25 3) 3 (λ e. omega arith))

  -- table A5-2
  pub to_hints : field w 25 1 ≡ 1 → like (field w 20 5) "10x10" ≡ true → A5.data_processing w ≡ A5.msr_and_hints w
  to_hints op h = unfold A5.data_processing in
      by_test (eqb (field w 20 5) 18)
      (λ e. simp (op, eqb-true (field w 20 5) 18 e))
      (λ e. simp (op, eqb-true (field w 20 5) 22 (simp e at (hint_is ∙ h))))

  module _ (op : field w 25 1 ≡ 0) where
    pub to_register : like (field w 20 5) "10xx0" ≡ false → field w 4 4 % 2 ≡ 0 → A5.data_processing w ≡ A5.data_processing_register w
    to_register h e = unfold A5.data_processing in
        let a : field w 4 4 / 1 % 2 ≡ 0 = omega arith in
        simp (op, h, a)

    pub to_shifted : like (field w 20 5) "10xx0" ≡ false → field w 4 4 % 2 ≡ 1 → field w 4 4 < 8 → A5.data_processing w ≡ A5.data_processing_shifted w
    to_shifted h e l = unfold A5.data_processing in
        let a : field w 4 4 / 1 % 2 ≡ 1 = omega arith in
        let b : field w 4 4 / 8 % 2 ≡ 0 = omega arith in
        simp (op, h, a, b)

    pub to_miscellaneous : like (field w 20 5) "10xx0" ≡ true → field w 4 4 < 8 → A5.data_processing w ≡ A5.miscellaneous w
    to_miscellaneous h l = unfold A5.data_processing in
        let b : field w 4 4 / 8 % 2 ≡ 0 = omega arith in
        simp (op, h, b)

    pub to_halfword_multiply : like (field w 20 5) "10xx0" ≡ true → field w 4 4 % 2 ≡ 0 → 7 < field w 4 4
        → A5.data_processing w ≡ A5.halfword_multiply w
    to_halfword_multiply h e l = unfold A5.data_processing in
        let a : field w 4 4 / 1 % 2 ≡ 0 = omega arith in
        simp (op, h, a, eighth (field w 4 4) l (small w 4 4))

    pub to_multiply : field w 4 4 ≡ 9 → field w 20 5 < 16 → A5.data_processing w ≡ A5.multiply w
    to_multiply e l = unfold A5.data_processing in
        let a : field w 20 5 / 16 % 2 ≡ 0 = omega arith in
        simp (op, e, a)

    pub to_synchronization : field w 4 4 ≡ 9 → 15 < field w 20 5 → A5.data_processing w ≡ A5.synchronization w
    to_synchronization e l = unfold A5.data_processing in
        let a : field w 20 5 / 16 % 2 ≡ 1 = omega (arith, small w 20 5) in
        simp (op, e, a, both_false)

    module _ (e : field w 4 4 ≡ 11) where
      pub half_to_unprivileged : field w 20 5 < 16 → field w 20 5 / 2 % 2 ≡ 1 → A5.data_processing w ≡ A5.extra_unprivileged w
      half_to_unprivileged l b = unfold A5.data_processing in
          let a : field w 20 5 / 16 % 2 ≡ 0 = omega arith in
          simp (op, e, a, b, both_false)

      pub half_to_extra : field w 20 5 < 16 → field w 20 5 / 2 % 2 ≡ 0 → A5.data_processing w ≡ A5.extra_load_store w
      half_to_extra l b = unfold A5.data_processing in
          let a : field w 20 5 / 16 % 2 ≡ 0 = omega arith in
          simp (op, e, a, b)

      pub half_to_extra_above : 15 < field w 20 5 → A5.data_processing w ≡ A5.extra_load_store w
      half_to_extra_above l = unfold A5.data_processing in
          let a : field w 20 5 / 16 % 2 ≡ 1 = omega (arith, small w 20 5) in
          simp (op, e, a, both_false)

    module _ (x : field w 4 4 / 8 % 2 ≡ 1) (y : field w 4 4 / 4 % 2 ≡ 1) (z : field w 4 4 / 1 % 2 ≡ 1) where
      not_9 : eqb (field w 4 4) 9 ≡ false
      not_9 = ne_eqb (field w 4 4) 9 (λ e. let h : ◌≡◌ {A = ℕ} 0 1 = rw e at y in omega arith)

      not_11 : eqb (field w 4 4) 11 ≡ false
      not_11 = ne_eqb (field w 4 4) 11 (λ e. let h : ◌≡◌ {A = ℕ} 0 1 = rw e at y in omega arith)

      pub double_to_unprivileged : field w 20 5 < 16 → field w 20 5 / 2 % 2 ≡ 1 → field w 20 5 % 2 ≡ 1 → A5.data_processing w ≡ A5.extra_unprivileged w
      double_to_unprivileged l b d = unfold A5.data_processing in
          let a : field w 20 5 / 16 % 2 ≡ 0 = omega arith in
          let f : field w 20 5 / 1 % 2 ≡ 1 = omega arith in
          simp (op, x, y, z, not_9, not_11, a, b, f)

      pub double_to_extra_last : field w 20 5 < 16 → field w 20 5 / 2 % 2 ≡ 1 → field w 20 5 % 2 ≡ 0 → A5.data_processing w ≡ A5.extra_load_store w
      double_to_extra_last l b d = unfold A5.data_processing in
          let a : field w 20 5 / 16 % 2 ≡ 0 = omega arith in
          let f : field w 20 5 / 1 % 2 ≡ 0 = omega arith in
          simp (op, x, y, z, not_9, not_11, a, b, f)

      pub double_to_extra : field w 20 5 < 16 → field w 20 5 / 2 % 2 ≡ 0 → A5.data_processing w ≡ A5.extra_load_store w
      double_to_extra l b = unfold A5.data_processing in
          let a : field w 20 5 / 16 % 2 ≡ 0 = omega arith in
          simp (op, x, y, z, not_9, not_11, a, b)

      pub double_to_extra_above : 15 < field w 20 5 → A5.data_processing w ≡ A5.extra_load_store w
      double_to_extra_above l = unfold A5.data_processing in
          let a : field w 20 5 / 16 % 2 ≡ 1 = omega (arith, small w 20 5) in
          simp (op, x, y, z, not_9, not_11, both_false, a)

  -- table A5-13: every op1 but 0
  pub to_msr_some : field w 22 1 ≡ 0 → (field w 16 4 ≡ 0 → ⊥) → A5.msr_and_hints w ≡ "MSR (immediate)"
  unfolding A5.msr_and_hints
  to_msr_some op some =
      by_test (eqb (field w 16 4 / 2 % 2) 1)
      (λ e. simp (op, ne_eqb (field w 16 4) 0 some, eqb-true (field w 16 4 / 2 % 2) 1 e, pick_same))
      (λ e. by_test (eqb (field w 16 4 / 1 % 2) 1)
      (λ f. simp (op, ne_eqb (field w 16 4) 0 some, even (field w 16 4 / 2) e, eqb-true (field w 16 4 / 1 % 2) 1 f, pick_same))
      (λ f. by_test (eqb (field w 16 4) 4)
      (λ g. simp (op, eqb-true (field w 16 4) 4 g))
      (λ g. simp (op, ne_eqb (field w 16 4) 0 some, g, even (field w 16 4 / 2) e, even (field w 16 4 / 1) f, last e f g))))
    where
      even : (v : ℕ) → eqb (v % 2) 1 ≡ false → v % 2 ≡ 0
      even v e = let h : v % 2 ≡ 1 → ⊥ = eqb-false (v % 2) 1 e in omega arith

      last : eqb (field w 16 4 / 2 % 2) 1 ≡ false → eqb (field w 16 4 / 1 % 2) 1 ≡ false → eqb (field w 16 4) 4 ≡ false → field w 16 4 / 8 % 2 ≡ 1
      last e f g = eqb→eq (field w 16 4 / 8 % 2) 1 (simp (ne_eqb (field w 16 4) 0 some, g, e, f) at (some_bit (field w 16 4) (small w 16 4)))

  pub to_msr : field w 22 1 ≡ 1 → A5.msr_and_hints w ≡ "MSR (immediate)"
  to_msr op = unfold A5.msr_and_hints in simp op

  -- table A5-16
  pub to_parallel_signed : field w 20 5 < 4 → A5.media w ≡ A5.parallel_signed w
  to_parallel_signed l = unfold A5.media in
      let a : field w 20 5 / 16 % 2 ≡ 0 = omega arith in
      let b : field w 20 5 / 8 % 2 ≡ 0 = omega arith in
      let d : field w 20 5 / 4 % 2 ≡ 0 = omega arith in
      simp (a, b, d)

  pub to_parallel_unsigned : 3 < field w 20 5 → field w 20 5 < 8 → A5.media w ≡ A5.parallel_unsigned w
  to_parallel_unsigned h l = unfold A5.media in
      let a : field w 20 5 / 16 % 2 ≡ 0 = omega arith in
      let b : field w 20 5 / 8 % 2 ≡ 0 = omega arith in
      let d : field w 20 5 / 4 % 2 ≡ 1 = omega arith in
      simp (a, b, d)

  pub to_packing : 7 < field w 20 5 → field w 20 5 < 16 → A5.media w ≡ A5.packing w
  to_packing h l = unfold A5.media in
      let a : field w 20 5 / 16 % 2 ≡ 0 = omega arith in
      let b : field w 20 5 / 8 % 2 ≡ 1 = omega arith in
      simp (a, b)

  pub to_signed_multiply : 15 < field w 20 5 → field w 20 5 < 24 → A5.media w ≡ A5.signed_multiply w
  to_signed_multiply h l = unfold A5.media in
      let a : field w 20 5 / 16 % 2 ≡ 1 = omega arith in
      let b : field w 20 5 / 8 % 2 ≡ 0 = omega arith in
      simp (a, b)

  pub is_bit_fields : 23 < field w 20 5 → field w 23 2 ≡ 3
  is_bit_fields h = omega (arith, media_op1 w, small w 23 2, small w 20 3)

  -- table A5-23
  pub to_hints_and_simd : field w 20 8 < 128 → A5.unconditional w ≡ A5.hints_and_simd w
  to_hints_and_simd l = unfold A5.unconditional in
      let a : field w 20 8 / 128 % 2 ≡ 0 = omega arith in
      simp a

  pub is_upper : 127 < field w 20 8 → field w 27 1 ≡ 1
  is_upper h = omega (arith, unconditional_op1 w, small w 27 1, small w 20 7)
