-- Immediate data processing: an answer leads back to its home word, which has it too. Assumes nothing.
use mathlib.Core.Path.{◌≡◌, refl, ◌∙◌}
use mathlib.Core.Bool.{Bool, true, false, not}
use mathlib.Core.List.{[], ◌∷◌, ◌++◌}
use Prim.Native.Nat.{ℕ, ◌+◌, ◌*◌, ◌^◌, ◌<◌}
use native.Mathlib.Omega.{arith}
use borrow.Author.Tests.{eqb-true, eqb-false, ne_eqb}
use lib.Dec.{eqb}
use Rattle.word.specs.Choice.{pick, by_test, tested, parts, fails}
use Rattle.word.specs.Field.{field, put, small, splits}
use Rattle.word.specs.Layout.{join, joined, whole, upper, lower}
use Rattle.insn.specs.declared.Flow.TheVariants.{Next}
use Rattle.a32_shared.specs.Row.{pc_flow}
use Rattle.a32_imm.specs.Imm.{least_of, imm_of}
use Rattle.a32_dp.specs.Names.{dp_name}
use Rattle.a32_dp.specs.DpImm.{dp_imm_of, hint_slot, msr_of, to_pc}
use Rattle.encode_home.specs.declared.Filler.{Filler}
use Rattle.encode_home.specs.declared.Filler.TheVariants.{Zeros}
use Rattle.encode_home.specs.Table.{Put, zeros, filled, drawn, number}
use Rattle.encode_home.specs.Home.{puts_of, put_all}
use Rattle.encode_home.specs.Word.{word_of}
use Rattle.encode_home.specs.WordDp.{wide_layout, hint_layout, msr_layout, source12}
use Rattle.encode_home.proofs.BackDp.{Gives, no_rd, mov_puts, mvn_puts, compare_back, move_back, plain_back}
use Rattle.encode_home.proofs.BackImm.{imm_one, imm_two}
use Rattle.encode_home.proofs.Leads.{apart, Back, Settles, refuses, settles, reads, by_value, bit_cases, refusal}
use Rattle.encode_home.proofs.Puts.{low, laid}

-- the puts leave hints and msr what they are
module _ (w : ℕ) where
  still_hint : hint_slot w ≡ true → hint_slot (put w 8 4 0) ≡ true
  still_hint is = unfold hint_slot in simp apart is

  still_masked : field w 22 1 ≡ 0 → eqb (joined w 22 1 16 4) 0 ≡ false → (c : Filler) → hint_slot (put w 12 4 (number c drawn 4)) ≡ false
  still_masked clear some c = unfold hint_slot in simp (apart, ne_eqb (field w 16 4) 0 (λ e. eqb-false (joined w 22 1 16 4) 0 some (omega (arith, e, clear))))

  still_msr : hint_slot (put w 12 4 0) ≡ false
  still_msr = unfold hint_slot in simp (apart, fails)

module _ (w : ℕ) (bound : w < 2 ^ 32) (group : field w 25 3 ≡ 1) where
  wide_word : {n : ℕ} → field w 20 5 ≡ n → join wide_layout (field w 0 12 ∷ field w 12 4 ∷ field w 16 4 ∷ n ∷ 1 ∷ field w 28 4 ∷ []) ≡ w
  wide_word op = simp (op, group) at (whole wide_layout w bound)

  movw : field w 20 5 ≡ 16 → Settles low dp_imm_of w
  movw op = unfold puts_of word_of in reads (simp (op, upper w 16 4 0 12, lower w 16 4 0 12) (λ addr. (refl, refl, wide_word op)))

  movt : field w 20 5 ≡ 20 → Settles low dp_imm_of w
  movt op = unfold puts_of word_of in reads (simp (op, upper w 16 4 0 12, lower w 16 4 0 12) (λ addr. (refl, refl, wide_word op)))

  -- the hints ignore 11:8
  hint_word : field w 20 5 ≡ 18 → hint_slot w ≡ true → {n : ℕ} → field w 0 8 ≡ n
      → join hint_layout (n ∷ 0 ∷ 15 ∷ 0 ∷ 18 ∷ 1 ∷ field w 28 4 ∷ []) ≡ put w 8 4 0
  hint_word op hint is = unfold hint_slot in
      simp (
        apart,
        op,
        group,
        is,
        eqb-true (field w 16 4) 0 (parts _ (eqb (field w 12 4) 15) hint).0,
        eqb-true (field w 12 4) 15 (parts (eqb (field w 16 4) 0) _ hint).1,
      )
      at (laid Zeros hint_layout (zeros 11 8 ∷ []) tt w bound refl)

  hint : field w 20 5 ≡ 18 → hint_slot w ≡ true → Settles low dp_imm_of w
  hint op slot = unfold puts_of word_of in
      by_value w 0 8 0 (λ n. settles (zeros 11 8 ∷ []) tt (simp (apart, op, slot, still_hint w slot, n)
      (λ addr. ((λ c. refl), (refl, refl, hint_word op slot n))))) λ n0.
      by_value w 0 8 1 (λ n. settles (zeros 11 8 ∷ []) tt (simp (apart, op, slot, still_hint w slot, n)
      (λ addr. ((λ c. refl), (refl, refl, hint_word op slot n))))) λ n1.
      by_value w 0 8 2 (λ n. settles (zeros 11 8 ∷ []) tt (simp (apart, op, slot, still_hint w slot, n)
      (λ addr. ((λ c. refl), (refl, refl, hint_word op slot n))))) λ n2.
      by_value w 0 8 3 (λ n. settles (zeros 11 8 ∷ []) tt (simp (apart, op, slot, still_hint w slot, n)
      (λ addr. ((λ c. refl), (refl, refl, hint_word op slot n))))) λ n3.
      by_value w 0 8 4 (λ n. settles (zeros 11 8 ∷ []) tt (simp (apart, op, slot, still_hint w slot, n)
      (λ addr. ((λ c. refl), (refl, refl, hint_word op slot n))))) λ n4.
      refuses (λ addr ok. refusal (simp (op, slot, n0, n1, n2, n3, n4) at ok))

  -- msr, of which 24:20 is 10r10, ignores 15:12; with mask 0 and bit 22 clear ones there would make it a hint
  abbrev fill : Bool → Put
  fill maskless = pick maskless (zeros 15 12) (filled 15 12)

  msr_back : (r : ℕ) → r < 2 → field w 20 5 ≡ 18 + 4 * r → {b : Bool} → eqb (joined w 22 1 16 4) 0 ≡ b → (addr : ℕ) → Back (fill b ∷ []) w (msr_of w addr)
  unfolding puts_of word_of
  msr_back r bit op {b} masked addr =
      by_test (least_of (field w 0 12))
      (λ least. simp (least, masked, upper w 22 1 16 4, lower w 22 1 16 4, imm_one (field w 0 12) (small w 0 12) true least) (refl, puts b, word ∙ zero b))
      (λ turned. simp (turned, masked, upper w 22 1 16 4, lower w 22 1 16 4, imm_two (field w 0 12) (small w 0 12)) (refl, puts b, word ∙ zero b))
    where
      ten : field w 20 2 ≡ 2
      ten = omega (arith, splits w 20 3 2, small w 20 2)

      two : field w 23 2 ≡ 2
      two = omega (arith, splits w 20 3 2, splits w 22 2 1, small w 20 2, small w 22 1)

      word : join msr_layout (field w 0 12 ∷ 0 ∷ field w 16 4 ∷ 2 ∷ field w 22 1 ∷ 2 ∷ 1 ∷ field w 28 4 ∷ []) ≡ put w 12 4 0
      word = simp (apart, ten, two, group) at (laid Zeros msr_layout (zeros 15 12 ∷ []) tt w bound refl)

      puts : (b : Bool) → (pick b (zeros 15 12 ∷ []) [] ++ (pick (not b) (filled 15 12 ∷ []) [] ++ [])) ≡ fill b ∷ []
      puts true = refl
      puts false = refl

      zero : (b : Bool) → put w 12 4 0 ≡ put_all Zeros (fill b ∷ []) w
      zero true = refl
      zero false = refl

  msr_low : field w 20 5 ≡ 18 → hint_slot w ≡ false → Settles low dp_imm_of w
  msr_low op slot =
      by_test (eqb (joined w 22 1 16 4) 0)
      (λ none. settles (zeros 15 12 ∷ []) tt (simp (apart, op, slot, still_msr w) (λ addr. ((λ c. refl), msr_back 0 (omega arith) op none addr))))
      (λ some. settles (filled 15 12 ∷ []) tt
      (simp (apart, op, slot, still_masked w clear some) (λ addr. ((λ c. refl), msr_back 0 (omega arith) op some addr))))
    where
      clear : field w 22 1 ≡ 0
      clear = omega (arith, splits w 20 3 2, splits w 22 2 1, small w 20 2, small w 22 1)

  msr_high : field w 20 5 ≡ 22 → Settles low dp_imm_of w
  msr_high op = settles (filled 15 12 ∷ []) tt (simp (apart, op) (λ addr. ((λ c. refl), msr_back 1 (omega arith) op some addr)))
    where
      some : eqb (joined w 22 1 16 4) 0 ≡ false
      some = ne_eqb (joined w 22 1 16 4) 0 (λ e. omega (arith, e, splits w 20 3 2, splits w 22 2 1, small w 20 2, small w 22 1))

-- the operations
module _ (w : ℕ) (bound : w < 2 ^ 32) (group : field w 25 3 ≡ 1)
    (n16 : eqb (field w 20 5) 16 ≡ false) (n20 : eqb (field w 20 5) 20 ≡ false)
    (n18 : eqb (field w 20 5) 18 ≡ false) (n22 : eqb (field w 20 5) 22 ≡ false) where
  -- a compare of the group sets the flags
  sets : field w 23 2 ≡ 2 → field w 20 1 ≡ 1
  sets is =
      bit_cases w 20
      (λ s.
      let d16 : field w 20 5 ≡ 16 → ⊥ = eqb-false (field w 20 5) 16 n16 in
      let d18 : field w 20 5 ≡ 18 → ⊥ = eqb-false (field w 20 5) 18 n18 in
      let d20 : field w 20 5 ≡ 20 → ⊥ = eqb-false (field w 20 5) 20 n20 in
      let d22 : field w 20 5 ≡ 22 → ⊥ = eqb-false (field w 20 5) 22 n22 in
      omega (arith, splits w 20 4 1, splits w 21 2 2, small w 21 2))
      (λ s. s)

  value_gives : (unsigned : Bool) → Gives w 1 (imm_of (field w 0 12) unsigned)
  value_gives unsigned = unfold source12 in
      tested (Gives w 1) (least_of (field w 0 12))
      (λ least. (imm_one (field w 0 12) (small w 0 12) unsigned least, refl))
      (λ turned. (imm_two (field w 0 12) (small w 0 12), refl))

  rd_keeps : field w 23 2 ≡ 2 → (addr : ℕ) → dp_imm_of (put w 12 4 0) addr ≡ dp_imm_of w addr
  rd_keeps compare addr = unfold dp_name in simp (apart, n16, n20, n18, n22, compare)

  mov_keeps : eqb (field w 23 2) 2 ≡ false → field w 21 4 ≡ 13 → (addr : ℕ) → dp_imm_of (put w 16 4 0) addr ≡ dp_imm_of w addr
  mov_keeps other mov addr = unfold dp_name in simp (apart, n16, n20, n18, n22, other, mov)

  mvn_keeps : eqb (field w 23 2) 2 ≡ false → field w 21 4 ≡ 15 → (addr : ℕ) → dp_imm_of (put w 16 4 0) addr ≡ dp_imm_of w addr
  mvn_keeps other mvn addr = unfold dp_name in simp (apart, n16, n20, n18, n22, other, mvn)

  operations : Settles low dp_imm_of w
  operations =
      by_value w 23 2 2
      (λ is.
      settles (zeros 15 12 ∷ []) tt
      (λ addr. (
        λ c. rd_keeps is addr,
        simp (n16, n20, n18, n22, is) (compare_back w 1 bound group Next is (sets is) (zeros 15 12 ∷ []) refl (no_rd w 1 bound group)
            (imm_of (field w 0 12) false) (value_gives false) addr),
      )))
      λ other.
      by_value w 21 4 13
      (λ op.
      settles (zeros 19 16 ∷ []) tt
      (λ addr. (
        λ c. mov_keeps other op addr,
        simp (n16, n20, n18, n22, other, op)
            (move_back w 1 bound group (pc_flow w) 13 refl (λ x y. refl) op (λ a c f o. mov_puts w a c f o op) (imm_of (field w 0 12) (to_pc w))
            (value_gives (to_pc w)) addr),
      )))
      λ n13.
      by_value w 21 4 15
      (λ op.
      settles (zeros 19 16 ∷ []) tt
      (λ addr. (
        λ c. mvn_keeps other op addr,
        simp (n16, n20, n18, n22, other, op)
            (move_back w 1 bound group (pc_flow w) 15 refl (λ x y. refl) op (λ a c f o. mvn_puts w a c f o op) (imm_of (field w 0 12) false)
            (value_gives false) addr),
      )))
      λ n15.
      reads (simp (n16, n20, n18, n22, other, n13, n15) (plain_back w 1 bound group (pc_flow w) other n13 n15 (imm_of (field w 0 12) false)
      (value_gives false)))

pub dp_imm_settles : (w : ℕ) → w < 2 ^ 32 → field w 25 3 ≡ 1 → Settles low dp_imm_of w
dp_imm_settles w bound group =
    by_value w 20 5 16 (movw w bound group) λ n16.
    by_value w 20 5 20 (movt w bound group) λ n20.
    by_value w 20 5 18 (λ op. by_test (hint_slot w) (hint w bound group op) (msr_low w bound group op)) λ n18.
    by_value w 20 5 22 (msr_high w bound group) λ n22.
    operations w bound group n16 n20 n18 n22
