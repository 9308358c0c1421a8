-- Condition 15: an answer leads back to its home word, which has it too. Assumes nothing.
use mathlib.Core.Path.{◌≡◌, refl, sym, subst}
use mathlib.Core.Bool.{true, false}
use mathlib.Core.List.{[], ◌∷◌}
use Prim.Native.Nat.{ℕ, ◌^◌, ◌<◌}
use native.Mathlib.Omega.{arith}
use borrow.Author.Tests.{ne_eqb}
use lib.Dec.{T, eqb, eqb→eq}
use lib.IntN.{nat_abs}
use Rattle.word.specs.Choice.{by_test}
use Rattle.word.specs.Every.{left, right}
use Rattle.word.specs.Field.{field, put, small, splits}
use Rattle.word.specs.Layout.{join, whole}
use Rattle.a32_ldst.specs.Mem.{disp_of}
use Rattle.a32_transfer.specs.Unconditional.{barrier_slot, preload_slot, unconditional_of}
use Rattle.insn_parts.specs.Operands.{sign_number}
use Rattle.insn_parts.specs.Parts.{up}
use Rattle.encode_home.specs.declared.Filler.{Filler}
use Rattle.encode_home.specs.declared.Filler.TheVariants.{Zeros}
use Rattle.encode_home.specs.Table.{filled, drawn, number, ones}
use Rattle.encode_home.specs.Home.{puts_of}
use Rattle.encode_home.specs.Word.{word_of}
use Rattle.encode_home.specs.WordTransfer.{preload_layout, barrier_layout}
use Rattle.encode_home.proofs.Leads.{apart, Settles, refuses, settles, reads, by_value, bit_cases, signed_back, refusal}
use Rattle.encode_home.proofs.BackBranch.{blx_back}
use Rattle.encode_home.proofs.Puts.{good, laid}

-- the three kinds of words are apart: 27:25 of a preload and of a barrier is 010, and 21:20 is 01 or 11
module _ (w : ℕ) where
  no_blx : field w 24 4 ≡ 5 → eqb (field w 25 3) 5 ≡ false
  no_blx five = ne_eqb (field w 25 3) 5 (λ is. omega (arith, splits w 24 3 1))

  barrier_no_blx : field w 8 20 ≡ 0x57ff0 → eqb (field w 25 3) 5 ≡ false
  barrier_no_blx is-barrier = ne_eqb (field w 25 3) 5 (λ is. omega (arith, splits w 8 3 17, small w 8 17))

  preload_no_barrier : field w 20 2 ≡ 1 → barrier_slot w ≡ false
  preload_no_barrier kind = unfold barrier_slot in ne_eqb (field w 8 20) 0x57ff0 (λ is. omega (arith, splits w 8 8 12, splits w 20 6 2, small w 8 12))

-- "27:24 = 0101, 15:12 = 15, 21:20 = 01"
module _ (w : ℕ) (bound : w < 2 ^ 32) (five : field w 24 4 ≡ 5) (pc : field w 12 4 ≡ 15) (kind : field w 20 2 ≡ 1) where
  slot : preload_slot w ≡ true
  slot = unfold preload_slot in simp (five, pc, kind)

  raised_slot : preload_slot (put w 23 1 1) ≡ true
  raised_slot = unfold preload_slot in simp (apart, five, pc, kind)

  here : eqb (field w 25 3) 5 ≡ false
  here = no_blx w five

  no_barrier : barrier_slot w ≡ false
  no_barrier = preload_no_barrier w kind

  still_no_barrier : barrier_slot (put w 23 1 1) ≡ false
  still_no_barrier = preload_no_barrier (put w 23 1 1) (simp apart kind)

  ruleset ways = (here, no_barrier, slot)

  -- 0 is added or subtracted alike
  none : field w 0 12 ≡ 0 → Settles good unconditional_of w
  unfolding puts_of word_of
  none z =
      settles (ones 23 23 ∷ []) tt
      (bit_cases w 22
      (λ r. bit_cases w 23
      (λ u. simp (ways, still_no_barrier, raised_slot, apart, z, r, u) (λ addr. ((λ c. refl), (refl, refl, word r))))
      (λ u. simp (ways, still_no_barrier, raised_slot, apart, z, r, u) (λ addr. ((λ c. refl), (refl, refl, word r)))))
      (λ r. bit_cases w 23
      (λ u. simp (ways, still_no_barrier, raised_slot, apart, z, r, u) (λ addr. ((λ c. refl), (refl, refl, word r))))
      (λ u. simp (ways, still_no_barrier, raised_slot, apart, z, r, u) (λ addr. ((λ c. refl), (refl, refl, word r))))))
    where
      word : {r : ℕ} → field w 22 1 ≡ r → join preload_layout (0 ∷ 15 ∷ field w 16 4 ∷ 1 ∷ r ∷ 1 ∷ 5 ∷ field w 28 4 ∷ []) ≡ put w 23 1 1
      word r = simp (apart, five, pc, kind, z, r) at (laid Zeros preload_layout (ones 23 23 ∷ []) tt w bound refl)

  some : eqb (field w 0 12) 0 ≡ false → Settles good unconditional_of w
  unfolding puts_of word_of
  some n =
      reads
      (bit_cases w 22
      (λ r. simp (ways, r, parts.0, parts.1, n) (λ addr. (refl, refl, word r)))
      (λ r. simp (ways, r, parts.0, parts.1, n) (λ addr. (refl, refl, word r))))
    where
      parts : (nat_abs (disp_of w (field w 0 12)) ≡ field w 0 12) × (up (sign_number (disp_of w (field w 0 12))) ≡ field w 23 1)
      parts = signed_back w (field w 0 12) n

      word : {r : ℕ} → field w 22 1 ≡ r
          → join preload_layout (field w 0 12 ∷ 15 ∷ field w 16 4 ∷ 1 ∷ r ∷ field w 23 1 ∷ 5 ∷ field w 28 4 ∷ []) ≡ w
      word r = simp (five, pc, kind, r) at (whole preload_layout w bound)

  preload : Settles good unconditional_of w
  preload = by_value w 0 12 0 none some

-- 02, P1: "27:8 is 0x57ff0"
slotted : (w : ℕ) → field w 8 20 ≡ 0x57ff0 → barrier_slot w ≡ true
slotted w is-barrier = unfold barrier_slot in simp is-barrier

module _ (w : ℕ) (bound : w < 2 ^ 32) (is-barrier : field w 8 20 ≡ 0x57ff0) where
  is_slot : barrier_slot w ≡ true
  is_slot = slotted w is-barrier

  still_slot : (c : Filler) → barrier_slot (put w 0 4 (number c drawn 4)) ≡ true
  still_slot c = slotted (put w 0 4 (number c drawn 4)) (simp apart is-barrier)

  there : eqb (field w 25 3) 5 ≡ false
  there = barrier_no_blx w is-barrier

  clrex : field w 4 4 ≡ 1 → Settles good unconditional_of w
  clrex op = unfold puts_of word_of in
      settles (filled 3 0 ∷ []) tt
      (simp (there, is_slot, still_slot, apart, op)
      (λ addr. ((λ c. refl), (refl, refl, simp (apart, is-barrier, op) at (laid Zeros barrier_layout (filled 3 0 ∷ []) tt w bound refl)))))

  -- dsb, dmb and isb
  optioned : {n : ℕ} → field w 4 4 ≡ n → join barrier_layout (field w 0 4 ∷ n ∷ 0x57ff0 ∷ field w 28 4 ∷ []) ≡ w
  optioned op = simp (is-barrier, op) at (whole barrier_layout w bound)

  barrier : Settles good unconditional_of w
  barrier = unfold puts_of word_of in
      by_value w 4 4 1 clrex λ n1.
      by_value w 4 4 4 (λ op. reads (simp (there, is_slot, op) (λ addr. (refl, refl, optioned op)))) λ n4.
      by_value w 4 4 5 (λ op. reads (simp (there, is_slot, op) (λ addr. (refl, refl, optioned op)))) λ n5.
      by_value w 4 4 6 (λ op. reads (simp (there, is_slot, op) (λ addr. (refl, refl, optioned op)))) λ n6.
      refuses (λ addr ok. refusal (simp (there, is_slot, n1, n4, n5, n6) at ok))

pub unconditional_settles : (w : ℕ) → w < 2 ^ 32 → Settles good unconditional_of w
unconditional_settles w bound = unfold barrier_slot preload_slot in
    by_value w 25 3 5 (λ g. reads (simp g (blx_back w bound g))) λ g.
    by_value w 8 20 0x57ff0 (barrier w bound) λ nb.
    by_test (preload_slot w)
    (λ is. let t : T (preload_slot w) = subst T (sym is) tt in
    preload w bound
    (eqb→eq _ 5 (left (eqb (field w 24 4) 5) _ t))
    (eqb→eq _ 15 (left (eqb (field w 12 4) 15) _ (right (eqb (field w 24 4) 5) _ t)))
    (eqb→eq _ 1 (right (eqb (field w 12 4) 15) _ (right (eqb (field w 24 4) 5) _ t))))
    (λ np. refuses (λ addr ok. refusal (simp (g, nb, np) at ok)))
