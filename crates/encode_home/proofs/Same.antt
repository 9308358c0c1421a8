-- Demand 3: a home word has its word's answer, an answer leads back to its home word, and so two words have one answer
-- exactly if they have one home word. Assumes nothing.
use mathlib.Core.Path.{◌≡◌, refl, sym, ap, ◌∙◌, subst}
use Rattle.word.specs.Refusal.{refused_with}
use mathlib.Core.Bool.{Bool, true, false}
use mathlib.Core.List.{List, []}
use mathlib.Core.Logic.{◌↔◌}
use Prim.Native.Nat.{ℕ, ◌/◌, ◌^◌, ◌<◌}
use native.Mathlib.Omega.{arith}
use borrow.Author.Tests.{eqb-true, ne_eqb}
use lib.Dec.{T, eqb}
use Rattle.word.specs.Choice.{tested, parts}
use Rattle.word.specs.Every.{right}
use Rattle.word.specs.Field.{field, small, splits}
use Rattle.insn.specs.Answer.{accepted, insn_in}
use Rattle.insn.specs.Answer.{Decoded}
use Rattle.insn.specs.declared.Insn.{Insn}
use Rattle.a32_multiply.specs.Halfword.{halfword_of}
use Rattle.a32.specs.Decode.{decode_of, group_of, dp_misc_of, plain_of, extra_of, control_of}
use Rattle.a32.proofs.Groups as G
use Rattle.a32.proofs.Groups.{Group, reaches, found}
use Rattle.encode_home.specs.declared.Filler.{Filler}
use Rattle.encode_home.specs.declared.Filler.TheVariants.{Manual, Zeros}
use Rattle.encode_home.specs.Table.{Put}
use Rattle.encode_home.specs.Home.{puts_of, put_all, home_of, filled_word}
use Rattle.encode_home.proofs.BackBlock.{block_settles}
use Rattle.encode_home.proofs.BackBranch.{branch_settles}
use Rattle.encode_home.proofs.BackCoproc.{coproc_settles}
use Rattle.encode_home.proofs.BackDpImm.{dp_imm_settles}
use Rattle.encode_home.proofs.BackDpReg.{dp_reg_settles}
use Rattle.encode_home.proofs.BackExtra.{extra_ldst_settles}
use Rattle.encode_home.proofs.BackHalfword.{halfword_settles}
use Rattle.encode_home.proofs.BackLdst.{ldst_settles}
use Rattle.encode_home.proofs.BackMedia.{media_settles}
use Rattle.encode_home.proofs.BackMisc.{misc_settles}
use Rattle.encode_home.proofs.BackMultiply.{multiply_settles, sync_settles}
use Rattle.encode_home.proofs.BackUnconditional.{unconditional_settles}
use Rattle.encode_home.proofs.Leads.{Settles, refuses, settles, leads_to, bit_cases, two_cases, never}
use Rattle.encode_home.proofs.Puts.{all, good, all_good, disjoint, put_all_small, refilled, keeps_condition, low, keeps_upper, keeps_middle, keeps_top}
use Rattle.encode_home.proofs.Puts.{keeps_bottom}

-- a word that is settled, at each address
module _ (w : ℕ) (bound : w < 2 ^ 32) where
  abbrev Settled : Type 0
  Settled =
      (addr : ℕ)
      → ((c : Filler) → decode_of (home_of c w) addr ≡ decode_of w addr)
      × (refused_with (decode_of w addr) ≡ 0 → (c : Filler) → filled_word c (insn_in (decode_of w addr)) ≡ home_of c w)

  refused_home : (refused_with (decode_of w 0) ≡ 0 → ⊥) → (c : Filler) → home_of c w ≡ w
  refused_home not c = unfold home_of in simp (ne_eqb (refused_with (decode_of w 0)) 0 not)

  accepted_home : (ps : List Put) → refused_with (decode_of w 0) ≡ 0 → puts_of (insn_in (decode_of w 0)) ≡ ps → (c : Filler) → home_of c w ≡ put_all c ps w
  accepted_home ps ok is c = unfold home_of in simp ok (ap (λ (qs : List Put). put_all c qs w) is)

  settle : {near : Put → Bool} → Settles near decode_of w → Settled
  settle (refuses never-ok) addr = (λ c. ap (λ (x : ℕ). decode_of x addr) (refused_home (never-ok 0) c), λ ok. absurd (never-ok addr ok))
  settle {near} (settles ps t given) addr =
      let home : (c : Filler) → home_of c w ≡ put_all c ps w = accepted_home ps (given 0).1.0 (given 0).1.1 in
      (λ c. ap (λ (x : ℕ). decode_of x addr) (home c) ∙ (given addr).0 c, λ ok c. led c ∙ sym (home c))
    where
      i : Insn
      i = insn_in (decode_of w addr)

      led : (c : Filler) → filled_word c i ≡ put_all c ps w
      led Manual =
          rw ((given addr).1.1, (given addr).1.2)
          (refilled ps (subst (λ (qs : List Put). T (all good qs)) (given addr).1.1 (all_good i)) (right (all near ps) (disjoint ps) t) w bound)
      led Zeros = (given addr).1.2

-- 27:26 from 27:25
top : (w : ℕ) {g : ℕ} → field w 25 3 ≡ g → field w 26 2 ≡ g / 2
top w is = omega (arith, splits w 25 2 1, small w 25 1)

-- a halfword multiply goes to its group
module _ (w : ℕ) (c : eqb (field w 28 4) 15 ≡ false) (g : field w 25 3 ≡ 0) (control : control_of w ≡ true) (four : field w 4 1 ≡ 0)
    (seven : field w 7 1 ≡ 1) where
  to_halfword : (c : Filler) (ps : List Put) → T (all low ps) → (addr : ℕ) → decode_of (put_all c ps w) addr ≡ halfword_of (put_all c ps w) addr
  to_halfword filler ps t addr = unfold decode_of group_of dp_misc_of plain_of control_of in simp (keeps_upper, keeps_middle, c, g, control, four, seven)

-- 02, P3: "Refusals: none remain in this corner"
pub halfword_accepted : (w addr : ℕ) → eqb (field w 28 4) 15 ≡ false → field w 25 3 ≡ 0 → control_of w ≡ true → field w 4 1 ≡ 0 → field w 7 1 ≡ 1
    → refused_with (decode_of w addr) ≡ 0
halfword_accepted w addr c g control four seven = ap (λ (d : Decoded). refused_with d) (to_halfword w c g control four seven Zeros [] tt addr) ∙ accepted
  where
    accepted : refused_with (halfword_of w addr) ≡ 0
    accepted =
        two_cases w 21
        (λ op. simp op)
        (λ op. bit_cases w 5 (λ x. simp (op, x)) (λ x. simp (op, x)))
        (λ op. simp op)
        (λ op. simp op)

module _ (w : ℕ) (bound : w < 2 ^ 32) where
  -- condition 15
  unconditional : field w 28 4 ≡ 15 → Settled w bound
  unconditional c = unfold decode_of in settle w bound (leads_to (unconditional_settles w bound) (λ filler ps t addr. simp (keeps_condition, c)))

  -- a condition below 15, by 27:25
  module _ (c : eqb (field w 28 4) 15 ≡ false) where
    module _ (g : field w 25 3 ≡ 0) where
      -- what control is, field by field
      ten_is : control_of w ≡ true → field w 23 2 ≡ 2
      ten_is is = unfold control_of in eqb-true (field w 23 2) 2 (parts _ (eqb (field w 20 1) 0) is).0

      s_is : control_of w ≡ true → field w 20 1 ≡ 0
      s_is is = unfold control_of in eqb-true (field w 20 1) 0 (parts (eqb (field w 23 2) 2) _ is).1

      misc : control_of w ≡ true → field w 7 1 ≡ 0 → Settled w bound
      misc control seven = unfold decode_of group_of dp_misc_of plain_of control_of in
          settle w bound
          (leads_to (misc_settles w bound g (ten_is control) (s_is control) seven)
          (λ filler ps t addr. bit_cases w 4
          (λ four. simp (keeps_upper, keeps_middle, c, g, control, four, seven))
          (λ four. simp (keeps_upper, keeps_middle, c, g, control, four, seven))))

      halfword : control_of w ≡ true → field w 4 1 ≡ 0 → field w 7 1 ≡ 1 → Settled w bound
      halfword control four seven =
          settle w bound (leads_to (halfword_settles w bound g (ten_is control) (s_is control) seven four) (to_halfword w c g control four seven))

      register : control_of w ≡ false → (field w 4 1 ≡ 1 → field w 7 1 ≡ 0) → Settled w bound
      register control seven = unfold decode_of group_of dp_misc_of plain_of control_of in
          settle w bound
          (leads_to (dp_reg_settles w bound g control seven)
          (λ filler ps t addr. bit_cases w 4
          (λ four. simp (keeps_upper, keeps_middle, c, g, control, four))
          (λ four. simp (keeps_upper, keeps_middle, c, g, control, four, seven four))))

      module _ (four : field w 4 1 ≡ 1) (seven : field w 7 1 ≡ 1) where
        multiply : field w 5 2 ≡ 0 → field w 24 1 ≡ 0 → Settled w bound
        multiply kind p = unfold decode_of group_of dp_misc_of extra_of in
            settle w bound (leads_to (multiply_settles w bound g seven four kind p)
            (λ filler ps t addr. simp (keeps_upper, keeps_middle, c, g, four, seven, kind, p)))

        sync : field w 5 2 ≡ 0 → field w 24 1 ≡ 1 → Settled w bound
        sync kind p = unfold decode_of group_of dp_misc_of extra_of in
            settle w bound (leads_to (sync_settles w bound g seven four kind p)
            (λ filler ps t addr. simp (keeps_upper, keeps_middle, c, g, four, seven, kind, p)))

        extra_ldst : eqb (field w 5 2) 0 ≡ false → Settled w bound
        extra_ldst other = unfold decode_of group_of dp_misc_of extra_of in
            settle w bound (leads_to (extra_ldst_settles w bound g seven four other)
            (λ filler ps t addr. simp (keeps_upper, keeps_middle, c, g, four, seven, other)))

    dp_imm : field w 25 3 ≡ 1 → Settled w bound
    dp_imm g = unfold decode_of group_of in settle w bound (leads_to (dp_imm_settles w bound g) (λ filler ps t addr. simp (keeps_upper, c, g)))

    ldst : field w 25 3 ≡ 2 → Settled w bound
    unfolding decode_of group_of
    ldst g = settle w bound (leads_to (ldst_settles w bound (top w g) (λ set. never clear_25 set)) (λ filler ps t addr. simp (keeps_top, c, g)))
      where
        clear_25 : field w 25 1 ≡ 0
        clear_25 = omega (arith, splits w 25 2 1, small w 25 1)

    ldst_index : field w 25 3 ≡ 3 → field w 4 1 ≡ 0 → Settled w bound
    unfolding decode_of group_of
    ldst_index g four =
        settle w bound (leads_to (ldst_settles w bound (top w g) (λ set. four)) (λ filler ps t addr. simp (keeps_top, keeps_bottom, c, g, four)))

    media : field w 25 3 ≡ 3 → field w 4 1 ≡ 1 → Settled w bound
    unfolding decode_of group_of
    media g four = settle w bound (leads_to (media_settles w bound g four) (λ filler ps t addr. simp (keeps_upper, keeps_middle, c, g, four)))

    block : field w 25 3 ≡ 4 → Settled w bound
    block g = unfold decode_of group_of in settle w bound (leads_to (block_settles w bound g) (λ filler ps t addr. simp (keeps_upper, c, g)))

    branch : field w 25 3 ≡ 5 → Settled w bound
    branch g = unfold decode_of group_of in settle w bound (leads_to (branch_settles w bound g) (λ filler ps t addr. simp (keeps_upper, c, g)))

    coprocessor : field w 26 2 ≡ 3 → Settled w bound
    coprocessor p =
        settle w bound (leads_to (coproc_settles w bound)
        (λ filler ps t addr. reaches (put_all filler ps w) (G.coprocessor (simp keeps_top c) (simp keeps_top p)) addr))

  settled : Settled w bound
  settled = of (found w).1
    where
      of : {row : ℕ → ℕ → Decoded} → Group w row → Settled w bound
      of (G.unconditional c) = unconditional c
      of (G.misc c g control seven) = misc c g control seven
      of (G.halfword c g control seven four) = halfword c g control four seven
      of (G.dp_reg c g control seven) = register c g control seven
      of (G.multiply c g seven four kind p) = multiply c g four seven kind p
      of (G.sync c g seven four kind p) = sync c g four seven kind p
      of (G.extra_ldst c g seven four other) = extra_ldst c g four seven other
      of (G.dp_imm c g) = dp_imm c g
      of (G.ldst c g) = ldst c g
      of (G.ldst_index c g four) = ldst_index c g four
      of (G.media c g four) = media c g four
      of (G.block c g) = block c g
      of (G.branch c g) = branch c g
      of (G.coprocessor c p) = coprocessor c p

-- the home word of a word has the word's answer, under either filler
pub home_decodes : (c : Filler) (w addr : ℕ) → w < 2 ^ 32 → decode_of (home_of c w) addr ≡ decode_of w addr
home_decodes c w addr bound = (settled w bound addr).0 c

-- an accepted answer leads back to the home word
pub leads_home : (c : Filler) (w addr : ℕ) → w < 2 ^ 32 → refused_with (decode_of w addr) ≡ 0 → filled_word c (insn_in (decode_of w addr)) ≡ home_of c w
leads_home c w addr bound ok = (settled w bound addr).1 ok c

module _ (c : Filler) where
  -- "At one address two accepted words get equal answers exactly when 01's table of ignored bits gives them the same home word."
  pub same_answer : (w w' addr : ℕ) → w < 2 ^ 32 → w' < 2 ^ 32 → refused_with (decode_of w addr) ≡ 0 → refused_with (decode_of w' addr) ≡ 0
      → (decode_of w addr ≡ decode_of w' addr) ↔ (home_of c w ≡ home_of c w')
  same_answer w w' addr bound bound' ok ok' = (one_home, one_answer)
    where
      one_home : decode_of w addr ≡ decode_of w' addr → home_of c w ≡ home_of c w'
      one_home same = sym (leads_home c w addr bound ok) ∙ ap (λ (d : Decoded). filled_word c (insn_in d)) same ∙ leads_home c w' addr bound' ok'

      one_answer : home_of c w ≡ home_of c w' → decode_of w addr ≡ decode_of w' addr
      one_answer same = sym (home_decodes c w addr bound) ∙ ap (λ (x : ℕ). decode_of x addr) same ∙ home_decodes c w' addr bound'

  -- a home word is a word
  pub home_small : (w : ℕ) → w < 2 ^ 32 → home_of c w < 2 ^ 32
  home_small w bound = unfold home_of in
      tested (λ (x : ℕ). x < 2 ^ 32) (eqb (refused_with (decode_of w 0)) 0)
      (λ ok. put_all_small c (puts_of (insn_in (decode_of w 0))) (all_good (insn_in (decode_of w 0))) bound)
      (λ no_row. bound)

  -- and has its word's condition
  pub home_condition : (w : ℕ) → field (home_of c w) 28 4 ≡ field w 28 4
  home_condition w = unfold home_of in
      tested (λ (x : ℕ). field x 28 4 ≡ field w 28 4) (eqb (refused_with (decode_of w 0)) 0)
      (λ ok. keeps_condition c (puts_of (insn_in (decode_of w 0))) (all_good (insn_in (decode_of w 0))) w)
      (λ no_row. refl)

  -- where any word has an instruction value for its answer at the value's address, the word that the value leads to has it,
  -- and is that word's home word
  pub leads_back : (i : Insn) (w : ℕ) → w < 2 ^ 32 → decode_of w i.addr ≡ accepted i
      → (filled_word c i ≡ home_of c w) × (decode_of (filled_word c i) i.addr ≡ accepted i)
  leads_back i w bound is =
      (back, ap (λ (x : ℕ). decode_of x i.addr) back ∙ home_decodes c w i.addr bound ∙ is)
    where
      back : filled_word c i ≡ home_of c w
      back = ap (λ (d : Decoded). filled_word c (insn_in d)) (sym is) ∙ leads_home c w i.addr bound (ap (λ (d : Decoded). refused_with d) is)

-- The home of a home word is the word's own, whatever filled that: so a home word is its own home, and of a word's two each is the other's home
-- under its own filler
pub home_home : (c c' : Filler) (w addr : ℕ) → w < 2 ^ 32 → refused_with (decode_of w addr) ≡ 0 → home_of c (home_of c' w) ≡ home_of c w
home_home c c' w addr bound ok =
    (same_answer c (home_of c' w) w addr (home_small c' w bound) bound (subst (λ (d : Decoded). refused_with d ≡ 0) (sym (home_decodes c' w addr bound)) ok) ok
    ).0 (home_decodes c' w addr bound)

-- and the two decode alike
pub homes_decode_alike : (c c' : Filler) (w addr : ℕ) → w < 2 ^ 32 → decode_of (home_of c w) addr ≡ decode_of (home_of c' w) addr
homes_decode_alike c c' w addr bound = home_decodes c w addr bound ∙ sym (home_decodes c' w addr bound)
