-- The extra loads and stores: an answer leads back to its home word, which has it too. Assumes nothing.
use mathlib.Core.Path.{◌≡◌, refl}
use mathlib.Core.Bool.{true, false, true≢false}
use mathlib.Core.List.{[], ◌∷◌}
use Prim.Native.Nat.{ℕ, zero, suc, ◌/◌, ◌%◌, ◌^◌, ◌<◌}
use lib.Dec.{eqb}
use Rattle.word.specs.Choice.{by_test}
use Rattle.word.specs.Field.{field, put}
use Rattle.word.specs.Layout.{join, whole, upper, lower}
use Rattle.word.specs.Signed.{minus}
use Rattle.insn.specs.Numbers.{mode_number}
use Rattle.a32_ldst.specs.ExtraLdst.{imm8, subtracted_index_of, extra_ldst_of}
use Rattle.a32_ldst.specs.Mem.{unprivileged_of, mode_of, disp_of, minus_zero_of}
use Rattle.insn_parts.specs.Operands.{sign_number, mark_number}
use Rattle.insn_parts.specs.Parts.{bit_u, bit_w}
use Rattle.encode_home.specs.declared.Filler.TheVariants.{Zeros}
use Rattle.encode_home.specs.Table.{zeros}
use Rattle.encode_home.specs.Home.{puts_of}
use Rattle.encode_home.specs.Word.{word_of}
use Rattle.encode_home.specs.WordExtra.{extra_layout}
use Rattle.encode_home.proofs.Leads.{apart, Settles, refuses, settles, reads, bit_cases, two_cases, refusal}
use Rattle.encode_home.proofs.BackLdst.{has_p, magnitude_back}
use Rattle.encode_home.proofs.Puts.{low, laid}

-- U is clear for a displacement that is subtracted, with the mark of minus zero
down : (n : ℕ) → bit_u (sign_number (minus n)) (mark_number (eqb n 0)) ≡ 0
down zero = refl
down (suc n) = by_test (eqb (suc n) 0) (λ e. simp e) (λ e. simp e)

has_u : (w : ℕ) → bit_u (sign_number (disp_of w (imm8 w))) (mark_number (minus_zero_of w (imm8 w))) ≡ field w 23 1
has_u w = unfold minus_zero_of in bit_cases w 23 (λ u. simp u (down (imm8 w))) (λ u. simp u)

module _ (w : ℕ) (bound : w < 2 ^ 32) (group : field w 25 3 ≡ 0) (seven : field w 7 1 ≡ 1) (four : field w 4 1 ≡ 1)
    (other : eqb (field w 5 2) 0 ≡ false) (post : unprivileged_of w ≡ false) where
  -- the mode has W where it is not refused
  mode_w : bit_w (mode_number (mode_of w)) ≡ field w 21 1
  mode_w = unfold unprivileged_of in
      bit_cases w 24
      (λ p. bit_cases w 21 (λ b. simp (p, b)) (λ b. absurd (true≢false (simp (p, b) at post))))
      (λ p. bit_cases w 21 (λ b. simp (p, b)) (λ b. simp (p, b)))

  -- the index form
  module _ (i : field w 22 1 ≡ 0) (u : field w 23 1 ≡ 1) where
    plus : subtracted_index_of w ≡ false
    plus = unfold subtracted_index_of in simp (i, u)

    still_plus : subtracted_index_of (put w 8 4 0) ≡ false
    still_plus = unfold subtracted_index_of in simp (apart, i, u)

    still_post : unprivileged_of (put w 8 4 0) ≡ false
    still_post = unfold unprivileged_of in simp apart post

    ruleset index_rules = (apart, still_post, plus, still_plus, has_p, mode_w)

    indexed_word : {kind load : ℕ} → field w 5 2 ≡ kind → field w 20 1 ≡ load
        → join extra_layout (field w 0 4 ∷ 1 ∷ kind ∷ 1 ∷ 0 ∷ field w 12 4 ∷ field w 16 4 ∷ load ∷ field w 21 1 ∷ 0 ∷ 1 ∷ field w 24 1 ∷ 0 ∷
        field w 28 4 ∷ []) ≡ put w 8 4 0
    indexed_word k l = simp (apart, group, seven, four, k, l, i, u) at (laid Zeros extra_layout (zeros 11 8 ∷ []) tt w bound refl)

    indexes : Settles low extra_ldst_of w
    indexes = unfold puts_of word_of in
        two_cases w 5
        (λ k. absurd (true≢false (simp k at other)))
        (λ k. bit_cases w 20
        (λ l. settles (zeros 11 8 ∷ []) tt (simp (index_rules, post, i, k, l) (λ addr. ((λ c. refl), (refl, refl, indexed_word k l)))))
        (λ l. settles (zeros 11 8 ∷ []) tt (simp (index_rules, post, i, k, l) (λ addr. ((λ c. refl), (refl, refl, indexed_word k l))))))
        (λ k. bit_cases w 20
        (λ l. by_test (eqb (field w 12 4 % 2) 1)
        (λ odd. refuses (λ addr ok. refusal (simp (post, plus, k, l, odd) at ok)))
        (λ even. settles (zeros 11 8 ∷ []) tt (simp (index_rules, post, i, k, l, even) (λ addr. ((λ c. refl), (refl, refl, indexed_word k l))))))
        (λ l. settles (zeros 11 8 ∷ []) tt (simp (index_rules, post, i, k, l) (λ addr. ((λ c. refl), (refl, refl, indexed_word k l))))))
        (λ k. bit_cases w 20
        (λ l. by_test (eqb (field w 12 4 % 2) 1)
        (λ odd. refuses (λ addr ok. refusal (simp (post, plus, k, l, odd) at ok)))
        (λ even. settles (zeros 11 8 ∷ []) tt (simp (index_rules, post, i, k, l, even) (λ addr. ((λ c. refl), (refl, refl, indexed_word k l))))))
        (λ l. settles (zeros 11 8 ∷ []) tt (simp (index_rules, post, i, k, l) (λ addr. ((λ c. refl), (refl, refl, indexed_word k l))))))

  module _ (i : field w 22 1 ≡ 1) where
    no_index : subtracted_index_of w ≡ false
    no_index = unfold subtracted_index_of in simp i

    high_digit : imm8 w / 16 ≡ field w 8 4
    high_digit = upper w 8 4 0 4

    low_digit : imm8 w % 16 ≡ field w 0 4
    low_digit = lower w 8 4 0 4

    ruleset displacement_rules = (no_index, has_p, mode_w, has_u, magnitude_back, high_digit, low_digit)

    displaced_word : {kind load : ℕ} → field w 5 2 ≡ kind → field w 20 1 ≡ load
        → join extra_layout (field w 0 4 ∷ 1 ∷ kind ∷ 1 ∷ field w 8 4 ∷ field w 12 4 ∷ field w 16 4 ∷ load ∷ field w 21 1 ∷ 1 ∷ field w 23 1 ∷
        field w 24 1 ∷ 0 ∷ field w 28 4 ∷ []) ≡ w
    displaced_word k l = simp (group, seven, four, k, l, i) at (whole extra_layout w bound)

    displaces : Settles low extra_ldst_of w
    displaces = unfold puts_of word_of in
        two_cases w 5
        (λ k. absurd (true≢false (simp k at other)))
        (λ k. bit_cases w 20
        (λ l. reads (simp (displacement_rules, post, i, k, l) (λ addr. (refl, refl, displaced_word k l))))
        (λ l. reads (simp (displacement_rules, post, i, k, l) (λ addr. (refl, refl, displaced_word k l)))))
        (λ k. bit_cases w 20
        (λ l. by_test (eqb (field w 12 4 % 2) 1)
        (λ odd. refuses (λ addr ok. refusal (simp (post, no_index, k, l, odd) at ok)))
        (λ even. reads (simp (displacement_rules, post, i, k, l, even) (λ addr. (refl, refl, displaced_word k l)))))
        (λ l. reads (simp (displacement_rules, post, i, k, l) (λ addr. (refl, refl, displaced_word k l)))))
        (λ k. bit_cases w 20
        (λ l. by_test (eqb (field w 12 4 % 2) 1)
        (λ odd. refuses (λ addr ok. refusal (simp (post, no_index, k, l, odd) at ok)))
        (λ even. reads (simp (displacement_rules, post, i, k, l, even) (λ addr. (refl, refl, displaced_word k l)))))
        (λ l. reads (simp (displacement_rules, post, i, k, l) (λ addr. (refl, refl, displaced_word k l)))))

minus_index : (w : ℕ) → field w 22 1 ≡ 0 → field w 23 1 ≡ 0 → subtracted_index_of w ≡ true
minus_index w i u = unfold subtracted_index_of in simp (i, u)

pub extra_ldst_settles : (w : ℕ) → w < 2 ^ 32 → field w 25 3 ≡ 0 → field w 7 1 ≡ 1 → field w 4 1 ≡ 1 → eqb (field w 5 2) 0 ≡ false
    → Settles low extra_ldst_of w
extra_ldst_settles w bound group seven four other =
    by_test (unprivileged_of w)
    (λ user. refuses (λ addr ok. refusal (simp user at ok)))
    (λ post.
    bit_cases w 22
    (λ i. bit_cases w 23 (λ u. refuses (λ addr ok. refusal (simp (post, minus_index w i u) at ok))) (indexes w bound group seven four other post i))
    (displaces w bound group seven four other post))
