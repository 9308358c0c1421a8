-- The control words: an answer leads back to its home word, which has it too. Assumes nothing.
use mathlib.Core.Path.{◌≡◌, refl}
use mathlib.Core.List.{List, [], ◌∷◌}
use Prim.Native.Nat.{ℕ, ◌^◌, ◌<◌}
use Rattle.word.specs.Field.{field, put}
use Rattle.word.specs.Layout.{join, whole, upper, lower}
use Rattle.a32_misc.specs.Misc.{source_of, misc_of}
use Rattle.insn_parts.specs.Operands.{operand_flat}
use Rattle.encode_home.specs.declared.Filler.TheVariants.{Zeros}
use Rattle.encode_home.specs.Table.{Put, zeros, filled}
use Rattle.encode_home.specs.Home.{puts_of}
use Rattle.encode_home.specs.Word.{word_of}
use Rattle.encode_home.specs.WordMisc.{status_layout, single_layout, several_layout}
use Rattle.encode_home.proofs.Leads.{apart, Settles, refuses, settles, reads, by_value, bit_cases, two_cases, refusal}
use Rattle.encode_home.proofs.Puts.{low, laid}

module _ (w : ℕ) (bound : w < 2 ^ 32) (group : field w 25 3 ≡ 0) (ten : field w 23 2 ≡ 2) (s : field w 20 1 ≡ 0) (seven : field w 7 1 ≡ 0) where
  mrs : field w 4 3 ≡ 0 → field w 21 1 ≡ 0 → field w 9 1 ≡ 0 → Settles low misc_of w
  unfolding puts_of word_of
  mrs e m nine =
      settles ignored tt
      (simp (apart, e, m, nine, source) (λ addr. (
        (λ c. refl),
        (
          refl,
          refl,
          simp (
            apart,
            group,
            ten,
            s,
            seven,
            e,
            m,
            nine,
          ) at (laid Zeros status_layout ignored tt w bound refl),
        ),
      )))
    where
      ignored : List Put
      ignored = filled 19 16 ∷ zeros 11 10 ∷ zeros 8 8 ∷ zeros 3 0 ∷ []

      source : (operand_flat (source_of w)).how ≡ field w 22 1
      source = bit_cases w 22 (λ r. simp r) (λ r. simp r)

  msr : field w 4 3 ≡ 0 → field w 21 1 ≡ 1 → field w 9 1 ≡ 0 → Settles low misc_of w
  unfolding puts_of word_of
  msr e m nine =
      settles ignored tt
      (simp (apart, e, m, nine, upper w 22 1 16 4, lower w 22 1 16 4)
      (λ addr. ((λ c. refl), (refl, refl, simp (apart, group, ten, s, seven, e, m, nine) at (laid Zeros status_layout ignored tt w bound refl)))))
    where
      ignored : List Put
      ignored = filled 15 12 ∷ zeros 11 10 ∷ zeros 8 8 ∷ []

  status : field w 4 3 ≡ 0 → Settles low misc_of w
  status e =
      by_value w 9 1 0 (λ nine. bit_cases w 21 (λ m. mrs e m nine) (λ m. msr e m nine)) λ nine.
      refuses (λ addr ok. refusal (simp (e, nine) at ok))

  -- bx, bxj and blx
  exchanges : (kind : ℕ) → field w 4 3 ≡ kind → field w 21 2 ≡ 1
      → join single_layout (field w 0 4 ∷ kind ∷ 0 ∷ 0 ∷ 0 ∷ 1 ∷ 2 ∷ 0 ∷ field w 28 4 ∷ []) ≡ put w 8 12 0
  exchanges kind e op = simp (apart, group, ten, s, seven, e, op) at (laid Zeros single_layout (filled 19 8 ∷ []) tt w bound refl)

  bx : field w 4 3 ≡ 1 → field w 21 2 ≡ 1 → Settles low misc_of w
  bx e op = unfold puts_of word_of in settles (filled 19 8 ∷ []) tt (simp (apart, e, op) (λ addr. ((λ c. refl), (refl, refl, exchanges 1 e op))))

  bxj : field w 4 3 ≡ 2 → field w 21 2 ≡ 1 → Settles low misc_of w
  bxj e op = unfold puts_of word_of in settles (filled 19 8 ∷ []) tt (simp (apart, e, op) (λ addr. ((λ c. refl), (refl, refl, exchanges 2 e op))))

  blx : field w 4 3 ≡ 3 → field w 21 2 ≡ 1 → Settles low misc_of w
  blx e op = unfold puts_of word_of in settles (filled 19 8 ∷ []) tt (simp (apart, e, op) (λ addr. ((λ c. refl), (refl, refl, exchanges 3 e op))))

  clz : field w 4 3 ≡ 1 → field w 21 2 ≡ 3 → Settles low misc_of w
  unfolding puts_of word_of
  clz e op =
      settles ignored tt
      (simp (apart, e, op) (λ addr. ((λ c. refl), (refl, refl, simp (apart, group, ten, s, seven, e, op) at (laid Zeros several_layout ignored tt w bound refl)))))
    where
      ignored : List Put
      ignored = filled 19 16 ∷ filled 11 8 ∷ []

  saturating : field w 4 3 ≡ 5 → Settles low misc_of w
  unfolding puts_of word_of
  saturating e =
      two_cases w 21
      (λ op. settles (zeros 11 8 ∷ []) tt (simp (apart, e, op) (λ addr. ((λ c. refl), (refl, refl, adds 0 op)))))
      (λ op. settles (zeros 11 8 ∷ []) tt (simp (apart, e, op) (λ addr. ((λ c. refl), (refl, refl, adds 1 op)))))
      (λ op. settles (zeros 11 8 ∷ []) tt (simp (apart, e, op) (λ addr. ((λ c. refl), (refl, refl, adds 2 op)))))
      (λ op. settles (zeros 11 8 ∷ []) tt (simp (apart, e, op) (λ addr. ((λ c. refl), (refl, refl, adds 3 op)))))
    where
      adds : (n : ℕ) → field w 21 2 ≡ n
          → join several_layout (field w 0 4 ∷ 5 ∷ 0 ∷ 0 ∷ field w 12 4 ∷ field w 16 4 ∷ 0 ∷ n ∷ 2 ∷ 0 ∷ field w 28 4 ∷ []) ≡ put w 8 4 0
      adds n op = simp (apart, group, ten, s, seven, e, op) at (laid Zeros several_layout (zeros 11 8 ∷ []) tt w bound refl)

  bkpt : field w 4 3 ≡ 7 → field w 21 2 ≡ 1 → Settles low misc_of w
  bkpt e op = unfold puts_of word_of in
      reads
      (simp (e, op, upper w 8 12 0 4, lower w 8 12 0 4) (λ addr. (refl, refl, simp (group, ten, s, seven, e, op) at (whole single_layout w bound))))

  pub misc_settles : Settles low misc_of w
  misc_settles =
      by_value w 4 3 0 status λ n0.
      by_value w 4 3 1
      (λ e.
      by_value w 21 2 1 (bx e) λ n1.
      by_value w 21 2 3 (clz e) λ n3.
      refuses (λ addr ok. refusal (simp (e, n1, n3) at ok)))
      λ n1.
      by_value w 4 3 2 (λ e. by_value w 21 2 1 (bxj e) λ op. refuses (λ addr ok. refusal (simp (e, op) at ok))) λ n2.
      by_value w 4 3 3 (λ e. by_value w 21 2 1 (blx e) λ op. refuses (λ addr ok. refusal (simp (e, op) at ok))) λ n3.
      by_value w 4 3 5 saturating λ n5.
      by_value w 4 3 7 (λ e. by_value w 21 2 1 (bkpt e) λ op. refuses (λ addr ok. refusal (simp (e, op) at ok))) λ n7.
      refuses (λ addr ok. refusal (simp (n0, n1, n2, n3, n5, n7) at ok))
