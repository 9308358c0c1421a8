-- The multiplies and the exclusives: an answer leads back to its home word, which has it too. Assumes nothing.
use mathlib.Core.Path.{◌≡◌, refl}
use mathlib.Core.List.{List, [], ◌∷◌}
use Prim.Native.Nat.{ℕ, ◌+◌, ◌*◌, ◌^◌, ◌<◌}
use native.Mathlib.Omega.{arith}
use Rattle.word.specs.Field.{field, put, splits}
use Rattle.word.specs.Layout.{join, whole}
use Rattle.a32_multiply.specs.Multiply.{multiply_of}
use Rattle.a32_multiply.specs.Sync.{sync_of}
use Rattle.encode_home.specs.declared.Filler.TheVariants.{Zeros}
use Rattle.encode_home.specs.Table.{Put, zeros, filled}
use Rattle.encode_home.specs.Home.{puts_of, put_all}
use Rattle.encode_home.specs.Word.{word_of}
use Rattle.encode_home.specs.WordMultiply.{layout}
use Rattle.encode_home.proofs.Leads.{apart, Settles, refuses, settles, reads, by_value, bit_cases, refusal}
use Rattle.encode_home.proofs.Puts.{low, laid}

module _ (w : ℕ) (bound : w < 2 ^ 32) (group : field w 25 3 ≡ 0) (seven : field w 7 1 ≡ 1) (four : field w 4 1 ≡ 1) (kind : field w 5 2 ≡ 0) where
  nine : field w 4 4 ≡ 9
  nine = omega (arith, splits w 4 3 1, splits w 5 1 2)

  module _ (p : field w 24 1 ≡ 0) where
    -- 23:20 is 23:21 and bit 20
    twenty : {op s : ℕ} → field w 21 3 ≡ op → field w 20 1 ≡ s → field w 20 4 ≡ op * 2 + s
    twenty is-op is-s = simp (is-op, is-s) at (splits w 20 3 1)

    whole_word : {op s : ℕ} → field w 21 3 ≡ op → field w 20 1 ≡ s
        → join layout (field w 0 4 ∷ 9 ∷ field w 8 4 ∷ field w 12 4 ∷ field w 16 4 ∷ (op * 2 + s) ∷ 0 ∷ 0 ∷ field w 28 4 ∷ []) ≡ w
    whole_word is-op is-s = simp (group, nine, p, twenty is-op is-s) at (whole layout w bound)

    whole_home : {op s : ℕ} → field w 21 3 ≡ op → field w 20 1 ≡ s
        → join layout (field w 0 4 ∷ 9 ∷ field w 8 4 ∷ 0 ∷ field w 16 4 ∷ (op * 2 + s) ∷ 0 ∷ 0 ∷ field w 28 4 ∷ []) ≡ put w 12 4 0
    whole_home is-op is-s = simp (apart, group, nine, p, twenty is-op is-s) at (laid Zeros layout (zeros 15 12 ∷ []) tt w bound refl)

    pub multiply_settles : Settles low multiply_of w
    multiply_settles = unfold puts_of word_of in
        by_value w 21 3 0 (λ op. bit_cases w 20
        (λ s. settles (zeros 15 12 ∷ []) tt (simp (apart, op, s) (λ addr. ((λ c. refl), (refl, refl, whole_home op s)))))
        (λ s. settles (zeros 15 12 ∷ []) tt (simp (apart, op, s) (λ addr. ((λ c. refl), (refl, refl, whole_home op s))))))
        λ n0.
        by_value w 21 3 1 (λ op. bit_cases w 20 (λ s. reads (simp (op, s) (λ addr. (refl, refl, whole_word op s))))
        (λ s. reads (simp (op, s) (λ addr. (refl, refl, whole_word op s)))))
        λ n1.
        by_value w 21 3 2 (λ op. bit_cases w 20 (λ s. reads (simp (op, s) (λ addr. (refl, refl, whole_word op s))))
        (λ s. refuses (λ addr ok. refusal (simp (op, s) at ok))))
        λ n2.
        by_value w 21 3 3 (λ op. bit_cases w 20 (λ s. reads (simp (op, s) (λ addr. (refl, refl, whole_word op s))))
        (λ s. refuses (λ addr ok. refusal (simp (op, s) at ok))))
        λ n3.
        by_value w 21 3 4 (λ op. bit_cases w 20 (λ s. reads (simp (op, s) (λ addr. (refl, refl, whole_word op s))))
        (λ s. reads (simp (op, s) (λ addr. (refl, refl, whole_word op s)))))
        λ n4.
        by_value w 21 3 5 (λ op. bit_cases w 20 (λ s. reads (simp (op, s) (λ addr. (refl, refl, whole_word op s))))
        (λ s. reads (simp (op, s) (λ addr. (refl, refl, whole_word op s)))))
        λ n5.
        by_value w 21 3 6 (λ op. bit_cases w 20 (λ s. reads (simp (op, s) (λ addr. (refl, refl, whole_word op s))))
        (λ s. reads (simp (op, s) (λ addr. (refl, refl, whole_word op s)))))
        λ n6.
        by_value w 21 3 7 (λ op. bit_cases w 20 (λ s. reads (simp (op, s) (λ addr. (refl, refl, whole_word op s))))
        (λ s. reads (simp (op, s) (λ addr. (refl, refl, whole_word op s)))))
        λ n7.
        refuses (λ addr ok. refusal (simp (n0, n1, n2, n3, n4, n5, n6, n7) at ok))

  -- the exclusives, whose stores ignore 11:8, and whose loads 3:0 too
  module _ (p : field w 24 1 ≡ 1) where
    abbrev stores : List Put
    stores = filled 11 8 ∷ []

    abbrev loads : List Put
    loads = filled 11 8 ∷ filled 3 0 ∷ []

    stored : {n : ℕ} → field w 20 4 ≡ n
        → join layout (field w 0 4 ∷ 9 ∷ 0 ∷ field w 12 4 ∷ field w 16 4 ∷ n ∷ 1 ∷ 0 ∷ field w 28 4 ∷ []) ≡ put_all Zeros stores w
    stored op = simp (apart, group, nine, p, op) at (laid Zeros layout stores tt w bound refl)

    loaded : {n : ℕ} → field w 20 4 ≡ n → join layout (0 ∷ 9 ∷ 0 ∷ field w 12 4 ∷ field w 16 4 ∷ n ∷ 1 ∷ 0 ∷ field w 28 4 ∷ []) ≡ put_all Zeros loads w
    loaded op = simp (apart, group, nine, p, op) at (laid Zeros layout loads tt w bound refl)

    pub sync_settles : Settles low sync_of w
    sync_settles = unfold puts_of word_of in
        by_value w 20 4 8 (λ op. settles stores tt (simp (apart, op) (λ addr. ((λ c. refl), (refl, refl, stored op))))) λ n8.
        by_value w 20 4 9 (λ op. settles loads tt (simp (apart, op) (λ addr. ((λ c. refl), (refl, refl, loaded op))))) λ n9.
        by_value w 20 4 12 (λ op. settles stores tt (simp (apart, op) (λ addr. ((λ c. refl), (refl, refl, stored op))))) λ n12.
        by_value w 20 4 13 (λ op. settles loads tt (simp (apart, op) (λ addr. ((λ c. refl), (refl, refl, loaded op))))) λ n13.
        by_value w 20 4 14 (λ op. settles stores tt (simp (apart, op) (λ addr. ((λ c. refl), (refl, refl, stored op))))) λ n14.
        by_value w 20 4 15 (λ op. settles loads tt (simp (apart, op) (λ addr. ((λ c. refl), (refl, refl, loaded op))))) λ n15.
        refuses (λ addr ok. refusal (simp (n8, n9, n12, n13, n14, n15) at ok))
