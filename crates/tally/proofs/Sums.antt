-- Flows and roots each sum to the accepted words, and words are data, accepted or refused. Assumes nothing.
use Rattle.std.proofs.Common.{◌≡◌, ℕ, zero, suc, ◌+◌, ◌<◌, Bool, false, eqb, ltb, List, [], ◌∷◌, ◌++◌, map, get_or, sym, refl, ap, ◌∙◌, ⊎_elim, arith, ltb-false, ltb-true, le-ltb, lt-ltb, eq-eqb, ne_eqb, eqb-true}
use Rattle.word.specs.Refusal.{refused_with}
use borrow.Author.Tests.{eqb-false}
use Rattle.word.specs.Choice.{both, by_test}
use Rattle.insn.specs.Numbers.{flow_number}
use Rattle.insn.specs.Roots.{NAMES}
use Rattle.insn.specs.Answer.{Decoded, insn_in}
use Rattle.a32.specs.Decode.{decode_of}
use Rattle.a32_every.proofs.Refusals.{two_or_three}
use Rattle.line_spelling.proofs.FormedAll.{all_good}
use Rattle.section.specs.Section.{firsts}
use Rattle.section.specs.declared.Here.{Here}
use Rattle.section.specs.declared.Here.TheVariants.{Word, Data, End}
use Rattle.tally.specs.Kinds.{Kind, words, pool, refusal, flow, root, is_of, word_is, data_is, end_is, is_accepted, is_named, one}
use Rattle.tally.specs.Tally.{how_many, all_of, counts_of, sum, flows_of, roots_of}
use Rattle.tally.proofs.Places.{off}
use Rattle.tally.proofs.Steps.{flow_small}

-- what is counted of the kinds of a list, all together
abbrev sum_on : (Kind → ℕ) → List Kind → ℕ
sum_on n kinds = sum (map n kinds)

sum_zero : (kinds : List Kind) → sum_on (λ kind. 0) kinds ≡ 0
sum_zero [] = refl
sum_zero (kind ∷ kinds) = omega (arith, sum_zero kinds)

sum_plus : (m n : Kind → ℕ) (kinds : List Kind) → sum_on (λ kind. m kind + n kind) kinds ≡ sum_on m kinds + sum_on n kinds
sum_plus m n [] = omega arith
sum_plus m n (kind ∷ kinds) = omega (arith, sum_plus m n kinds)

sum_append : (n : Kind → ℕ) (a b : List Kind) → sum_on n (a ++ b) ≡ sum_on n a + sum_on n b
sum_append n [] b = omega arith
sum_append n (kind ∷ a) b = omega (arith, sum_append n a b)

-- where each place that passes a test is of one of some kinds, and no other is, their counts sum to those that pass
once : (kinds : List Kind) (test : Here → Bool) → ((here : Here) → sum_on (λ kind. one (is_of kind here)) kinds ≡ one (test here))
    → (places : List Here) → sum_on (λ kind. how_many (is_of kind) places) kinds ≡ how_many test places
once kinds test each [] = sum_zero kinds
once kinds test each (here ∷ places) =
    omega (
      arith,
      sum_plus (λ kind. one (is_of kind here)) (λ kind. how_many (is_of kind) places) kinds,
      each here,
      once kinds test each places,
    )

-- kinds by number: one of the first n is that of m, if m is below n
module _ (kind_of : ℕ → Kind) (number : Kind → ℕ) where
  none_of : ((n : ℕ) → number (kind_of n) ≡ 0) → (n : ℕ) → sum_on number (firsts kind_of n) ≡ 0
  none_of none zero = refl
  none_of none (suc n) = omega (arith, sum_append number (firsts kind_of n) (kind_of n ∷ []), none_of none n, none n)

  one_of : (m : ℕ) → ((n : ℕ) → number (kind_of n) ≡ one (eqb m n)) → (n : ℕ) → sum_on number (firsts kind_of n) ≡ one (ltb m n)
  one_of m its zero = ap one (sym (le-ltb m 0 (omega arith)))
  one_of m its (suc n) =
      by_test (ltb m n)
      (λ e.
      let low = ltb-true m n e in
      omega (
        arith,
        sum_append number (firsts kind_of n) (kind_of n ∷ []),
        one_of m its n ∙ ap one e,
        its n ∙ ap one (ne_eqb m n (λ same. omega arith)),
        ap one (lt-ltb m (suc n) (omega arith)),
      ))
      (λ e.
      by_test (eqb m n)
      (λ same.
      omega (
        arith,
        sum_append number (firsts kind_of n) (kind_of n ∷ []),
        one_of m its n ∙ ap one e,
        its n ∙ ap one same,
        ap one (lt-ltb m (suc n) (omega (arith, eqb-true m n same))),
      ))
      (λ other.
      omega (
        arith,
        sum_append number (firsts kind_of n) (kind_of n ∷ []),
        one_of m its n ∙ ap one e,
        its n ∙ ap one other,
        ap one (le-ltb m (suc n) (let differ = eqb-false m n other in let above = ltb-false m n e in omega arith)),
      )))

-- kinds by a number that every accepted word has, and no other word
module _ (kind_of : ℕ → Kind) (number_of : Decoded → ℕ) (bound : ℕ)
    (word-has : (d : Decoded) (n : ℕ) → word_is d (kind_of n) ≡ both (is_accepted d) (eqb (number_of d) n))
    (data-none : (n : ℕ) → data_is (kind_of n) ≡ false) (end_None : (n : ℕ) → end_is (kind_of n) ≡ false)
    (below : (w addr : ℕ) → refused_with (decode_of w addr) ≡ 0 → number_of (decode_of w addr) < bound) where
  each_named : (here : Here) → sum_on (λ kind. one (is_of kind here)) (firsts kind_of bound) ≡ one (is_named here)
  each_named (Word w addr) =
      let d = decode_of w addr in
      by_test (is_accepted d)
      (λ e.
      one_of kind_of (λ kind. one (word_is d kind)) (number_of d) (λ n. ap one (word-has d n ∙ ap (λ (b : Bool). both b (eqb (number_of d) n)) e)) bound
      ∙ ap one (lt-ltb (number_of d) bound (below w addr (eqb-true (refused_with d) 0 e)) ∙ sym e))
      (λ e.
      none_of kind_of (λ kind. one (word_is d kind)) (λ n. ap one (word-has d n ∙ ap (λ (b : Bool). both b (eqb (number_of d) n)) e)) bound
      ∙ ap one (sym e))
  each_named (Data w addr) = none_of kind_of (λ kind. one (data_is kind)) (λ n. ap one (data-none n)) bound
  each_named End = none_of kind_of (λ kind. one (end_is kind)) (λ n. ap one (end_None n)) bound

  named_sum : (places : List Here) → sum_on (λ kind. how_many (is_of kind) places) (firsts kind_of bound) ≡ how_many is_named places
  named_sum = once (firsts kind_of bound) is_named each_named

-- a word is data, refused with 2 or 3, or accepted
each_word : (here : Here)
    → one (is_of words here) ≡ one (is_of pool here) + (one (is_of (refusal 2) here) + one (is_of (refusal 3) here)) + one (is_named here)
each_word (Word w addr) =
    let n = refused_with (decode_of w addr) in
    by_test (eqb n 0)
    (λ e.
    let zero = eqb-true n 0 e in
    omega (arith, off n 2 (λ two. omega arith), off n 3 (λ three. omega arith), ap one e))
    (λ e.
    ⊎_elim
    (λ two. omega (arith, ap one (eq-eqb n 2 two), off n 3 (λ three. omega arith), ap one e))
    (λ three. omega (arith, off n 2 (λ two. omega arith), ap one (eq-eqb n 3 three), ap one e))
    (two_or_three w addr (eqb-false n 0 e)))
each_word (Data w addr) = refl
each_word End = refl

all_words : (places : List Here)
    → how_many (is_of words) places
    ≡ how_many (is_of pool) places + (how_many (is_of (refusal 2)) places + how_many (is_of (refusal 3)) places) + how_many is_named places
all_words [] = refl
all_words (here ∷ places) = omega (arith, each_word here, all_words places)

-- the same of the counts of sections
module _ (ss : List (List ℕ)) where
  pub flows_sum : sum (flows_of (counts_of ss)) ≡ how_many is_named (all_of ss)
  flows_sum = unfold counts_of in
      named_sum flow (λ d. flow_number (insn_in d).flow) 8 (λ d n. refl) (λ n. refl) (λ n. refl) (λ w addr ok. flow_small (insn_in (decode_of w addr)).flow)
      (all_of ss)

  pub roots_sum : sum (roots_of (counts_of ss)) ≡ how_many is_named (all_of ss)
  roots_sum = unfold counts_of in
      named_sum root (λ d. (insn_in d).name) NAMES (λ d n. refl) (λ n. refl) (λ n. refl) (λ w addr ok. ((all_good w addr).formed ok).named) (all_of ss)

  pub words_sum : get_or (counts_of ss) 1 0
      ≡ get_or (counts_of ss) 2 0 + (get_or (counts_of ss) 3 0 + get_or (counts_of ss) 4 0) + how_many is_named (all_of ss)
  words_sum = unfold counts_of in all_words (all_of ss)
