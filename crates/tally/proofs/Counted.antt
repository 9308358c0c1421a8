-- How many of what stands in sections are of a kind: of sections one after the other, and at most. Assumes nothing.
use Rattle.std.proofs.Common.{◌≡◌, ℕ, zero, suc, ◌+◌, ◌*◌, ◌≤◌, Bool, true, false, List, [], ◌∷◌, ◌++◌, length, sym, refl, ap, ◌∙◌, true≢false, append_assoc, arith, length-append}
use Rattle.section.specs.Section.{firsts, opening_of, here_at, places_of}
use Rattle.section.specs.declared.Here.{Here}
use Rattle.section.specs.declared.Here.TheVariants.{Word, Data, End}
use Rattle.section.proofs.Accepted.{opened}
use Rattle.section.proofs.Places.{Stands, something, how_many_lem}
use Rattle.tally.specs.Kinds.{Kind, sections, is_of, one}
use Rattle.tally.specs.Tally.{how_many, all_of, count_of}

module _ (test : Here → Bool) where
  many_append : (a b : List Here) → how_many test (a ++ b) ≡ how_many test a + how_many test b
  many_append [] b = omega arith
  many_append (here ∷ a) b = omega (arith, many_append a b)

  at_most_one : (b : Bool) → one b ≤ 1
  at_most_one true = omega arith
  at_most_one false = omega arith

  at_most : (places : List Here) → how_many test places ≤ length places
  at_most [] = omega arith
  at_most (here ∷ places) = omega (arith, at_most places, at_most_one (test here))

all_append : (a b : List (List ℕ)) → all_of (a ++ b) ≡ all_of a ++ all_of b
all_append [] b = refl
all_append (s ∷ a) b =
    ap (λ (rest : List Here). places_of s ++ End ∷ rest) (all_append a b) ∙ sym (append_assoc (places_of s) (End ∷ all_of a) (all_of b))

pub count_append : (a b : List (List ℕ)) (kind : Kind) → count_of (a ++ b) kind ≡ count_of a kind + count_of b kind
count_append a b kind = ap (how_many (is_of kind)) (all_append a b) ∙ many_append (is_of kind) (all_of a) (all_of b)

-- a section has at most 4,096 words, and is counted itself
few_words : (ss : List (List ℕ)) → length (all_of ss) ≤ 4097 * length ss
few_words [] = omega arith
few_words (s ∷ ss) = omega (arith, length-append (places_of s) (End ∷ all_of ss), few_words ss, how_many_lem s, (opened s).few)

pub few : (ss : List (List ℕ)) (kind : Kind) → count_of ss kind ≤ 4097 * length ss
few ss kind = omega (arith, at_most (is_of kind) (all_of ss), few_words ss)

-- no place of a section is its end, so that each section is counted once
no_end : (here : Here) → Stands here → is_of sections here ≡ false
no_end (Word word address) some = refl
no_end (Data word address) some = refl
no_end End some = absurd (true≢false some)

none_ends : (at : ℕ → Here) → ((i : ℕ) → Stands (at i)) → (n : ℕ) → how_many (is_of sections) (firsts at n) ≡ 0
none_ends at some zero = refl
none_ends at some (suc n) =
    omega (arith, many_append (is_of sections) (firsts at n) (at n ∷ []), none_ends at some n, ap one (no_end (at n) (some n)))

no_ends : (s : List ℕ) → how_many (is_of sections) (places_of s) ≡ 0
no_ends s = unfold places_of in none_ends (here_at s (opening_of s)) (something s (opening_of s)) (opening_of s).count

pub sections_once : (ss : List (List ℕ)) → count_of ss sections ≡ length ss
sections_once [] = refl
sections_once (s ∷ ss) = omega (arith, many_append (is_of sections) (places_of s) (End ∷ all_of ss), no_ends s, sections_once ss)
