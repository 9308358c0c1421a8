-- The order of sections does not alter the tally, as long as no accepted one is too many. Assumes nothing.
use Rattle.std.proofs.Common.{◌≡◌, ℕ, ◌+◌, ◌≤◌, eqb, List, [], ◌∷◌, map, length, sym, refl, ap, ◌∙◌, arith, take_all}
use mathlib.Core.Path.{fun_ext}
use mathlib.Core.List.{Permᴰ}
use Rattle.word.specs.Choice.{pick, by_test}
use Rattle.tally.specs.Kinds.{Kind, sections, layout}
use Rattle.tally.specs.Tally.{count_of, counts_of, none_of, own_of, MOST, add_all, accepted_of, added_of}
use Rattle.tally.proofs.Counted.{count_append, sections_once}
use Rattle.tally.proofs.Tallied.{tallies}

module _ (kind : Kind) where
  -- what a section adds, if it is accepted
  adds : List ℕ → ℕ
  adds s = pick (eqb (own_of s) 0) (count_of (s ∷ []) kind) 0

  first : (s : List ℕ) (ss : List (List ℕ)) → count_of (accepted_of (s ∷ ss)) kind ≡ adds s + count_of (accepted_of ss) kind
  unfolding adds
  first s ss = by_test (eqb (own_of s) 0) (λ e. simp e (count_append (s ∷ []) (accepted_of ss) kind)) (λ e. simp e (omega arith))

  same_count : {ss ss' : List (List ℕ)} → Permᴰ ss ss' → count_of (accepted_of ss) kind ≡ count_of (accepted_of ss') kind
  same_count Permᴰ.nil = refl
  same_count (Permᴰ.cons {a} {b} {l₁} {l₂} e p) = omega (arith, first a l₁, first b l₂, ap adds e, same_count p)
  same_count (Permᴰ.swap {a} {b} {a'} {b'} {l} e e') =
      omega (arith, first a (b ∷ l), first b l, first a' (b' ∷ l), first b' l, ap adds e, ap adds e')
  same_count (Permᴰ.trans p q) = same_count p ∙ same_count q

module _ {ss ss' : List (List ℕ)} (p : Permᴰ ss ss') where
  same_counts : counts_of (accepted_of ss) ≡ counts_of (accepted_of ss')
  same_counts = unfold counts_of in ap (λ (n : Kind → ℕ). map n layout) (fun_ext (λ kind. same_count kind p))

  same_length : length (accepted_of ss) ≡ length (accepted_of ss')
  same_length = sym (sections_once (accepted_of ss)) ∙ same_count sections p ∙ sections_once (accepted_of ss')

  pub same_added : length (accepted_of ss) ≤ MOST → counts_of (added_of ss) ≡ counts_of (added_of ss')
  same_added few =
      ap counts_of (take_all MOST (accepted_of ss) few)
      ∙ same_counts
      ∙ ap counts_of (sym (take_all MOST (accepted_of ss') (omega (arith, same_length))))

  pub any_order : length (accepted_of ss) ≤ MOST → add_all none_of ss ≡ add_all none_of ss'
  any_order few = tallies ss ∙ ap (λ (counts : List ℕ). record { counts = counts }) (same_added few) ∙ sym (tallies ss')
