-- A tally at the start of lent numbers is added to as a tally is, and what stands behind it stays. Assumes nothing.
use Rattle.std.proofs.Common.{◌≡◌, ℕ, ◌+◌, ◌%◌, ◌^◌, ◌<◌, ◌≤◌, eqb, List, [], ◌∷◌, ◌++◌, length, get_or, sym, refl, ap, ◌∙◌, arith, length-append, eqb-true}
use Rattle.word.specs.Refusal.{refused_with}
use borrow.Author.Tests.{eqb-false}
use lib.ListN.{get_or-append}
use Rattle.word.specs.Choice.{by_test}
use Rattle.tally.specs.Kinds.{Kind, layout, COUNTS}
use Rattle.tally.specs.Tally.{count_of, own_of, refusal_of, plus_on, plus, last_of, add_of, next, lent_refusal, lent_last}
use Rattle.tally.specs.declared.Tally.{Tally}
use Rattle.tally.proofs.Tallied.{answers, leaves}
use Rattle.tally.proofs.Answers.{its_own, too_short, of_tally}

beside : (kinds : List Kind) (n : Kind → ℕ) (counts rest : List ℕ) → length kinds ≤ length counts
    → plus_on kinds n (counts ++ rest) ≡ plus_on kinds n counts ++ rest
beside [] n counts rest long = refl
beside (kind ∷ kinds) n [] rest long = absurd (let z : ⊥ = omega arith in z)
beside (kind ∷ kinds) n (count ∷ counts) rest long =
    ap (λ (l : List ℕ). (count + n kind) % 2 ^ 64 ∷ l) (beside kinds n counts rest (omega arith))

module _ (counts rest : List ℕ) (long : COUNTS ≤ length counts) where
  plus_beside : (n : Kind → ℕ) → plus n (counts ++ rest) ≡ plus n counts ++ rest
  plus_beside n = unfold plus in beside layout n counts rest long

  last_beside : (r : ℕ) (s : List ℕ) → last_of r s (counts ++ rest) ≡ last_of r s counts ++ rest
  last_beside r s = by_test (eqb r 0) (λ e. simp e (plus_beside (count_of (s ∷ [])))) (λ e. simp e)

  refusal_beside : (own : ℕ) → lent_refusal own (counts ++ rest) ≡ refusal_of own (get_or counts 0 0)
  refusal_beside own =
      of_tally own (counts ++ rest) (omega (arith, length-append counts rest))
      ∙ ap (refusal_of own) (get_or-append counts rest 0 0 (omega arith))

module _ (t : Tally) (rest s : List ℕ) (long : COUNTS ≤ length t.counts) where
  pub lent_refusal_lem : lent_refusal (own_of s) (t.counts ++ rest) ≡ refused_with (add_of t s)
  lent_refusal_lem = refusal_beside t.counts rest long (own_of s) ∙ sym (answers t s)

  pub lent_last_lem : lent_last s (t.counts ++ rest) ≡ (next t s).counts ++ rest
  lent_last_lem =
      ap (λ (r : ℕ). last_of r s (t.counts ++ rest)) (refusal_beside t.counts rest long (own_of s))
      ∙ last_beside t.counts rest long (refusal_of (own_of s) (get_or t.counts 0 0)) s
      ∙ ap (λ (counts : List ℕ). counts ++ rest) (sym (leaves t s))

-- numbers too few for a tally stay as they are
pub too_few : (s counts : List ℕ) → length counts < COUNTS → lent_last s counts ≡ counts
too_few s counts short =
    by_test (eqb (own_of s) 0)
    (λ ok. simp (sym (too_short (own_of s) counts (eqb-true (own_of s) 0 ok) short)))
    (λ bad. simp (sym (its_own (own_of s) counts (eqb-false (own_of s) 0 bad)), bad))
