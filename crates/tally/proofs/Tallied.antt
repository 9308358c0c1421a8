-- The tally of sections that were added one by one, from zeros on: each count is the number of what it counts in those that were added, and none
-- wraps. Assumes nothing.
use Rattle.std.proofs.Common.{◌≡◌, ℕ, suc, ◌+◌, ◌-◌, ◌^◌, ◌<◌, ◌≤◌, true, false, eqb, ltb, List, [], ◌∷◌, ◌++◌, map, length, get_or, take, sym, refl, ap, ◌∙◌, ap₂, append_assoc, append-nil, mod-eq_of_lt, arith, length-append, ltb-false, ltb-true, le-ltb, lt-ltb, ne_eqb}
use Rattle.word.specs.Refusal.{refused_with}
use mathlib.Core.Path.{fun_ext}
use lib.Seq.{take-nil}
use mathlib.Core.Logic.{inl, inr}
use Rattle.word.specs.Choice.{by_test, tested}
use Rattle.section.specs.Section.{opened_of}
use Rattle.section.proofs.Refused.{InTable, in_table, answers_with}
use Rattle.tally.specs.Kinds.{Kind, layout}
use Rattle.tally.specs.Tally.{count_of, counts_of, none_of, own_of, MOST, refusal_of, plus_on, plus, last_of, add_of, next, add_all, accepted_of, added_of}
use Rattle.tally.specs.declared.Tally.{Tally}
use Rattle.tally.proofs.Counted.{count_append, few, sections_once}

abbrev tally_of : List (List ℕ) → Tally
tally_of ss = record { counts = counts_of ss }

plus_on_lem : (m n : Kind → ℕ) → ((kind : Kind) → m kind + n kind < 2 ^ 64) → (kinds : List Kind)
    → plus_on kinds n (map m kinds) ≡ map (λ kind. m kind + n kind) kinds
plus_on_lem m n small [] = refl
plus_on_lem m n small (kind ∷ kinds) = ap₂ ◌∷◌ (mod-eq_of_lt (small kind)) (plus_on_lem m n small kinds)

-- one more section on those that are in
one_more : (ss : List (List ℕ)) (s : List ℕ) → length ss < MOST → plus (count_of (s ∷ [])) (counts_of ss) ≡ counts_of (ss ++ s ∷ [])
unfolding plus counts_of
one_more ss s room =
    plus_on_lem (count_of ss) (count_of (s ∷ [])) (λ kind. omega (arith, few ss kind, few (s ∷ []) kind)) layout
    ∙ ap (λ (n : Kind → ℕ). map n layout) (fun_ext (λ kind. sym (count_append ss (s ∷ []) kind)))

how_many_in : (ss : List (List ℕ)) → get_or (counts_of ss) 0 0 ≡ length ss
how_many_in ss = unfold counts_of in sections_once ss

module _ (t : Tally) (s : List ℕ) where
  is_refused : eqb (own_of s) 0 ≡ false → next t s ≡ t
  is_refused bad = unfold add_of in simp bad

  module _ (ok : eqb (own_of s) 0 ≡ true) where
    is_full : MOST ≤ get_or t.counts 0 0 → next t s ≡ t
    is_full full = unfold add_of in simp (ok, le-ltb (get_or t.counts 0 0) MOST full)

    goes_in : get_or t.counts 0 0 < MOST → next t s ≡ record { counts = plus (count_of (s ∷ [])) t.counts }
    goes_in room = unfold add_of in simp (ok, lt-ltb (get_or t.counts 0 0) MOST room)

  -- its number, and the counts that are left
  n : ℕ
  n = refusal_of (own_of s) (get_or t.counts 0 0)

  tabled : InTable n
  unfolding n
  tabled =
      tested InTable (eqb (own_of s) 0)
      (λ ok. tested InTable (ltb (get_or t.counts 0 0) MOST) {x = 0} {y = 16} (λ few. inl refl) (λ many. inr refl))
      (λ bad. in_table (opened_of s))

  pub answers : refused_with (add_of t s) ≡ refusal_of (own_of s) (get_or t.counts 0 0)
  unfolding n
  answers = unfold add_of in answers_with _ n tabled

  pub leaves : (next t s).counts ≡ last_of (refusal_of (own_of s) (get_or t.counts 0 0)) s t.counts
  unfolding n
  leaves = unfold add_of in by_test (eqb n 0) (λ e. simp e) (λ e. simp e)

  pub stays : (refused_with (add_of t s) ≡ 0 → ⊥) → next t s ≡ t
  stays bad = unfold add_of in simp (ne_eqb (refusal_of (own_of s) (get_or t.counts 0 0)) 0 (λ none. bad (answers ∙ none)))

-- those that are added to sections that are in already
abbrev rest : List (List ℕ) → List (List ℕ) → List (List ℕ)
rest ss more = ss ++ take (MOST - length ss) (accepted_of more)

module _ (ss : List (List ℕ)) where
  -- with room for one, the first of the rest goes in; with none, there is no rest
  with_room : (s : List ℕ) (more : List (List ℕ)) → eqb (own_of s) 0 ≡ true → length ss < MOST → rest ss (s ∷ more) ≡ rest (ss ++ s ∷ []) more
  with_room s more ok room =
      let left = MOST - length (ss ++ s ∷ []) in
      let one_left : MOST - length ss ≡ suc left = omega (arith, length-append ss (s ∷ [])) in
      simp (ok, one_left, append_assoc)

  with_none : (more : List (List ℕ)) → MOST ≤ length ss → rest ss more ≡ ss
  with_none more full =
      let none_left : MOST - length ss ≡ 0 = omega arith in
      simp none_left (append-nil ss)

from : (ss : List (List ℕ)) → length ss ≤ MOST → (more : List (List ℕ)) → add_all (tally_of ss) more ≡ tally_of (rest ss more)
from ss fits [] = ap tally_of (sym (ap (λ (l : List (List ℕ)). ss ++ l) (take-nil (MOST - length ss)) ∙ append-nil ss))
from ss fits (s ∷ more) =
    by_test (eqb (own_of s) 0)
    (λ ok.
    by_test (ltb (length ss) MOST)
    (λ e.
    let room = ltb-true (length ss) MOST e in
    let in-it : next (tally_of ss) s ≡ tally_of (ss ++ s ∷ []) =
    goes_in (tally_of ss) s ok (omega (arith, how_many_in ss)) ∙ ap (λ (counts : List ℕ). record { counts = counts }) (one_more ss s room) in
    ap (λ (t : Tally). add_all t more) in-it
    ∙ from (ss ++ s ∷ []) (omega (arith, length-append ss (s ∷ []))) more
    ∙ ap tally_of (sym (with_room ss s more ok room)))
    (λ e.
    let full = ltb-false (length ss) MOST e in
    ap (λ (t : Tally). add_all t more) (is_full (tally_of ss) s ok (omega (arith, how_many_in ss)))
    ∙ from ss fits more
    ∙ ap tally_of (with_none ss more full ∙ sym (with_none ss (s ∷ more) full))))
    (λ bad. ap (λ (t : Tally). add_all t more) (is_refused (tally_of ss) s bad) ∙ from ss fits more ∙ simp bad)

pub tallies : (ss : List (List ℕ)) → add_all none_of ss ≡ record { counts = counts_of (added_of ss) }
tallies ss = unfold counts_of in from [] (omega arith) ss
