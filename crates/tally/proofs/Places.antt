-- Each kind of the layout has a place of its own there: what is added at a place is added to its kind, and what stands at a place of a section
-- adds to its kinds. Assumes nothing.
use Rattle.std.proofs.Common.{◌≡◌, ℕ, zero, suc, ◌+◌, ◌%◌, ◌^◌, ◌<◌, ◌≤◌, Bool, true, eqb, List, [], ◌∷◌, length, get_or, set, sym, refl, ap, ◌∙◌, ap₂, mod-eq_of_lt, arith, eq-eqb, ne_eqb, eqb-true}
use Rattle.word.specs.Choice.{both, parts}
use Rattle.tally.specs.Kinds.{Kind, layout, COUNTS, one}
use Rattle.tally.specs.Tally.{plus_on, plus}
use Rattle.tally.specs.Steps.{place_of, at}

-- kinds in order, from a place on
abbrev ordered : List Kind → ℕ → Bool
ordered [] from = true
ordered (kind ∷ kinds) from = both (eqb (place_of kind) from) (ordered kinds (suc from))

in_order : ordered layout 0 ≡ true
in_order = refl

-- the counts of a lent array or of a tally are numbers of 64 bits
abbrev pub Bounded : List ℕ → Type 0
Bounded counts = (i : ℕ) → get_or counts i 0 < 2 ^ 64

pub off : (a b : ℕ) → (a ≡ b → ⊥) → one (eqb a b) ≡ 0
off a b h = simp (ne_eqb a b h)

on : (a b : ℕ) → a ≡ b → one (eqb a b) ≡ 1
on a b h = simp (eq-eqb a b h)

module _ (kind : Kind) (kinds : List Kind) (from : ℕ) (o : ordered (kind ∷ kinds) from ≡ true) where
  head : place_of kind ≡ from
  head = eqb-true (place_of kind) from (parts (eqb (place_of kind) from) (ordered kinds (suc from)) o).0

  tail : ordered kinds (suc from) ≡ true
  tail = (parts (eqb (place_of kind) from) (ordered kinds (suc from)) o).1

  stays : {place : ℕ} (count : ℕ) → count < 2 ^ 64 → (from ≡ place → ⊥) → (count + at place kind) % 2 ^ 64 ≡ count
  stays {place} count small other =
      let none : at place kind ≡ 0 = off _ _ (λ e. other (sym head ∙ e)) in
      let same : count + at place kind ≡ count = omega arith in
      ap (λ (x : ℕ). x % 2 ^ 64) same ∙ mod-eq_of_lt small

-- a place before them is not theirs
none_there : (kinds : List Kind) (from place : ℕ) → ordered kinds from ≡ true → place < from → (counts : List ℕ) → Bounded counts
    → plus_on kinds (at place) counts ≡ counts
none_there [] from place o h counts b = refl
none_there (kind ∷ kinds) from place o h [] b = refl
none_there (kind ∷ kinds) from place o h (count ∷ counts) b =
    ap₂ ◌∷◌ (stays kind kinds from o count (b 0) (λ e. omega arith))
    (none_there kinds (suc from) place (tail kind kinds from o) (omega arith) counts (λ i. b (suc i)))

raises_from : (kinds : List Kind) (from place : ℕ) → ordered kinds from ≡ true → place < length kinds → (counts : List ℕ)
    → length kinds ≤ length counts → Bounded counts → set counts place ((get_or counts place 0 + 1) % 2 ^ 64) ≡ plus_on kinds (at (from + place)) counts
raises_from [] from place o h counts long b = absurd (let z : ⊥ = omega arith in z)
raises_from (kind ∷ kinds) from place o h [] long b = absurd (let z : ⊥ = omega arith in z)
raises_from (kind ∷ kinds) from zero o h (count ∷ counts) long b =
    let one : at (from + 0) kind ≡ 1 = on _ _ (head kind kinds from o ∙ (let z : from ≡ from + 0 = omega arith in z)) in
    ap₂ ◌∷◌ (ap (λ (x : ℕ). (count + x) % 2 ^ 64) (sym one))
    (sym (none_there kinds (suc from) (from + 0) (tail kind kinds from o) (omega arith) counts (λ i. b (suc i))))
raises_from (kind ∷ kinds) from (suc place) o h (count ∷ counts) long b =
    let along : suc from + place ≡ from + suc place = omega arith in
    ap₂ ◌∷◌ (sym (stays kind kinds from o count (b 0) (λ e. omega arith)))
    (raises_from kinds (suc from) place (tail kind kinds from o) (omega arith) counts (omega arith) (λ i. b (suc i))
    ∙ ap (λ (x : ℕ). plus_on kinds (at x) counts) along)

pub raises : (place : ℕ) → place < COUNTS → (counts : List ℕ) → COUNTS ≤ length counts → Bounded counts
    → set counts place ((get_or counts place 0 + 1) % 2 ^ 64) ≡ plus (at place) counts
raises place h counts long b = unfold plus in
    raises_from layout 0 place in_order h counts long b ∙ ap (λ (x : ℕ). plus_on layout (at x) counts) (omega arith)
