-- Adding to counts, once and twice. Assumes nothing.
use Rattle.std.proofs.Common.{◌≡◌, ℕ, suc, ◌+◌, ◌%◌, ◌^◌, Bool, true, List, [], ◌∷◌, length, refl, ap, ◌∙◌, ap₂, add_assoc}
use native.Mathlib.Nat.{mod-add-mod}
use Rattle.word.specs.Choice.{both, parts}
use Rattle.tally.specs.Kinds.{Kind, layout}
use Rattle.tally.specs.Tally.{plus_on, plus}

length_on : (kinds : List Kind) (n : Kind → ℕ) (counts : List ℕ) → length (plus_on kinds n counts) ≡ length counts
length_on [] n counts = refl
length_on (kind ∷ kinds) n [] = refl
length_on (kind ∷ kinds) n (count ∷ counts) = ap suc (length_on kinds n counts)

twice_on : (kinds : List Kind) (m n : Kind → ℕ) (counts : List ℕ)
    → plus_on kinds n (plus_on kinds m counts) ≡ plus_on kinds (λ kind. m kind + n kind) counts
twice_on [] m n counts = refl
twice_on (kind ∷ kinds) m n [] = refl
twice_on (kind ∷ kinds) m n (count ∷ counts) =
    ap₂ ◌∷◌
    (mod-add-mod (count + m kind) (2 ^ 64) (n kind) ∙ ap (λ (x : ℕ). x % 2 ^ 64) (add_assoc count (m kind) (n kind)))
    (twice_on kinds m n counts)

-- every kind of a list passes a test
abbrev pub all : (Kind → Bool) → List Kind → Bool
all test [] = true
all test (kind ∷ kinds) = both (test kind) (all test kinds)

-- numbers that are equal on these kinds add the same
same_on : (test : Kind → Bool) (m n : Kind → ℕ) → ((kind : Kind) → test kind ≡ true → m kind ≡ n kind)
    → (kinds : List Kind) → all test kinds ≡ true → (counts : List ℕ) → plus_on kinds m counts ≡ plus_on kinds n counts
same_on test m n same [] t counts = refl
same_on test m n same (kind ∷ kinds) t [] = refl
same_on test m n same (kind ∷ kinds) t (count ∷ counts) =
    let passed = parts (test kind) (all test kinds) t in
    ap₂ ◌∷◌ (ap (λ (x : ℕ). (count + x) % 2 ^ 64) (same kind passed.0)) (same_on test m n same kinds passed.1 counts)

-- and so of all counts
pub length_plus : (n : Kind → ℕ) (counts : List ℕ) → length (plus n counts) ≡ length counts
length_plus n counts = unfold plus in length_on layout n counts

pub plus_plus : (m n : Kind → ℕ) (counts : List ℕ) → plus n (plus m counts) ≡ plus (λ kind. m kind + n kind) counts
plus_plus m n counts = unfold plus in twice_on layout m n counts

pub plus_same : (test : Kind → Bool) → all test layout ≡ true → (m n : Kind → ℕ) → ((kind : Kind) → test kind ≡ true → m kind ≡ n kind)
    → (counts : List ℕ) → plus m counts ≡ plus n counts
plus_same test t m n same counts = unfold plus in same_on test m n same layout t counts
