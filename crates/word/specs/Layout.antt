-- A word as the list of its fields, and back: one law for every layout.
use Rattle.std.specs.Prelude.{◌≡◌, ℕ, ◌+◌, ◌*◌, ◌/◌, ◌%◌, ◌^◌, ◌<◌, Bool, true, List, [], ◌∷◌, nat_lt}
use Rattle.std.proofs.Common.{sym, ap, ◌∙◌, subst, mod-eq_of_lt, div-one, shr-shr, pow-add}
use Rattle.std.proofs.Math.Nat.{mod-one}
use Rattle.std.proofs.lemmas.Nat.{mod-pow-add}
use Rattle.std.proofs.Math.Pow.{high, low}
use Rattle.std.proofs.Math.Arith.{digits_lt}
use Rattle.word.specs.Choice.{both}
use Rattle.word.specs.Field.{field, small}

-- the fields of w at these widths, from place lo up
abbrev pub fields : ℕ → List ℕ → ℕ → List ℕ
fields lo [] w = []
fields lo (k ∷ ks) w = field w lo k ∷ fields (lo + k) ks w

-- the number that has these fields, lowest first
abbrev pub join : List ℕ → List ℕ → ℕ
join [] vs = 0
join (k ∷ ks) [] = 0
join (k ∷ ks) (v ∷ vs) = join ks vs * 2 ^ k + v

-- every field is narrower than a word
abbrev pub narrow : List ℕ → Bool
narrow [] = true
narrow (k ∷ ks) = both (nat_lt k 32) (narrow ks)

abbrev pub total : List ℕ → ℕ
total [] = 0
total (k ∷ ks) = total ks + k

-- a field is the join of its parts
pub rejoin : (ks : List ℕ) (lo w : ℕ) → join ks (fields lo ks w) ≡ field w lo (total ks)
unfolding field
rejoin [] lo w = sym (mod-one _)
rejoin (k ∷ ks) lo w =
    ap (λ (x : ℕ). x * 2 ^ k + w / 2 ^ lo % 2 ^ k)
    (rejoin ks (lo + k) w ∙ ap (λ (x : ℕ). x % 2 ^ total ks) (sym (shr-shr w lo k)))
    ∙ sym (mod-pow-add (w / 2 ^ lo) (total ks) k)

-- a word is the join of its fields
pub whole : (ks : List ℕ) (w : ℕ) → w < 2 ^ total ks → join ks (fields 0 ks w) ≡ w
unfolding field
whole ks w h = rejoin ks 0 w ∙ rw div-one (mod-eq_of_lt h)

-- k bits from place lo on, and below them k' bits from place lo'
abbrev pub joined : ℕ → ℕ → ℕ → ℕ → ℕ → ℕ
joined w lo k lo' k' = field w lo k * 2 ^ k' + field w lo' k'

-- j bits above k bits are j + k bits
pub joined_small : (w lo j lo' k : ℕ) → joined w lo j lo' k < 2 ^ (j + k)
joined_small w lo j lo' k =
    subst (λ (n : ℕ). joined w lo j lo' k < n) (sym (pow-add 2 j k)) (digits_lt (small w lo j) (small w lo' k))

-- cut in two again
pub upper : (w lo j lo' k : ℕ) → joined w lo j lo' k / 2 ^ k ≡ field w lo j
upper w lo j lo' k = high (field w lo j) k (small w lo' k)

pub lower : (w lo j lo' k : ℕ) → joined w lo j lo' k % 2 ^ k ≡ field w lo' k
lower w lo j lo' k = low (field w lo j) k (small w lo' k)
