-- The operand places of an instruction, one by one. Assumes nothing.
use Rattle.std.proofs.Common.{◌≡◌, refl, sym, ap, ◌∙◌, List, [], ◌∷◌, ◌++◌, map, append-nil, append_assoc, ℕ, zero, suc, ◌+◌, ◌*◌, ◌-◌, ◌<◌, ◌≤◌, add-one, arith, length, get_or, take, drop, replicate, length-append, take-suc}
use Rattle.std.proofs.Math.ListN.{length-map, length-replicate}
use Rattle.std.proofs.Math.Seq.{split_at}
use Rattle.insn.specs.Answer.{PLACES, used, unused, places, place_at, spread}
use Rattle.insn.specs.declared.Operand.{Operand}
use Rattle.insn.specs.declared.Operand.TheVariants.{Empty}
use Rattle.insn.specs.declared.Place.{Place}

-- no more operands than there are places
pub places_length : (os : List Operand) → length os ≤ PLACES → length (places os) ≡ PLACES
places_length os few = simp (length-append, length-map os used, length-replicate) (omega arith)

-- place n has operand n, or is unused
pub place_at_lem : (os : List Operand) (n : ℕ) → place_at (places os) n ≡ used (get_or os n Empty)
place_at_lem os = beside os (PLACES - length os)
  where
    beyond : (k n : ℕ) → place_at (replicate k unused) n ≡ unused
    beyond zero n = refl
    beyond (suc k) zero = refl
    beyond (suc k) (suc n) = beyond k n

    beside : (os : List Operand) (k n : ℕ) → place_at (map used os ++ replicate k unused) n ≡ used (get_or os n Empty)
    beside [] k n = beyond k n
    beside (o ∷ os) k zero = refl
    beside (o ∷ os) k (suc n) = beside os k n

-- the numbers of each operand

module _ (f : Operand → List ℕ) where
  pub spread_append : (ps qs : List Place) → spread f (ps ++ qs) ≡ spread f ps ++ spread f qs
  spread_append [] qs = refl
  spread_append (p ∷ ps) qs = rw (spread_append ps qs) (sym (append_assoc (f p.operand) (spread f ps) (spread f qs)))

  -- unused places have none, if the empty operand has none
  pub spread_unused : f Empty ≡ [] → (n : ℕ) → spread f (replicate n unused) ≡ []
  spread_unused e zero = refl
  spread_unused e (suc n) = rw e (spread_unused e n)

  pub spread_length : {k : ℕ} → ((o : Operand) → length (f o) ≡ k) → (ps : List Place) → length (spread f ps) ≡ k * length ps
  spread_length each [] = omega arith
  spread_length each (p ∷ ps) = simp length-append (omega (arith, each p.operand, spread_length each ps))

  -- up to place n, with it and after it
  module _ (ps : List Place) (n : ℕ) (there : n < length ps) where
    pub one_more : spread f (take (n + 1) ps) ≡ spread f (take n ps) ++ f (place_at ps n).operand
    one_more =
        rw (add-one n, take-suc ps n unused there)
        (spread_append (take n ps) (place_at ps n ∷ []) ∙ rw (append-nil (f (place_at ps n).operand)))

    pub in_turn : spread f ps ≡ spread f (take n ps) ++ (f (place_at ps n).operand ++ spread f (drop (suc n) ps))
    in_turn = ap (spread f) (split_at ps n unused there) ∙ spread_append (take n ps) (place_at ps n ∷ drop (suc n) ps)

    pub one_fits : length (spread f (take n ps)) + length (f (place_at ps n).operand) ≤ length (spread f ps)
    one_fits = omega (arith, simp length-append at (ap length in_turn))
