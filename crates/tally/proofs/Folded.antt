-- A section counted place by place, its end last, is counted whole. Assumes nothing.
use Rattle.std.proofs.Common.{◌≡◌, ℕ, List, [], ◌∷◌, ◌++◌, sym, ap, ◌∙◌, add-zero}
use mathlib.Core.Path.{fun_ext}
use mathlib.Core.List.{foldl, foldl-append}
use Rattle.section.specs.Section.{places_of}
use Rattle.section.specs.declared.Here.{Here}
use Rattle.section.specs.declared.Here.TheVariants.{End}
use Rattle.tally.specs.Kinds.{Kind, is_of}
use Rattle.tally.specs.Tally.{how_many, count_of, plus}
use Rattle.tally.specs.Steps.{one_of}
use Rattle.tally.proofs.Adding.{plus_plus}

-- the counts with one more place
abbrev pub counting : List ℕ → Here → List ℕ
counting counts here = plus (one_of here) counts

-- from one place on
folded : (here : Here) (places : List Here) (counts : List ℕ)
    → foldl counting (counting counts here) places ≡ plus (λ kind. how_many (is_of kind) (here ∷ places)) counts
folded here [] counts = ap (λ (n : Kind → ℕ). plus n counts) (fun_ext (λ kind. sym (add-zero _)))
folded here (after ∷ places) counts =
    folded after places (counting counts here) ∙ plus_plus (one_of here) (λ kind. how_many (is_of kind) (after ∷ places)) counts

-- and all of them, with the end
pub counted : (s : List ℕ) (counts : List ℕ) → counting (foldl counting counts (places_of s)) End ≡ plus (count_of (s ∷ [])) counts
counted s counts = sym (foldl-append counting counts (places_of s) (End ∷ [])) ∙ from (places_of s)
  where
    from : (places : List Here) → foldl counting counts (places ++ End ∷ []) ≡ plus (λ kind. how_many (is_of kind) (places ++ End ∷ [])) counts
    from [] = folded End [] counts
    from (here ∷ places) = folded here (places ++ End ∷ []) counts
