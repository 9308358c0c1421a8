-- A loop over a reader: what it has given, and what is left to it, are the section. Assumes nothing.
use mathlib.Core.Path.{◌≡◌, sym, ap, ◌∙◌}
use mathlib.Core.List.{List, [], ◌∷◌, ◌++◌, foldl, foldl-append}
use Rattle.std.proofs.Common.{append_assoc, append-nil}
use Rattle.section.specs.declared.Here.{Here}

module _ (given left all : List Here) (are : given ++ left ≡ all) where
  pub gives_next : (here : Here) (left' : List Here) → left ≡ here ∷ left' → (given ++ here ∷ []) ++ left' ≡ all
  gives_next here left' next = append_assoc given (here ∷ []) left' ∙ ap (λ (l : List Here). given ++ l) (sym next) ∙ are

  pub gave_all : left ≡ [] → given ≡ all
  gave_all none = sym (append-nil given) ∙ ap (λ (l : List Here). given ++ l) (sym none) ∙ are

-- a state that each place steps on
pub steps_on : {A : Type 0} (step : A → Here → A) (start : A) (given : List Here) (here : Here)
    → step (foldl step start given) here ≡ foldl step start (given ++ here ∷ [])
steps_on step start given here = sym (foldl-append step start given (here ∷ []))
