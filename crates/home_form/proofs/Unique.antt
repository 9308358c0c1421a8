-- No second result, and no second last state of the lent section and list, fits the contract. The line is about the contract itself, as the check
-- reads it from the source. Assumes nothing.
use mathlib.Core.Path.{◌≡◌, ◌∙◌, sym}
use Rattle.home_form.proofs.home_form.Reads as home_form

pub home_form_only : (κs : _) (a : _) (r r' : _) (s s' : _) → home_form.Post κs a r s → home_form.Post κs a r' s'
    → (r ≡ r') × (s.0.now ≡ s'.0.now) × (s.1.0.now ≡ s'.1.0.now)
home_form_only κs a r r' s s' p q = (p.answer ∙ sym q.answer, p.bytes ∙ sym q.bytes, p.left ∙ sym q.left)
