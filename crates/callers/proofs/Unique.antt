-- No second result, and no second last state of the lent section and array, fits a contract. Each line is about the contract itself, as the check
-- reads it from the source. Assumes nothing.
use mathlib.Core.Path.{◌≡◌, ◌∙◌, sym}
use Rattle.callers.proofs.build.Reads as build
use Rattle.callers.proofs.replace.Reads as replace

pub build_only : (κs : _) (a : _) (r r' : _) (s s' : _) → build.Post κs a r s → build.Post κs a r' s' → (r ≡ r') × (s.1.0.now ≡ s'.1.0.now)
build_only κs a r r' s s' p q = (p.answer ∙ sym q.answer, p.left ∙ sym q.left)

pub replace_only : (κs : _) (a : _) (r r' : _) (s s' : _) → replace.Post κs a r s → replace.Post κs a r' s'
    → (r ≡ r') × (s.0.now ≡ s'.0.now) × (s.1.1.1.0.now ≡ s'.1.1.1.0.now)
replace_only κs a r r' s s' p q = (p.answer ∙ sym q.answer, p.words ∙ sym q.words, p.left ∙ sym q.left)
