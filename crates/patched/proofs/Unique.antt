-- No second result, and no second last state of the lent buffer, fits a contract. Each line is about the contract itself, as the check
-- reads it from the source. Assumes nothing.
use mathlib.Core.Path.{◌≡◌, ◌∙◌, sym}
use Rattle.patched.proofs.patched.Reads as patched

pub patched_only : (κs : _) (a : _) (r r' : _) (s s' : _) → patched.Post κs a r s → patched.Post κs a r' s'
    → (r ≡ r') × (s.1.1.0.now ≡ s'.1.1.0.now)
patched_only κs a r r' s s' p q = (p.0 ∙ sym q.0, p.1 ∙ sym q.1)
