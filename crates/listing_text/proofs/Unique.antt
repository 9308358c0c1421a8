-- No second result, and no second last state of the lent buffer, fits a contract. Each line is about the contract itself, as the check
-- reads it from the source. Assumes nothing.
use mathlib.Core.Path.{◌≡◌, ◌∙◌, sym}
use Rattle.listing_text.proofs.listing.Reads as listing

pub listing_only : (κs : _) (a : _) (r r' : _) (s s' : _) → listing.Post κs a r s → listing.Post κs a r' s'
    → (r ≡ r') × (s.1.0.now ≡ s'.1.0.now)
listing_only κs a r r' s s' p q = (p.0 ∙ sym q.0, p.1 ∙ sym q.1)
