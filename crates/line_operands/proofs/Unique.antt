-- No second result, and no second last state of the lent buffer, fits a contract. Each line is about the contract itself, as the check
-- reads it from the source. Assumes nothing.
use mathlib.Core.Path.{◌≡◌}
use Rattle.text.proofs.Unique.{one_put}
use Rattle.line_operands.proofs.put_places.Reads as put_places

pub put_places_only : (κs : _) (a : _) (r r' : _) (s s' : _) → put_places.Post κs a r s → put_places.Post κs a r' s'
    → (r ≡ r') × (s.0.now ≡ s'.0.now)
put_places_only κs a r r' s s' p q = one_put p q
