-- No second result, and no second last state of the lent buffer, fits a contract. Each line is about the contract itself, as the check
-- reads it from the source. Assumes nothing.
use mathlib.Core.Path.{◌≡◌, ◌∙◌, sym}
use Rattle.text.proofs.Unique.{one_put}
use Rattle.line.proofs.line.Reads as line
use Rattle.line.proofs.put_line.Reads as put_line
use Rattle.line.proofs.put_answered.Reads as put_answered
use Rattle.line.proofs.put_refused.Reads as put_refused

pub line_only : (κs : _) (a : _) (r r' : _) (s s' : _) → line.Post κs a r s → line.Post κs a r' s' → (r ≡ r') × (s.1.1.0.now ≡ s'.1.1.0.now)
line_only κs a r r' s s' p q = (p.0 ∙ sym q.0, p.1 ∙ sym q.1)

pub put_line_only : (κs : _) (a : _) (r r' : _) (s s' : _) → put_line.Post κs a r s → put_line.Post κs a r' s' → (r ≡ r') × (s.0.now ≡ s'.0.now)
put_line_only κs a r r' s s' p q = one_put p q

pub put_answered_only : (κs : _) (a : _) (r r' : _) (s s' : _) → put_answered.Post κs a r s → put_answered.Post κs a r' s'
    → (r ≡ r') × (s.0.now ≡ s'.0.now)
put_answered_only κs a r r' s s' p q = one_put p q

pub put_refused_only : (κs : _) (a : _) (r r' : _) (s s' : _) → put_refused.Post κs a r s → put_refused.Post κs a r' s'
    → (r ≡ r') × (s.0.now ≡ s'.0.now)
put_refused_only κs a r r' s s' p q = one_put p q
