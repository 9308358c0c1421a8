-- No second result fits a contract. Each line is about the contract itself, as the check reads it from the source. A part is the same if it is the
-- same bytes at the same place in memory. Assumes nothing.
use mathlib.Core.Path.{◌≡◌, ◌∙◌, sym}
use Rattle.word.specs.Only.{Only}
use Rattle.patch.proofs.find.Reads as find
use Rattle.patch.proofs.run.Reads as run
use Rattle.patch.proofs.run_refusal.Reads as run_refusal

pub find_only : Only find.Post
find_only κs a r r' s s' p q = p ∙ sym q

pub run_only : (κs : _) (a : _) (r r' : _) (s s' : _) → run.Post κs a r s → run.Post κs a r' s' → (r.now ≡ r'.now) × (r.ref_ptr ≡ r'.ref_ptr)
run_only κs a r r' s s' p q = (p.0 ∙ sym q.0, p.1 ∙ sym q.1)

pub run_refusal_only : Only run_refusal.Post
run_refusal_only κs a r r' s s' p q = p ∙ sym q
