-- No second result, and no second last state of a lent array, fits a contract. Each line is about the contract itself, as the check reads it from
-- the source. Assumes nothing.
use mathlib.Core.Path.{◌≡◌, ◌∙◌, sym}
use Rattle.word.specs.Only.{Only}
use Rattle.callers_index.proofs.Lent.{one_refusal}
use Rattle.callers_index.proofs.update.Reads as update
use Rattle.callers_index.proofs.updated_len.Reads as updated_len
use Rattle.callers_index.proofs.lent_refusal.Reads as lent_refusal
use Rattle.callers_index.proofs.callers.Reads as callers

pub update_only : (κs : _) (a : _) (r r' : _) (s s' : _) → update.Post κs a r s → update.Post κs a r' s'
    → (r ≡ r') × (s.0.now ≡ s'.0.now)
update_only κs a r r' s s' p q = (p.0 ∙ sym q.0, p.1 ∙ sym q.1)

pub updated_len_only : Only updated_len.Post
updated_len_only κs a r r' s s' p q = p ∙ sym q

pub lent_refusal_only : Only lent_refusal.Post
lent_refusal_only κs a r r' s s' p q = one_refusal r r' (p ∙ sym q)

pub callers_only : (κs : _) (a : _) (r r' : _) (s s' : _) → callers.Post κs a r s → callers.Post κs a r' s'
    → (r ≡ r') × (s.1.1.1.0.now ≡ s'.1.1.1.0.now)
callers_only κs a r r' s s' p q = (p.0 ∙ sym q.0, p.1 ∙ sym q.1)
