-- No second result, and no second last state of lent numbers, fits a contract. Each line is about the contract itself, as the check reads it from the
-- source. Assumes nothing.
use Rattle.std.proofs.Common.{◌≡◌, sym, ◌∙◌}
use Rattle.word.specs.Only.{Only}
use Rattle.section.proofs.Refused.{one_answer}
use Rattle.tally.proofs.Tally.none.Reads as none
use Rattle.tally.proofs.add.Reads as add
use Rattle.tally.proofs.add_to.Reads as add_to

pub none_only : Only none.Post
none_only κs a r r' s s' p q = p ∙ sym q

pub add_only : Only add.Post
add_only κs a r r' s s' p q = p ∙ sym q

pub add_to_only : (κs : _) (a : _) (r r' : _) (s s' : _) → add_to.Post κs a r s → add_to.Post κs a r' s' → (r ≡ r') × (s.0.now ≡ s'.0.now)
add_to_only κs a r r' s s' p q = (one_answer r r' (p.0 ∙ sym q.0), p.1 ∙ sym q.1)
