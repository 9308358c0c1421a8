-- No second result fits a contract. Each line is about the contract itself, as the check reads it from the source.
-- Assumes nothing.
use Rattle.std.proofs.Common.{◌∙◌, sym}
use Rattle.word.specs.Only.{Only}
use Rattle.a32_multiply.proofs.multiply.Reads as multiply
use Rattle.a32_multiply.proofs.halfword.Reads as halfword
use Rattle.a32_multiply.proofs.sync.Reads as sync

pub multiply_only : Only multiply.Post
multiply_only κs a r r' s s' p q = p ∙ sym q

pub halfword_only : Only halfword.Post
halfword_only κs a r r' s s' p q = p ∙ sym q

pub sync_only : Only sync.Post
sync_only κs a r r' s s' p q = p ∙ sym q
