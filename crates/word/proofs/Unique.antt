-- No second result fits a contract. Each line is about the contract itself, as the check reads it from the source.
-- Assumes nothing.
use Rattle.std.proofs.Common.{◌≡◌, sym, ◌∙◌}
use Rattle.word.specs.Only.{Only}
use Rattle.word.proofs.bits.Reads as bits
use Rattle.word.proofs.bit.Reads as bit
use Rattle.word.proofs.bits_then.Reads as bits_then
use Rattle.word.proofs.join.Reads as join
use Rattle.word.proofs.sext.Reads as sext
use Rattle.word.proofs.target.Reads as target
use Rattle.word.proofs.positive.Reads as positive
use Rattle.word.proofs.negative.Reads as negative
use Rattle.word.proofs.as_signed.Reads as as_signed
use Rattle.word.proofs.word_at.Reads as word_at
use Rattle.word.proofs.refusal.Refusal.number.Reads as number
use Rattle.word.proofs.refusal.number_of.Reads as number_of

pub bits_only : Only bits.Post
bits_only κs a r r' s s' p q = p ∙ sym q

pub bit_only : Only bit.Post
bit_only κs a r r' s s' p q = p ∙ sym q

pub bits_then_only : Only bits_then.Post
bits_then_only κs a r r' s s' p q = p ∙ sym q

pub join_only : Only join.Post
join_only κs a r r' s s' p q = p ∙ sym q

pub sext_only : Only sext.Post
sext_only κs a r r' s s' p q = p ∙ sym q

pub target_only : Only target.Post
target_only κs a r r' s s' p q = p ∙ sym q

pub positive_only : Only positive.Post
positive_only κs a r r' s s' p q = p ∙ sym q

pub negative_only : Only negative.Post
negative_only κs a r r' s s' p q = p ∙ sym q

pub as_signed_only : Only as_signed.Post
as_signed_only κs a r r' s s' p q = p ∙ sym q

pub word_at_only : Only word_at.Post
word_at_only κs a r r' s s' p q = p ∙ sym q

pub number_only : Only number.Post
number_only κs a r r' s s' p q = p ∙ sym q

pub number_of_only : (T : _) (laws : _) (copy : _) (C : _) (d : _) (κs : _) (a : _) (r r' : _) (s s' : _) → number_of.Post T laws copy C d κs a r s
    → number_of.Post T laws copy C d κs a r' s' → r ≡ r'
number_of_only T laws copy C d κs a r r' s s' p q = p ∙ sym q
