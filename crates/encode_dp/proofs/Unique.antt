-- No second result fits a contract. Each line is about the contract itself, as the check reads it from the source.
-- Assumes nothing.
use Rattle.std.proofs.Common.{◌∙◌, sym}
use Rattle.word.specs.Only.{Only}
use Rattle.encode_dp.proofs.dp_word.Reads as dp_word
use Rattle.encode_dp.proofs.wide_word.Reads as wide_word
use Rattle.encode_dp.proofs.msr_immediate_word.Reads as msr_immediate_word

pub dp_word_only : Only dp_word.Post
dp_word_only κs a r r' s s' p q = p ∙ sym q

pub wide_word_only : Only wide_word.Post
wide_word_only κs a r r' s s' p q = p ∙ sym q

pub msr_immediate_word_only : Only msr_immediate_word.Post
msr_immediate_word_only κs a r r' s s' p q = p ∙ sym q
