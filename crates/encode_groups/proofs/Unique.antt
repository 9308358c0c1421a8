-- No second result fits a contract. Each line is about the contract itself, as the check reads it from the source.
-- Assumes nothing.
use Rattle.std.proofs.Common.{◌∙◌, sym}
use Rattle.word.specs.Only.{Only}
use Rattle.encode_groups.proofs.coproc.coproc_word.Reads as coproc_word
use Rattle.encode_groups.proofs.extra.extra_word.Reads as extra_word
use Rattle.encode_groups.proofs.ldst.ldst_word.Reads as ldst_word
use Rattle.encode_groups.proofs.media.media_word.Reads as media_word
use Rattle.encode_groups.proofs.misc.misc_word.Reads as misc_word
use Rattle.encode_groups.proofs.multiply.halfword_word.Reads as halfword_word
use Rattle.encode_groups.proofs.multiply.multiply_word.Reads as multiply_word
use Rattle.encode_groups.proofs.multiply.sync_word.Reads as sync_word

pub coproc_word_only : Only coproc_word.Post
coproc_word_only κs a r r' s s' p q = p ∙ sym q

pub extra_word_only : Only extra_word.Post
extra_word_only κs a r r' s s' p q = p ∙ sym q

pub ldst_word_only : Only ldst_word.Post
ldst_word_only κs a r r' s s' p q = p ∙ sym q

pub media_word_only : Only media_word.Post
media_word_only κs a r r' s s' p q = p ∙ sym q

pub misc_word_only : Only misc_word.Post
misc_word_only κs a r r' s s' p q = p ∙ sym q

pub halfword_word_only : Only halfword_word.Post
halfword_word_only κs a r r' s s' p q = p ∙ sym q

pub multiply_word_only : Only multiply_word.Post
multiply_word_only κs a r r' s s' p q = p ∙ sym q

pub sync_word_only : Only sync_word.Post
sync_word_only κs a r r' s s' p q = p ∙ sym q
