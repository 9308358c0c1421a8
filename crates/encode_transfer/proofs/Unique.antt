-- No second result fits a contract. Each line is about the contract itself, as the check reads it from the source.
-- Assumes nothing.
use Rattle.std.proofs.Common.{◌∙◌, sym}
use Rattle.word.specs.Only.{Only}
use Rattle.encode_transfer.proofs.block_word.Reads as block_word
use Rattle.encode_transfer.proofs.branch_word.Reads as branch_word
use Rattle.encode_transfer.proofs.blx_word.Reads as blx_word
use Rattle.encode_transfer.proofs.preload_word.Reads as preload_word
use Rattle.encode_transfer.proofs.barrier_word.Reads as barrier_word

pub block_word_only : Only block_word.Post
block_word_only κs a r r' s s' p q = p ∙ sym q

pub branch_word_only : Only branch_word.Post
branch_word_only κs a r r' s s' p q = p ∙ sym q

pub blx_word_only : Only blx_word.Post
blx_word_only κs a r r' s s' p q = p ∙ sym q

pub preload_word_only : Only preload_word.Post
preload_word_only κs a r r' s s' p q = p ∙ sym q

pub barrier_word_only : Only barrier_word.Post
barrier_word_only κs a r r' s s' p q = p ∙ sym q
