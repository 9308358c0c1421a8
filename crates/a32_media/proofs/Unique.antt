-- No second result fits a contract. The line is about the contract itself, as the check reads it from the source.
-- Assumes nothing.
use Rattle.std.proofs.Common.{◌∙◌, sym}
use Rattle.word.specs.Only.{Only}
use Rattle.a32_media.proofs.media.Reads as media

pub media_only : Only media.Post
media_only κs a r r' s s' p q = p ∙ sym q
