-- No second result fits a contract. Each line is about the contract itself, as the check reads it from the source.
-- Assumes nothing.
use Rattle.std.proofs.Common.{◌∙◌, sym}
use Rattle.word.specs.Only.{Only}
use Rattle.a32_misc.proofs.misc.Reads as misc

pub misc_only : Only misc.Post
misc_only κs a r r' s s' p q = p ∙ sym q
