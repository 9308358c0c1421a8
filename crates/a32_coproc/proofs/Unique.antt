-- No second result fits a contract. Each line is about the contract itself, as the check reads it from the source.
-- Assumes nothing.
use Rattle.std.proofs.Common.{◌∙◌, sym}
use Rattle.word.specs.Only.{Only}
use Rattle.a32_coproc.proofs.coproc.Reads as coproc

pub coproc_only : Only coproc.Post
coproc_only κs a r r' s s' p q = p ∙ sym q
