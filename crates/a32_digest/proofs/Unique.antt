-- No second result fits the contract of what the crate exports. Assumes nothing.
use Rattle.std.proofs.Common.{sym, ◌∙◌}
use Rattle.word.specs.Only.{Only}
use Rattle.a32_digest.proofs.digest.Reads as digest

pub digest_only : Only digest.Post
digest_only κs a r r' s s' p q = p ∙ sym q
