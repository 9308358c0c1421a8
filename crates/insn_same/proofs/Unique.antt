-- No second result fits the contract of what the crate exports. Assumes nothing.
use mathlib.Core.Path.{◌∙◌, sym}
use Rattle.word.specs.Only.{Only}
use Rattle.insn_same.proofs.same.Reads as same

pub same_only : Only same.Post
same_only κs a r r' s s' p q = p ∙ sym q
