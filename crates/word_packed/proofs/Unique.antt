-- No second result fits the contracts of what the crate exports. Assumes nothing.
use mathlib.Core.Path.{◌∙◌, sym}
use Rattle.word.specs.Only.{Only}
use Rattle.word_packed.proofs.pack.Reads as pack
use Rattle.word_packed.proofs.pack_answer.Reads as pack_answer

pub pack_only : Only pack.Post
pack_only κs a r r' s s' p q = p ∙ sym q

pub pack_answer_only : Only pack_answer.Post
pack_answer_only κs a r r' s s' p q = p ∙ sym q
