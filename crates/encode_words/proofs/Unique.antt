-- No second result fits a contract. Each line is about the contract itself, as the check reads it from the source.
-- Assumes nothing.
use Rattle.std.proofs.Common.{◌∙◌, sym}
use Rattle.word.specs.Only.{Only}
use Rattle.encode_words.proofs.filled_word.Reads as filled_word
use Rattle.encode_words.proofs.fill.draw.Reads as draw

pub filled_word_only : Only filled_word.Post
filled_word_only κs a r r' s s' p q = p ∙ sym q

pub draw_only : Only draw.Post
draw_only κs a r r' s s' p q = p ∙ sym q
