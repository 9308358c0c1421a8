-- No second result fits a contract. Each line is about the contract itself, as the check reads it from the source.
-- Assumes nothing.
use mathlib.Core.Path.{◌∙◌, sym}
use Rattle.word.specs.Only.{Only}
use Rattle.encode.proofs.encode.Reads as encode
use Rattle.encode.proofs.encode_with.Reads as encode_with
use Rattle.encode.proofs.home.Reads as home
use Rattle.encode.proofs.home_with.Reads as home_with

pub encode_only : Only encode.Post
encode_only κs a r r' s s' p q = p ∙ sym q

pub encode_with_only : Only encode_with.Post
encode_with_only κs a r r' s s' p q = p ∙ sym q

pub home_only : Only home.Post
home_only κs a r r' s s' p q = p ∙ sym q

pub home_with_only : Only home_with.Post
home_with_only κs a r r' s s' p q = p ∙ sym q
