-- No second result fits a contract. Each line is about the contract itself, as the check reads it from the source.
-- Assumes nothing.
use Rattle.std.proofs.Common.{◌∙◌, sym}
use Rattle.word.specs.Only.{Only}
use Rattle.a32.proofs.decode_bytes.Reads as decode_bytes
use Rattle.a32.proofs.decode.Reads as decode
use Rattle.a32.proofs.is_control.Reads as is_control

pub decode_bytes_only : Only decode_bytes.Post
decode_bytes_only κs a r r' s s' p q = p ∙ sym q

pub decode_only : Only decode.Post
decode_only κs a r r' s s' p q = p ∙ sym q

pub is_control_only : Only is_control.Post
is_control_only κs a r r' s s' p q = p ∙ sym q
