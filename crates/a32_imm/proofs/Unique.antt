-- No second result fits a contract. Each line is about the contract itself, as the check reads it from the source.
-- Assumes nothing.
use Rattle.std.proofs.Common.{◌∙◌, sym}
use Rattle.word.specs.Only.{Only}
use Rattle.a32_imm.proofs.so_imm.Reads as so_imm
use Rattle.a32_imm.proofs.table.least_field.Reads as least_field
use Rattle.a32_imm.proofs.is_least.Reads as is_least
use Rattle.a32_imm.proofs.so_imm_ops.Reads as so_imm_ops

pub so_imm_only : Only so_imm.Post
so_imm_only κs a r r' s s' p q = p ∙ sym q

pub least_field_only : Only least_field.Post
least_field_only κs a r r' s s' p q = p ∙ sym q

pub is_least_only : Only is_least.Post
is_least_only κs a r r' s s' p q = p ∙ sym q

pub so_imm_ops_only : Only so_imm_ops.Post
so_imm_ops_only κs a r r' s s' p q = p ∙ sym q
