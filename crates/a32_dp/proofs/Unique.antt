-- No second result fits a contract. Each line is about the contract itself, as the check reads it from the source.
-- Assumes nothing.
use Rattle.std.proofs.Common.{◌∙◌, sym}
use Rattle.word.specs.Only.{Only}
use Rattle.a32_dp.proofs.dp_imm.dp_imm.Reads as dp_imm
use Rattle.a32_dp.proofs.dp_imm.is_hint.Reads as is_hint
use Rattle.a32_dp.proofs.dp_reg.dp_reg.Reads as dp_reg
use Rattle.a32_dp.proofs.names.dp_name.Reads as dp_name
use Rattle.a32_dp.proofs.names.shift_name.Reads as shift_name
use Rattle.a32_dp.proofs.names.lead.Reads as lead

pub dp_imm_only : Only dp_imm.Post
dp_imm_only κs a r r' s s' p q = p ∙ sym q

pub is_hint_only : Only is_hint.Post
is_hint_only κs a r r' s s' p q = p ∙ sym q

pub dp_reg_only : Only dp_reg.Post
dp_reg_only κs a r r' s s' p q = p ∙ sym q

pub dp_name_only : Only dp_name.Post
dp_name_only κs a r r' s s' p q = p ∙ sym q

pub shift_name_only : Only shift_name.Post
shift_name_only κs a r r' s s' p q = p ∙ sym q

pub lead_only : Only lead.Post
lead_only κs a r r' s s' p q = p ∙ sym q
