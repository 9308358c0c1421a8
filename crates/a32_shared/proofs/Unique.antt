-- No second result fits a contract. Each line is about the contract itself, as the check reads it from the source.
-- Assumes nothing.
use Rattle.std.proofs.Common.{ℕ, ◌∙◌, sym, Fits, w64}
use Rattle.word.specs.Only.{Only}
use Rattle.a32_shared.proofs.reg.Reads as reg
use Rattle.a32_shared.proofs.reg_at.Reads as Reg-at
use Rattle.a32_shared.proofs.op_at.Reads as op_at
use Rattle.a32_shared.proofs.cond_of.Reads as cond_of
use Rattle.a32_shared.proofs.count.Reads as count
use Rattle.a32_shared.proofs.signed_count.Reads as signed_count
use Rattle.a32_shared.proofs.status_mask.Reads as status_mask
use Rattle.a32_shared.proofs.pc_write.Reads as pc_write
use Rattle.a32_shared.proofs.by_s.Reads as by_s
use Rattle.a32_shared.proofs.at.Reads as at
use Rattle.a32_shared.proofs.registers.Reads as registers
use Rattle.a32_shared.proofs.shift_kind.Reads as shift_kind
use Rattle.a32_shared.proofs.shift_amount.Reads as shift_amount
use Rattle.a32_shared.proofs.decode_shift.Reads as decode_shift
use Rattle.a32_shared.proofs.is_plain.Reads as is_plain
use Rattle.a32_shared.proofs.is_rrx.Reads as is_rrx
use Rattle.a32_shared.proofs.shifted.Reads as shifted
use Rattle.a32_shared.proofs.shift_by_reg.Reads as shift_by_reg

pub reg_only : Only reg.Post
reg_only κs a r r' s s' p q = p ∙ sym q

pub reg_at_only : Only Reg-at.Post
reg_at_only κs a r r' s s' p q = p ∙ sym q

pub op_at_only : Only op_at.Post
op_at_only κs a r r' s s' p q = p ∙ sym q

pub cond_of_only : Only cond_of.Post
cond_of_only κs a r r' s s' p q = p ∙ sym q

pub count_only : Only count.Post
count_only κs a r r' s s' p q = p ∙ sym q

pub signed_count_only : Only signed_count.Post
signed_count_only κs a r r' s s' p q = p ∙ sym q

pub status_mask_only : Only status_mask.Post
status_mask_only κs a r r' s s' p q = p ∙ sym q

pub pc_write_only : Only pc_write.Post
pc_write_only κs a r r' s s' p q = p ∙ sym q

pub by_s_only : Only by_s.Post
by_s_only κs a r r' s s' p q = p ∙ sym q

pub at_only : Only at.Post
at_only κs a r r' s s' p q = p ∙ sym q

pub registers_only : (N : ℕ) (F : Fits w64 N) → Only (registers.Post N F)
registers_only N F κs a r r' s s' p q = p ∙ sym q

pub shift_kind_only : Only shift_kind.Post
shift_kind_only κs a r r' s s' p q = p ∙ sym q

pub shift_amount_only : Only shift_amount.Post
shift_amount_only κs a r r' s s' p q = p ∙ sym q

pub decode_shift_only : Only decode_shift.Post
decode_shift_only κs a r r' s s' p q = p ∙ sym q

pub is_plain_only : Only is_plain.Post
is_plain_only κs a r r' s s' p q = p ∙ sym q

pub is_rrx_only : Only is_rrx.Post
is_rrx_only κs a r r' s s' p q = p ∙ sym q

pub shifted_only : Only shifted.Post
shifted_only κs a r r' s s' p q = p ∙ sym q

pub shift_by_reg_only : Only shift_by_reg.Post
shift_by_reg_only κs a r r' s s' p q = p ∙ sym q
