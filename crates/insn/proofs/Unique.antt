-- No second result fits a contract. Each line is about the contract itself, as the check reads it from the source.
-- Assumes nothing.
use Rattle.std.proofs.Common.{◌∙◌, sym}
use Rattle.word.specs.Only.{Only}
use Rattle.insn.proofs.Reg.new.Reads as reg_new
use Rattle.insn.proofs.Reg.is_sp.Reads as is_sp
use Rattle.insn.proofs.Reg.is_lr.Reads as is_lr
use Rattle.insn.proofs.Reg.is_pc.Reads as is_pc
use Rattle.insn.proofs.Cond.new.Reads as cond_new
use Rattle.insn.proofs.Cond.is_al.Reads as is_al
use Rattle.insn.proofs.Shift.number.Reads as shift_number
use Rattle.insn.proofs.Status.number.Reads as status_number
use Rattle.insn.proofs.AddrMode.number.Reads as addrmode_number
use Rattle.insn.proofs.Mem.base_disp.Reads as base_disp
use Rattle.insn.proofs.Operand.number.Reads as operand_number
use Rattle.insn.proofs.Flow.number.Reads as flow_number
use Rattle.insn.proofs.Flow.target.Reads as target
use Rattle.insn.proofs.Insn.new.Reads as insn_new
use Rattle.insn.proofs.Insn.with.Reads as with

pub reg_new_only : Only reg_new.Post
reg_new_only κs a r r' s s' p q = p ∙ sym q

pub is_sp_only : Only is_sp.Post
is_sp_only κs a r r' s s' p q = p ∙ sym q

pub is_lr_only : Only is_lr.Post
is_lr_only κs a r r' s s' p q = p ∙ sym q

pub is_pc_only : Only is_pc.Post
is_pc_only κs a r r' s s' p q = p ∙ sym q

pub cond_new_only : Only cond_new.Post
cond_new_only κs a r r' s s' p q = p ∙ sym q

pub is_al_only : Only is_al.Post
is_al_only κs a r r' s s' p q = p ∙ sym q

pub shift_number_only : Only shift_number.Post
shift_number_only κs a r r' s s' p q = p ∙ sym q

pub status_number_only : Only status_number.Post
status_number_only κs a r r' s s' p q = p ∙ sym q

pub addrmode_number_only : Only addrmode_number.Post
addrmode_number_only κs a r r' s s' p q = p ∙ sym q

pub base_disp_only : Only base_disp.Post
base_disp_only κs a r r' s s' p q = p ∙ sym q

pub operand_number_only : Only operand_number.Post
operand_number_only κs a r r' s s' p q = p ∙ sym q

pub flow_number_only : Only flow_number.Post
flow_number_only κs a r r' s s' p q = p ∙ sym q

pub target_only : Only target.Post
target_only κs a r r' s s' p q = p ∙ sym q

pub insn_new_only : Only insn_new.Post
insn_new_only κs a r r' s s' p q = p ∙ sym q

pub with_only : Only with.Post
with_only κs a r r' s s' p q = p ∙ sym q
