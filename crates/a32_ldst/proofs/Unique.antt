-- No second result fits a contract. Each line is about the contract itself, as the check reads it from the source.
-- Assumes nothing.
use Rattle.std.proofs.Common.{◌∙◌, sym}
use Rattle.word.specs.Only.{Only}
use Rattle.a32_ldst.proofs.mem.is_unprivileged.Reads as is_unprivileged
use Rattle.a32_ldst.proofs.mem.mode.Reads as mode
use Rattle.a32_ldst.proofs.mem.is_post.Reads as is_post
use Rattle.a32_ldst.proofs.mem.disp.Reads as disp
use Rattle.a32_ldst.proofs.mem.is_minus_zero.Reads as is_minus_zero
use Rattle.a32_ldst.proofs.mem.with_disp.Reads as with_disp
use Rattle.a32_ldst.proofs.mem.with_index.Reads as with_index
use Rattle.a32_ldst.proofs.extra_ldst.extra_ldst.Reads as extra_ldst
use Rattle.a32_ldst.proofs.ldst.ldst.Reads as ldst

pub is_unprivileged_only : Only is_unprivileged.Post
is_unprivileged_only κs a r r' s s' p q = p ∙ sym q

pub mode_only : Only mode.Post
mode_only κs a r r' s s' p q = p ∙ sym q

pub is_post_only : Only is_post.Post
is_post_only κs a r r' s s' p q = p ∙ sym q

pub disp_only : Only disp.Post
disp_only κs a r r' s s' p q = p ∙ sym q

pub is_minus_zero_only : Only is_minus_zero.Post
is_minus_zero_only κs a r r' s s' p q = p ∙ sym q

pub with_disp_only : Only with_disp.Post
with_disp_only κs a r r' s s' p q = p ∙ sym q

pub with_index_only : Only with_index.Post
with_index_only κs a r r' s s' p q = p ∙ sym q

pub extra_ldst_only : Only extra_ldst.Post
extra_ldst_only κs a r r' s s' p q = p ∙ sym q

pub ldst_only : Only ldst.Post
ldst_only κs a r r' s s' p q = p ∙ sym q
