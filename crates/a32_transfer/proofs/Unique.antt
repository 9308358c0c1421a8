-- No second result fits a contract. Each line is about the contract itself, as the check reads it from the source.
-- Assumes nothing.
use Rattle.std.proofs.Common.{sym, ◌∙◌}
use Rattle.word.specs.Only.{Only}
use Rattle.a32_transfer.proofs.block.block.Reads as block
use Rattle.a32_transfer.proofs.branch.branch.Reads as branch
use Rattle.a32_transfer.proofs.branch.going.Reads as going
use Rattle.a32_transfer.proofs.branch.branch_target.Reads as branch_target
use Rattle.a32_transfer.proofs.unconditional.unconditional.Reads as unconditional
use Rattle.a32_transfer.proofs.unconditional.is_barrier.Reads as is_barrier
use Rattle.a32_transfer.proofs.unconditional.is_preload.Reads as is_preload

pub block_only : Only block.Post
block_only κs a r r' s s' p q = p ∙ sym q

pub branch_only : Only branch.Post
branch_only κs a r r' s s' p q = p ∙ sym q

pub going_only : Only going.Post
going_only κs a r r' s s' p q = p ∙ sym q

pub branch_target_only : Only branch_target.Post
branch_target_only κs a r r' s s' p q = p ∙ sym q

pub unconditional_only : Only unconditional.Post
unconditional_only κs a r r' s s' p q = p ∙ sym q

pub is_barrier_only : Only is_barrier.Post
is_barrier_only κs a r r' s s' p q = p ∙ sym q

pub is_preload_only : Only is_preload.Post
is_preload_only κs a r r' s s' p q = p ∙ sym q
