-- No second result fits a contract. Each line is about the contract itself, as the check reads it from the source.
-- Assumes nothing.
use Rattle.std.proofs.Common.{◌≡◌, ◌∙◌, sym, ℕ}
use Rattle.word.specs.Only.{Only}
use Rattle.manual_tables.specs.Titles.{Numbered}
use Prim.Native.String.{String}
use Rattle.manual_tables.proofs.columns.column.Reads as column
use Rattle.manual_tables.proofs.columns.is.Reads as is
use Rattle.manual_tables.proofs.columns.title.Reads as title
use Rattle.manual_tables.proofs.register.Reads as register
use Rattle.manual_tables.proofs.shifted.Reads as shifted
use Rattle.manual_tables.proofs.multiply.Reads as multiply
use Rattle.manual_tables.proofs.halfword_multiply.Reads as halfword_multiply
use Rattle.manual_tables.proofs.extra.Reads as extra
use Rattle.manual_tables.proofs.unprivileged.Reads as unprivileged
use Rattle.manual_tables.proofs.synchronization.Reads as synchronization
use Rattle.manual_tables.proofs.miscellaneous.Reads as miscellaneous
use Rattle.manual_tables.proofs.load_store.Reads as load_store
use Rattle.manual_tables.proofs.parallel_signed.Reads as parallel_signed
use Rattle.manual_tables.proofs.parallel_unsigned.Reads as parallel_unsigned
use Rattle.manual_tables.proofs.packing.Reads as packing
use Rattle.manual_tables.proofs.signed_multiply.Reads as signed_multiply
use Rattle.manual_tables.proofs.branch_and_block.Reads as branch_and_block
use Rattle.manual_tables.proofs.coprocessor.Reads as coprocessor
use Rattle.manual_tables.proofs.immediate.Reads as immediate
use Rattle.manual_tables.proofs.hint.Reads as hint
use Rattle.manual_tables.proofs.bit_fields.Reads as bit_fields
use Rattle.manual_tables.proofs.unconditional_upper.Reads as unconditional_upper
use Rattle.manual_tables.proofs.state.Reads as state
use Rattle.manual_tables.proofs.barrier.Reads as barrier
use Rattle.manual_tables.proofs.preload.Reads as preload

pub column_only : Only column.Post
column_only κs a r r' s s' p q = p.0 ∙ sym q.0

pub is_only : Only is.Post
is_only κs a r r' s s' p q = p.0 ∙ sym q.0

pub title_only : Only title.Post
title_only κs a r r' s s' p q = p ∙ sym q

-- a row has one number
one_number : {row : String} {n n' : ℕ} → Numbered row n → Numbered row n' → n ≡ n'
one_number p q = p.number ∙ sym q.number

pub register_only : Only register.Post
register_only κs a r r' s s' p q = one_number p q

pub shifted_only : Only shifted.Post
shifted_only κs a r r' s s' p q = one_number p q

pub multiply_only : Only multiply.Post
multiply_only κs a r r' s s' p q = one_number p q

pub halfword_multiply_only : Only halfword_multiply.Post
halfword_multiply_only κs a r r' s s' p q = one_number p q

pub extra_only : Only extra.Post
extra_only κs a r r' s s' p q = one_number p q

pub unprivileged_only : Only unprivileged.Post
unprivileged_only κs a r r' s s' p q = one_number p q

pub synchronization_only : Only synchronization.Post
synchronization_only κs a r r' s s' p q = one_number p q

pub miscellaneous_only : Only miscellaneous.Post
miscellaneous_only κs a r r' s s' p q = one_number p q

pub load_store_only : Only load_store.Post
load_store_only κs a r r' s s' p q = one_number p q

pub parallel_signed_only : Only parallel_signed.Post
parallel_signed_only κs a r r' s s' p q = one_number p q

pub parallel_unsigned_only : Only parallel_unsigned.Post
parallel_unsigned_only κs a r r' s s' p q = one_number p q

pub packing_only : Only packing.Post
packing_only κs a r r' s s' p q = one_number p q

pub signed_multiply_only : Only signed_multiply.Post
signed_multiply_only κs a r r' s s' p q = one_number p q

pub branch_and_block_only : Only branch_and_block.Post
branch_and_block_only κs a r r' s s' p q = one_number p q

pub coprocessor_only : Only coprocessor.Post
coprocessor_only κs a r r' s s' p q = one_number p q

pub immediate_only : Only immediate.Post
immediate_only κs a r r' s s' p q = one_number p q

pub hint_only : Only hint.Post
hint_only κs a r r' s s' p q = one_number p q

pub bit_fields_only : Only bit_fields.Post
bit_fields_only κs a r r' s s' p q = one_number p q

pub unconditional_upper_only : Only unconditional_upper.Post
unconditional_upper_only κs a r r' s s' p q = one_number p q

pub state_only : Only state.Post
state_only κs a r r' s s' p q = one_number p q

pub barrier_only : Only barrier.Post
barrier_only κs a r r' s s' p q = one_number p q

pub preload_only : Only preload.Post
preload_only κs a r r' s s' p q = one_number p q
