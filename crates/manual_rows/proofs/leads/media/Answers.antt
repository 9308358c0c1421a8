-- `manual_rows::leads::media` meets its contract. Assumes nothing.
use Rattle.std.proofs.Common.{arith}
use Rattle.manual_rows.proofs.Leading.{lead, to_parallel_signed, to_parallel_unsigned, to_packing, to_signed_multiply, is_bit_fields}
use Rattle.manual_rows.proofs.leads.media.Goals as goal

pub returns-in-0-to-3 : goal.returns-in-0-to-3
returns-in-0-to-3 c = lead (to_parallel_signed _ (omega arith)) c.parallel_signed.ensures

pub returns-in-4-to-7 : goal.returns-in-4-to-7
returns-in-4-to-7 c = lead (to_parallel_unsigned _ (omega arith) (omega arith)) c.parallel_unsigned.ensures

pub returns-in-8-to-15 : goal.returns-in-8-to-15
returns-in-8-to-15 c = lead (to_packing _ (omega arith) (omega arith)) c.packing.ensures

pub returns-in-16-to-23 : goal.returns-in-16-to-23
returns-in-16-to-23 c = lead (to_signed_multiply _ (omega arith) (omega arith)) c.signed_multiply.ensures

pub bit_fields-requires : goal.bit_fields-requires
bit_fields-requires c = is_bit_fields _ (omega arith)
