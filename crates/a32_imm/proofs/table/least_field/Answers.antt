-- `imm::table::least_field` meets its contract. Assumes nothing.
use Rattle.std.proofs.Common.{refl}
use Rattle.word.specs.Field.{field}
use Rattle.a32_imm.specs.Imm.{least_field, so_imm_of}
use Rattle.a32_imm.proofs.table.least_field.Goals as goal

pub entry-requires : goal.entry-requires
unfolding least_field so_imm_of field
entry-requires c = (c.requires, refl)
