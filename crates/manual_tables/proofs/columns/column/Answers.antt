-- `tables::columns::column` meets its contract. Assumes nothing.
use Rattle.word.specs.Field.{small}
use Rattle.manual_tables.proofs.columns.column.Goals as goal

pub returns : goal.returns
returns c = (c.bits.ensures, rw c.bits.ensures (small _ _ _))
