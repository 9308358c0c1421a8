-- `names::put_source` meets its contract: the table has the names. Assumes nothing.
use Rattle.line_spelling.specs.Names.{sources}
use Rattle.line_names.proofs.Table.{spelt}
use Rattle.line_names.proofs.put_source.Goals as goal

pub put_entry-requires-clause-room : goal.put_entry-requires-clause-room
put_entry-requires-clause-room c = rw (spelt 4 sources tt c.number.result, c.number.ensures) c.requires

pub returns : goal.returns
returns c =
    rw (
      spelt 4 sources tt c.number.result,
      c.number.ensures,
    ) at c.put_entry.ensures
