-- `names::put_coprocessor` meets its contract: the table has the names. Assumes nothing.
use Rattle.line_spelling.specs.Names.{coprocessors}
use Rattle.line_names.proofs.Table.{spelt}
use Rattle.line_names.proofs.put_coprocessor.Goals as goal

pub put_entry-requires-clause-room : goal.put_entry-requires-clause-room
put_entry-requires-clause-room c = rw (spelt 4 coprocessors tt c.args.n) c.requires

pub returns : goal.returns
returns c = rw (spelt 4 coprocessors tt c.args.n) at c.put_entry.ensures
