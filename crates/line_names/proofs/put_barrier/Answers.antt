-- `names::put_barrier` meets its contract: the table has the names. Assumes nothing.
use Rattle.line_spelling.specs.Names.{barriers}
use Rattle.line_names.proofs.Table.{spelt}
use Rattle.line_names.proofs.put_barrier.Goals as goal

pub put_entry-requires-clause-room : goal.put_entry-requires-clause-room
put_entry-requires-clause-room c = rw (spelt 6 barriers tt c.args.option) c.requires

pub returns : goal.returns
returns c = rw (spelt 6 barriers tt c.args.option) at c.put_entry.ensures
