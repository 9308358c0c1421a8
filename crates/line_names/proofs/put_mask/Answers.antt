-- `names::put_mask` meets its contract: the table has the names. Assumes nothing.
use Rattle.line_spelling.specs.Names.{masks}
use Rattle.line_names.proofs.Table.{spelt}
use Rattle.line_names.proofs.put_mask.Goals as goal

pub put_entry-requires-clause-room : goal.put_entry-requires-clause-room
put_entry-requires-clause-room c = rw (spelt 12 masks tt c.args.mask) c.requires

pub returns : goal.returns
returns c = rw (spelt 12 masks tt c.args.mask) at c.put_entry.ensures
