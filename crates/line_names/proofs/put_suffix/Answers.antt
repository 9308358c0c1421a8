-- `names::put_suffix` meets its contract: the table has the names. Assumes nothing.
use Rattle.line_spelling.specs.Names.{suffixes}
use Rattle.line_names.proofs.Table.{spelt}
use Rattle.line_names.proofs.put_suffix.Goals as goal

pub put_entry-requires-clause-room : goal.put_entry-requires-clause-room
put_entry-requires-clause-room c = rw (spelt 2 suffixes tt c.args.cond.0) c.requires

pub returns : goal.returns
returns c =
    rw (spelt 2 suffixes tt c.args.cond.0) at c.put_entry.ensures
