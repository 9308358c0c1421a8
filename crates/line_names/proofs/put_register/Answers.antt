-- `names::put_register` meets its contract: the table has the names. Assumes nothing.
use Rattle.line_spelling.specs.Names.{registers}
use Rattle.line_spelling.specs.Line.{register_text}
use Rattle.line_names.proofs.Table.{spelt}
use Rattle.line_names.proofs.put_register.Goals as goal

pub put_entry-requires-clause-room : goal.put_entry-requires-clause-room
unfolding register_text
put_entry-requires-clause-room c = rw (spelt 4 registers tt c.args.reg.0) c.requires

pub returns : goal.returns
unfolding register_text
returns c =
    rw (spelt 4 registers tt c.args.reg.0) at c.put_entry.ensures
