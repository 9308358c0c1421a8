use Rattle.insn.specs.Roots.{roots}
use Rattle.line_names.proofs.Table.{spelt}
use Rattle.line_names.proofs.put_root.Goals as goal

pub put_entry-requires-clause-room : goal.put_entry-requires-clause-room
put_entry-requires-clause-room c = rw (spelt 8 roots tt c.args.name) c.requires

pub returns : goal.returns
returns c = rw (spelt 8 roots tt c.args.name) at c.put_entry.ensures
