-- `names::put_flow` meets its contract: the table has the names. Assumes nothing.
use Rattle.line_spelling.specs.Names.{flows}
use Rattle.line_spelling.specs.Line.{flow_text}
use Rattle.line_names.proofs.Table.{spelt}
use Rattle.line_names.proofs.put_flow.Goals as goal

pub put_entry-requires-clause-room : goal.put_entry-requires-clause-room
put_entry-requires-clause-room c = unfold flow_text in rw (spelt 8 flows tt c.number.result, c.number.ensures) c.requires

pub returns : goal.returns
unfolding flow_text
returns c =
    rw (
      spelt 8 flows tt c.number.result,
      c.number.ensures,
    ) at c.put_entry.ensures
