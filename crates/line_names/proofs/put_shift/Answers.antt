-- `names::put_shift` meets its contract: the table has the names. Assumes nothing.
use Rattle.line_spelling.specs.Names.{shifts}
use Rattle.line_spelling.specs.Line.{shift_text}
use Rattle.line_names.proofs.Table.{spelt}
use Rattle.line_names.proofs.put_shift.Goals as goal

pub put_entry-requires-clause-room : goal.put_entry-requires-clause-room
unfolding shift_text
put_entry-requires-clause-room c = rw (spelt 4 shifts tt c.number.result, c.number.ensures) c.requires

pub returns : goal.returns
unfolding shift_text
returns c =
    rw (
      spelt 4 shifts tt c.number.result,
      c.number.ensures,
    ) at c.put_entry.ensures
