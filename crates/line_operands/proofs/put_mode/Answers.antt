-- `operands::put_mode` meets its contract. Assumes nothing.
use Rattle.line_spelling.specs.Line.{mode_text}
use Rattle.line_operands.proofs.put_mode.Goals as goal

pub put_one-requires : goal.put_one-requires
put_one-requires c = unfold mode_text in rw c.in-Offset.is at c.requires

pub put_one-requires-in-PreIndex : goal.put_one-requires-in-PreIndex
put_one-requires-in-PreIndex c = unfold mode_text in rw c.in-PreIndex.is at c.requires

pub put_one-requires-in-PostIndex : goal.put_one-requires-in-PostIndex
put_one-requires-in-PostIndex c = unfold mode_text in rw c.in-PostIndex.is at c.requires

pub returns-in-Offset : goal.returns-in-Offset
returns-in-Offset c = unfold mode_text in rw c.in-Offset.is c.put_one.ensures

pub returns-in-PreIndex : goal.returns-in-PreIndex
returns-in-PreIndex c = unfold mode_text in rw c.in-PreIndex.is c.put_one-in-PreIndex.ensures

pub returns-in-PostIndex : goal.returns-in-PostIndex
returns-in-PostIndex c = unfold mode_text in rw c.in-PostIndex.is c.put_one-in-PostIndex.ensures
