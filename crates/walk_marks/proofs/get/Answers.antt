-- `walk_marks::get` meets its contract. Assumes nothing.
use mathlib.Core.Path.{◌∙◌}
use Rattle.walk_marks.proofs.Marks.{marked}
use Rattle.walk_marks.proofs.get.Goals as goal

pub returns : goal.returns
returns c = c.bit.ensures ∙ marked _ _ c.requires
