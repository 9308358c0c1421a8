-- `walk_marks::pass` meets its contract. Assumes nothing.
use mathlib.Core.Path.{sym, ◌∙◌}
use Rattle.walk_marks.proofs.Looking.{by_number, by_one}
use Rattle.walk_marks.proofs.pass.Goals as goal

pub returns-then-marks-place-eq0 : goal.returns-then-marks-place-eq0
returns-then-marks-place-eq0 c = by_number _ _ c.requires.0 c.if-marks-place-eq0.true

pub returns-else-get : goal.returns-else-get
returns-else-get c = by_one _ _ c.requires.0 (sym c.get.ensures ∙ c.if-get.false)
