-- `encode::home_with` meets its contract: the answer leads to the home word. Assumes nothing.
use mathlib.Core.Path.{sym, ◌∙◌}
use native.Mathlib.Omega.{arith}
use Rattle.encode.proofs.Encodes.{homed}
use Rattle.encode.proofs.home_with.Goals as goal

pub returns : goal.returns
returns c = homed _ _ (omega arith) (sym c.decode.ensures ∙ c.in_ok-answer.was) c.filled_word.ensures
