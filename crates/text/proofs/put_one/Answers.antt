-- `text::put_one` meets its contract. Assumes nothing.
use native.Mathlib.Omega.{arith}
use Rattle.text.proofs.Writing.{byte}
use Rattle.text.proofs.put_one.Goals as goal

pub returns : goal.returns
returns g c = byte _ _ _ (omega arith)
