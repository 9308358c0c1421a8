-- `row::padded` meets its contract. The loop's invariant: the numbers so far are the row's. Assumes nothing.
use mathlib.Core.Path.{◌≡◌}
use Prim.Native.Nat.{ℕ, ◌<◌}
use lib.ListN.{length, get_or}
use Rattle.insn_row.specs.Row.{ROW}
use Rattle.insn_row.proofs.padded.Given as goal

abbrev pub invariant-loop-n : goal.invariant-loop-n
invariant-loop-n l = (length l.whole ≡ ROW) × ((k : ℕ) → k < l.n → get_or l.whole k 0 ≡ get_or l.row k 0)
