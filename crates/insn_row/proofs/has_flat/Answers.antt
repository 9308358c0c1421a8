-- `insn_row::has_flat` meets its contract. Assumes nothing.
use mathlib.Core.Path.{subst}
use mathlib.Core.List.{List}
use Prim.Native.Nat.{ℕ}
use Rattle.insn_row.specs.Row.{Told}
use Rattle.insn_row.proofs.has_flat.Goals as goal

pub returns : goal.returns
returns c = subst (λ (l : List ℕ). Told c.args.row.now c.args.at l c.has.result) c.numbers.ensures c.has.ensures
