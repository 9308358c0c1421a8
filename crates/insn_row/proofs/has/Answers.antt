-- `insn_row::has` meets its contract. The loop's invariant: the row has the numbers passed. Assumes nothing.
use native.Mathlib.Omega.{arith}
use Rattle.insn_row.proofs.Holds.{equal_here, unequal_here}
use Rattle.insn_row.proofs.has.Goals as goal

pub returns-then-row-at : goal.returns-then-row-at
returns-then-row-at g c = unequal_here c.args.numbers.now c.loop-n.n (omega arith) c.loop-n.invariant c.if-row-at.true

pub loop-n-preserved : goal.loop-n-preserved
loop-n-preserved g c = equal_here c.args.numbers.now c.loop-n.n (omega arith) c.loop-n.invariant (omega arith)
