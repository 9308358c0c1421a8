-- `callers_index::callers_len` meets its contract.
-- The loop's invariant: the callers among the entries passed are counted. Assumes nothing.
use mathlib.Core.Path.{ap}
use mathlib.Core.List.{List}
use native.Mathlib.Omega.{arith}
use lib.Dec.{eqb}
use lib.ListN.{length}
use Rattle.callers_index.specs.Entries.{callers_of}
use Rattle.callers_index.specs.declared.Entry.{Entry}
use Rattle.callers_index.proofs.Left.{one_at_most, nothing_left, hits_left}
use Rattle.callers_index.proofs.callers_len.Goals as goal

pub loop-i-preserved : goal.loop-i-preserved
loop-i-preserved c =
    let now = c.loop-i in
    let args = c.args in
    let below = c.loop-i-test.true in
    let left = hits_left args.index.now args.count now.i below c.entry_at.ensures args.target in
    (omega (arith, c.from-n.ensures, one_at_most (eqb c.entry_at.result.target args.target)), omega (arith, c.from-n.ensures, left, now.invariant.1))

pub returns : goal.returns
returns c =
    let now = c.loop-i in
    let args = c.args in
    let none = nothing_left args.index.now args.count now.i (omega arith) in
    omega (arith, now.invariant.1, ap (λ (l : List Entry). length (callers_of args.target l)) none)
