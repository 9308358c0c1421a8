-- `callers_index::updated_len` meets its contract.
-- The loop's invariant: those of the entries passed that stay are counted. Assumes nothing.
use mathlib.Core.Path.{ap}
use mathlib.Core.List.{List}
use native.Mathlib.Omega.{arith}
use lib.Dec.{eqb}
use mir.Val.{bool_byte}
use Rattle.std.specs.Prelude.{not}
use lib.ListN.{length}
use Rattle.callers_index.specs.Entries.{entries_of, remove_of}
use Rattle.callers_index.specs.declared.Entry.{Entry}
use Rattle.callers_index.proofs.Updating.{updated_length}
use Rattle.callers_index.proofs.Left.{one_at_most, one_is, nothing_left, stays_left}
use Rattle.callers_index.proofs.updated_len.Goals as goal

pub loop-i-preserved : goal.loop-i-preserved
loop-i-preserved c =
    let now = c.loop-i in
    let args = c.args in
    let below = c.loop-i-test.true in
    let left = stays_left args.index.now args.count now.i below c.entry_at.ensures args.caller in
    let count = c.from-n-in-loop-i.ensures in
    (omega (arith, count, one_at_most (not (eqb c.entry_at.result.caller args.caller))), omega (arith, count, left, now.invariant.1))

pub returns : goal.returns
returns c =
    let now = c.loop-i in
    let args = c.args in
    let none = nothing_left args.index.now args.count now.i (omega arith) in
    omega (
      arith,
      now.invariant.1,
      ap (λ (l : List Entry). length (remove_of args.caller l)) none,
      updated_length args.caller args.callee (entries_of args.index.now args.count),
      c.from-n.ensures,
      ap bool_byte c.is_some.ensures,
      one_is args.callee,
    )
