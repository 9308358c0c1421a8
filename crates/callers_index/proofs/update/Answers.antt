-- `callers_index::update` meets its contract.
-- The loop's invariant: the update is made of the entries passed (`Half`). Assumes nothing.
use mathlib.Core.Path.{refl, ap, ◌∙◌}
use mathlib.Core.List.{List}
use native.Mathlib.Omega.{arith}
use lib.ListN.{length}
use Rattle.callers_index.specs.Entries.{entry_at, entries_of, update_of}
use Rattle.callers_index.specs.declared.Entry.{Entry}
use Rattle.callers_index.proofs.Entries.{numbers_length, entry_behind}
use Rattle.callers_index.proofs.Left.{nothing_left, next_left}
use Rattle.callers_index.proofs.Updating.{leads_to, starts, turns, takes, ends, writes_one}
use Rattle.callers_index.proofs.update.Goals as goal

pub loop-i-init : goal.loop-i-init
loop-i-init c = (refl, omega arith, starts)

pub loop-i-preserved : goal.loop-i-preserved
loop-i-preserved c =
    let made = c.turn-moving in
    let now = c.loop-i in
    let args = c.args in
    let below = c.loop-i-test.true in
    let half = rw (next_left args.index.now args.count now.i below) at now.invariant.2 in (
      made.auto.index ∙ now.invariant.0,
      omega (arith, now.invariant.1, made.ensures.put.ends, writes_one args.caller now.moving.ahead (entry_at now.index now.i)),
      turns half (entry_behind now.i half.put now.invariant.1) made.ensures.put made.ensures.ahead_value,
    )

pub put_last-requires : goal.put_last-requires
put_last-requires c =
    let now = c.loop-i in
    let args = c.args in
    let half = rw (nothing_left args.index.now args.count now.i (omega arith)) at now.invariant.2 in
    let leads = leads_to args.caller args.callee (entries_of args.index.now args.count) c.begin.ensures in
    omega (arith, takes half, ap (λ (l : List Entry). length l) leads, c.requires.count_in_bounds_2, now.invariant.0)

pub returns-clause-value : goal.returns-clause-value
returns-clause-value c =
    let now = c.loop-i in
    let args = c.args in
    let half = rw (nothing_left args.index.now args.count now.i (omega arith)) at now.invariant.2 in
    let l = entries_of args.index.now args.count in
    let leads = leads_to args.caller args.callee l c.begin.ensures in
    let put = rw leads at (ends half c.put_last.ensures) in
    omega (arith, put.ends, numbers_length (update_of args.caller args.callee l))

pub returns-clause-index_after : goal.returns-clause-index_after
returns-clause-index_after c =
    let now = c.loop-i in
    let args = c.args in
    let half = rw (nothing_left args.index.now args.count now.i (omega arith)) at now.invariant.2 in
    let l = entries_of args.index.now args.count in
    let leads = leads_to args.caller args.callee l c.begin.ensures in
    let put = rw leads at (ends half c.put_last.ensures) in
    put.holds
