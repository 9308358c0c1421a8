-- `callers_index::callers` meets its contract. Assumes nothing.
use mathlib.Core.Path.{◌≡◌, sym, ◌∙◌}
use Rattle.std.proofs.Common.{rules, Err}
use native.Mathlib.Omega.{arith}
use Rattle.text.proofs.Settled.{fits, no_room}
use Rattle.callers_index.specs.Entries.{entries_of, callers_of}
use Rattle.callers_index.proofs.Lent.{finds, refuses}
use Rattle.callers_index.proofs.callers.Goals as goal

pub returns-in_err-lent_refusal-clause-value : goal.returns-in_err-lent_refusal-clause-value
returns-in_err-lent_refusal-clause-value c =
    let args = c.args in
    let same : c.from_residual.result ≡ Err c.in_err-lent_refusal.field-0.0 = search rules in
    same ∙ (refuses args.index.now args.count args.target args.out.now _ c.in_err-lent_refusal.ensures).0

pub returns-in_err-lent_refusal-clause-out_after : goal.returns-in_err-lent_refusal-clause-out_after
returns-in_err-lent_refusal-clause-out_after c =
    let args = c.args in
    (refuses args.index.now args.count args.target args.out.now _ c.in_err-lent_refusal.ensures).1

pub returns-then-callers_len-out-clause-value : goal.returns-then-callers_len-out-clause-value
returns-then-callers_len-out-clause-value c =
    let args = c.args in
    (finds args.index.now args.count args.target args.out.now (sym c.in_ok-lent_refusal.ensures)
    (fits (omega (arith, c.if-callers_len-out.true, c.callers_len.ensures)) c.put_callers.ensures)).0

pub returns-then-callers_len-out-clause-out_after : goal.returns-then-callers_len-out-clause-out_after
returns-then-callers_len-out-clause-out_after c =
    let args = c.args in
    (finds args.index.now args.count args.target args.out.now (sym c.in_ok-lent_refusal.ensures)
    (fits (omega (arith, c.if-callers_len-out.true, c.callers_len.ensures)) c.put_callers.ensures)).1

pub returns-else-callers_len-out-clause-value : goal.returns-else-callers_len-out-clause-value
returns-else-callers_len-out-clause-value c =
    let args = c.args in
    (finds args.index.now args.count args.target args.out.now (sym c.in_ok-lent_refusal.ensures)
    (no_room (callers_of args.target (entries_of args.index.now args.count)) (omega (arith, c.if-callers_len-out.false, c.callers_len.ensures)))).0

pub returns-else-callers_len-out-clause-out_after : goal.returns-else-callers_len-out-clause-out_after
returns-else-callers_len-out-clause-out_after c =
    let args = c.args in
    (finds args.index.now args.count args.target args.out.now (sym c.in_ok-lent_refusal.ensures)
    (no_room (callers_of args.target (entries_of args.index.now args.count)) (omega (arith, c.if-callers_len-out.false, c.callers_len.ensures)))).1
