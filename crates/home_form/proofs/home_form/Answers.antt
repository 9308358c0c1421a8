-- `home_form::home_form` meets its contract. Assumes nothing.
use mathlib.Core.Path.{◌≡◌, sym, ap}
use native.Mathlib.Omega.{arith}
use Rattle.std.proofs.Common.{rules}
use Rattle.std.specs.Prelude.{Result, Err}
use Rattle.word.specs.Refusal.{refused_with}
use Rattle.word.specs.declared.refusal.Refusal.{Refusal}
use Rattle.section.specs.declared.Opened.{Opened}
use Rattle.home_form.specs.declared.Changed.{Changed}
use Rattle.home_form.proofs.Answers.{no_room, room, own, refuses, puts}
use Rattle.home_form.proofs.home_form.Goals as goal

pub returns-in_err-opened : goal.returns-in_err-opened
returns-in_err-opened c =
    let same : c.from_residual.result ≡ Err c.in_err-opened.field-0.0 = search rules in
    rw same (own c.in_err-opened.ensures)

pub returns-then-list-counted : goal.returns-then-list-counted
returns-then-list-counted c =
    let args = c.args in
    let accepted = sym (ap (λ (o : Result Opened Refusal). refused_with o) c.in_ok-opened.ensures) in
    refuses
    (no_room args.section.now args.list.now accepted
    (omega (arith, c.if-list-counted.true, ap (λ (r : Changed). r.changes) c.count-counted.ensures)))
    (λ z. omega arith)

pub returns : goal.returns
returns c =
    let args = c.args in
    let accepted = sym (ap (λ (o : Result Opened Refusal). refused_with o) c.in_ok-opened.ensures) in
    rw c.count-counted.ensures
    (puts
    (room args.section.now args.list.now accepted
    (omega (arith, c.if-list-counted.false, ap (λ (r : Changed). r.changes) c.count-counted.ensures)))
    c.rewrite.ensures.section_after
    c.rewrite.ensures.list_after)
