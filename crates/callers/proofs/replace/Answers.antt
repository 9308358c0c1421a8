-- `callers::replace` meets its contract. Assumes nothing.
use mathlib.Core.Path.{refl, sym, ap}
use Rattle.std.proofs.lemmas.Result.{err_from_is_err_and}
use Rattle.word.specs.Refusal.{refused_with}
use Rattle.callers.proofs.Answers.{replace_own, replace_outside, replace_lent, replace_many, updates_none, updates_by}
use Rattle.callers.proofs.replace.Goals as goal

pub returns-in_err-opened : goal.returns-in_err-opened
returns-in_err-opened c =
    let args = c.args in
    let p = err_from_is_err_and c.from_residual.result c.from_residual.ensures.1 in
    rw (p.1, p.2) (updates_none (replace_own args.section.now args.index.now args.place args.word args.count c.in_err-opened.field-0.0
    (ap refused_with c.in_err-opened.ensures)) refl)

pub returns-then-opened-place : goal.returns-then-opened-place
returns-then-opened-place c =
    let args = c.args in
    updates_none
    (replace_outside args.section.now args.index.now args.place args.word args.count (sym c.in_ok-opened.ensures) c.if-opened-place.true) refl

pub returns-in_err-lent_refusal : goal.returns-in_err-lent_refusal
returns-in_err-lent_refusal c =
    let args = c.args in
    let residual = c.from_residual-in_err-lent_refusal in
    let p = err_from_is_err_and residual.result residual.ensures.1 in
    rw (p.1, p.2) (updates_none (replace_lent args.section.now args.index.now args.place args.word args.count (sym c.in_ok-opened.ensures)
    c.if-opened-place.false c.in_err-lent_refusal.field-0.0 c.in_err-lent_refusal.ensures) refl)

pub returns : goal.returns
returns c =
    let args = c.args in
    updates_by
    (sym (replace_many args.section.now args.index.now args.place args.word args.count (sym c.in_ok-opened.ensures)
    c.if-opened-place.false (sym c.in_ok-lent_refusal.ensures)))
    c.replace_at.ensures
