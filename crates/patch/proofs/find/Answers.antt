-- `patch::find` meets its contract. Assumes nothing.
use mathlib.Core.Path.{sym, ◌∙◌}
use native.Mathlib.Omega.{arith}
use Rattle.std.proofs.lemmas.Result.{err_from_is_err_and}
use Rattle.word.specs.Refusal.{not_refused}
use Rattle.section.proofs.Refused.{as_refusing}
use Rattle.patch.specs.Image.{◌from◌}
use Rattle.patch.proofs.Words.{fit}
use Rattle.patch.proofs.Finds.{section_refused, patch_refused, none_refused, empty_run}
use Rattle.patch.proofs.find.Goals as goal

pub returns-in_err-check_words : goal.returns-in_err-check_words
returns-in_err-check_words c =
    let r = c.in_err-check_words.field-0.0 in
    let is = c.in_err-check_words.ensures in
    let p = err_from_is_err_and c.from_residual.result c.from_residual.ensures.1 in
    rw (p.1, p.2) (as_refusing r _ is ∙ sym (section_refused _ _ _ _ (λ z. not_refused r (is ∙ z))))

pub returns-in_err-check_words-2 : goal.returns-in_err-check_words-2
returns-in_err-check_words-2 c =
    let r = c.in_err-check_words-2.field-0.0 in
    let is = c.in_err-check_words-2.ensures in
    let q = c.from_residual-in_err-check_words-2 in
    let p = err_from_is_err_and q.result q.ensures.1 in
    rw (p.1, p.2) (as_refusing r _ is ∙ sym (patch_refused _ _ _ _ (sym c.in_ok-check_words.ensures) (λ z. not_refused r (is ∙ z))))

pub returns-then-len-eq0 : goal.returns-then-len-eq0
returns-then-len-eq0 c =
    sym (none_refused (c.args.section.now from c.args.base) (c.args.patch.now from c.args.over) _ _
    (sym c.in_ok-check_words.ensures) (sym c.in_ok-check_words-2.ensures)
    ∙ empty_run _ _ _ _ c.if-len-eq0.true)

pub held-requires : goal.held-requires
held-requires c =
    (omega arith, omega (arith, (fit (c.args.patch.now from c.args.over) (sym c.in_ok-check_words-2.ensures)).few))

pub returns : goal.returns
returns c =
    c.held.ensures
    ∙ sym (none_refused (c.args.section.now from c.args.base) (c.args.patch.now from c.args.over) _ _
    (sym c.in_ok-check_words.ensures) (sym c.in_ok-check_words-2.ensures))
