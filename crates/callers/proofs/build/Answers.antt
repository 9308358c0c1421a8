-- `callers::build` meets its contract. Assumes nothing.
use mathlib.Core.Path.{◌≡◌, refl, sym, ◌∙◌}
use mathlib.Core.List.{List}
use Prim.Native.Nat.{ℕ}
use native.Mathlib.Omega.{arith}
use Rattle.std.specs.Prelude.{Ok}
use Rattle.std.proofs.lemmas.Result.{err_from_is_err_and}
use Rattle.word.specs.Refusal.{refused_with}
use Rattle.section.specs.Section.{opened_of, section_of}
use Rattle.section.proofs.Accepted.{same_refusal, same_section, section_passed, section_refused}
use Rattle.callers.specs.Calls.{index_of}
use Rattle.callers.proofs.Answers.{many, few, build_own, build_lent, build_many, builds_none, builds}
use Rattle.callers.proofs.build.Goals as goal

accepted : (s : List ℕ) {bytes : List ℕ} → Ok bytes ≡ section_of s → refused_with (opened_of s) ≡ 0
accepted s is = same_refusal s ∙ section_passed s is

pub returns-in_err-section : goal.returns-in_err-section
returns-in_err-section c =
    let p = err_from_is_err_and c.from_residual.result c.from_residual.ensures.1 in
    rw (p.1, p.2) (builds_none (build_own c.args.section.now c.args.index.now c.in_err-section.field-0.0
    (section_refused c.args.section.now c.in_err-section.ensures)) refl)

pub returns-in_err-lent_refusal : goal.returns-in_err-lent_refusal
returns-in_err-lent_refusal c =
    let residual = c.from_residual-in_err-lent_refusal in
    let p = err_from_is_err_and residual.result residual.ensures.1 in
    rw (p.1, p.2) (builds_none (build_lent c.args.section.now c.args.index.now (accepted c.args.section.now c.in_ok-section.ensures)
    c.in_err-lent_refusal.field-0.0 c.in_err-lent_refusal.ensures) refl)

pub returns-then-calls_len-gt-MOST : goal.returns-then-calls_len-gt-MOST
returns-then-calls_len-gt-MOST c =
    let s = c.args.section.now in
    let over = many (index_of s) (omega (arith, rw (same_section s c.in_ok-section.ensures) at c.calls_len.ensures, c.if-calls_len-gt-MOST.true)) in
    builds_none (build_many s c.args.index.now (accepted s c.in_ok-section.ensures) (sym c.in_ok-lent_refusal.ensures) over) refl

pub returns : goal.returns
returns c =
    let s = c.args.section.now in
    let fit = few (index_of s) (omega (arith, rw (same_section s c.in_ok-section.ensures) at c.calls_len.ensures, c.if-calls_len-gt-MOST.false)) in
    builds (build_many s c.args.index.now (accepted s c.in_ok-section.ensures) (sym c.in_ok-lent_refusal.ensures) fit)
    (rw (same_section s c.in_ok-section.ensures) at c.fill.ensures.value) (rw (same_section s c.in_ok-section.ensures) at c.fill.ensures.index_after)
