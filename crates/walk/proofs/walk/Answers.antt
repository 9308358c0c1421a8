-- `walk::walk` meets its contract. Assumes nothing.
use mathlib.Core.Path.{◌≡◌, sym, ap}
use native.Mathlib.Omega.{arith}
use Rattle.std.proofs.Common.{Err}
use Rattle.std.proofs.lemmas.Result.{err_from_is_err_and}
use Rattle.word.specs.Refusal.{number, numbered_number, not_refused}
use Rattle.walk.proofs.Answers.{its_own, refused_walk}
use Rattle.walk.proofs.walk.Goals as goal

pub returns-in_err-section : goal.returns-in_err-section
returns-in_err-section c =
    let r = c.in_err-section.field-0.0 in
    let p = err_from_is_err_and c.from_residual.result c.from_residual.ensures.1 in
    let some : number r ≡ 0 → ⊥ = λ none. not_refused r none in
    rw (p.1, p.2) (refused_walk (its_own c.args.section.now c.args.entry c.in_err-section.ensures) (omega (arith, some)) (ap Err (sym (numbered_number r))))
