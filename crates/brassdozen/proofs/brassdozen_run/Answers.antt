-- `brassdozen::brassdozen_run` meets its contract: a place in a slice has few bits. Assumes nothing.
use mathlib.Core.Path.{sym, ap, ◌∙◌, subst}
use native.Mathlib.Omega.{arith}
use Rattle.std.specs.Prelude.{Ok}
use Rattle.patch.specs.Image.{◌from◌}
use Rattle.patch.specs.declared.Found.{Found}
use Rattle.patch.proofs.Finds.{Near, near}
use Rattle.brassdozen.proofs.brassdozen_run.Goals as goal

pub overflow_cast-place : goal.overflow_cast-place
overflow_cast-place c =
    let args = c.args in
    let there = sym c.find.ensures ∙ c.in-Ok-Patch.is ∙ ap (λ (f : Found). Ok f) c.in-Ok-Patch.field-0-is in
    omega (arith, subst (Near (args.section.now from args.base) (args.patch.now from args.over) args.addr args.len) there (near _ _ args.addr args.len))

pub overflow_add-place : goal.overflow_add-place
overflow_add-place c =
    let args = c.args in
    let there = sym c.find.ensures ∙ c.in-Ok-Patch.is ∙ ap (λ (f : Found). Ok f) c.in-Ok-Patch.field-0-is in
    record {
      fits = omega (arith, subst (Near (args.section.now from args.base) (args.patch.now from args.over) args.addr args.len) there (near _ _ args.addr args.len));
    }

pub overflow_cast-place-in-Ok-Section : goal.overflow_cast-place-in-Ok-Section
overflow_cast-place-in-Ok-Section c =
    let args = c.args in
    let there = sym c.find.ensures ∙ c.in-Ok-Section.is ∙ ap (λ (f : Found). Ok f) c.in-Ok-Section.field-0-is in
    omega (arith, subst (Near (args.section.now from args.base) (args.patch.now from args.over) args.addr args.len) there (near _ _ args.addr args.len))
