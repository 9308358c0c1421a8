-- `patch::run` meets its contract: what was found lies in the patch, or in the section. Assumes nothing.
use mathlib.Core.Path.{sym, subst, ap, ◌∙◌}
use Rattle.std.specs.Prelude.{Ok}
use native.Mathlib.Omega.{arith}
use Rattle.patch.specs.Image.{◌from◌}
use Rattle.patch.proofs.Finds.{Lies, lies}
use Rattle.patch.proofs.run.Goals as goal

pub overflow_add-end : goal.overflow_add-end
overflow_add-end c =
    let s = c.args.section.now from c.args.base in
    let p = c.args.patch.now from c.args.over in
    omega (arith, subst (Lies s p c.args.addr c.args.len) (sym (ap Ok (sym c.in-Patch.is) ∙ c.in-Ok.ensures)) (lies s p c.args.addr c.args.len))

pub slice_bounds-result-end-in-Patch : goal.slice_bounds-result-end-in-Patch
slice_bounds-result-end-in-Patch c =
    let s = c.args.section.now from c.args.base in
    let p = c.args.patch.now from c.args.over in
    subst (Lies s p c.args.addr c.args.len) (sym (ap Ok (sym c.in-Patch.is) ∙ c.in-Ok.ensures)) (lies s p c.args.addr c.args.len)

pub overflow_add-end-in-Section : goal.overflow_add-end-in-Section
overflow_add-end-in-Section c =
    let s = c.args.section.now from c.args.base in
    let p = c.args.patch.now from c.args.over in
    omega (arith, subst (Lies s p c.args.addr c.args.len) (sym (ap Ok (sym c.in-Section.is) ∙ c.in-Ok.ensures)) (lies s p c.args.addr c.args.len))

pub slice_bounds-result-end-in-Section : goal.slice_bounds-result-end-in-Section
slice_bounds-result-end-in-Section c =
    let s = c.args.section.now from c.args.base in
    let p = c.args.patch.now from c.args.over in
    subst (Lies s p c.args.addr c.args.len) (sym (ap Ok (sym c.in-Section.is) ∙ c.in-Ok.ensures)) (lies s p c.args.addr c.args.len)
