-- `operands::put_places` meets its contract. The loop's invariant: the places passed are written. Assumes nothing.
use mathlib.Core.Path.{refl, ◌∙◌}
use native.Mathlib.Omega.{arith}
use Rattle.insn.proofs.Places.{one_more, one_fits}
use Rattle.text.proofs.Writing.{none, ◌then◌}
use Rattle.line_spelling.specs.Line.{place_text}
use Rattle.line_operands.proofs.put_places.Goals as goal

pub loop-n-init : goal.loop-n-init
loop-n-init c = (refl, none _ _)

pub put_place-at-requires : goal.put_place-at-requires
put_place-at-requires c =
    let loop = c.loop-n in
    omega (
      arith,
      c.requires,
      loop.invariant.0,
      loop.invariant.1.ends,
      one_fits place_text c.args.ops loop.n
          (omega arith),
    )

pub loop-n-preserved : goal.loop-n-preserved
loop-n-preserved c =
    let loop = c.loop-n in
    let put = c.put_place-at in (
      put.auto.out ∙ loop.invariant.0,
      rw (one_more place_text c.args.ops loop.n (omega arith)) (loop.invariant.1 then put.ensures),
    )
