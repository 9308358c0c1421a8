-- `rule_verdict::decide` meets its contract. Assumes nothing.
use mathlib.Core.Path.{refl}
use native.Mathlib.Omega.{arith}
use Rattle.rule_verdict.specs.Verdicts.{Answers.by_way, Answers.by_place, Answers.by_none}
use Rattle.rule_verdict.proofs.Judging.{near_inside, stays, fits, violated, undecided, holds}
use Rattle.rule_verdict.proofs.decide.Goals as goal

pub overflow_mul-near : goal.overflow_mul-near
overflow_mul-near c =
    let program = c.args.program in
    let inside = near_inside program (c.settle.ensures program.entries.now) c.search.ensures c.nearest.ensures c.in-Some.is in
    omega (arith, inside, c.requires.lent.0.few)

pub overflow_add-near : goal.overflow_add-near
overflow_add-near c =
    let program = c.args.program in
    let inside = near_inside program (c.settle.ensures program.entries.now) c.search.ensures c.nearest.ensures c.in-Some.is in
    omega (arith, inside, c.requires.lent.0.few)

pub trace-requires : goal.trace-requires
trace-requires c =
    let program = c.args.program in
    let lent = c.requires.lent.0 in
    let long = c.search.auto.dist in
    let from = c.search.auto.from in
    let stay = stays program (c.settle.ensures program.entries.now) c.search.ensures c.nearest.ensures c.in-Some.is in
    let fit = fits program (c.settle.ensures program.entries.now) c.search.ensures c.nearest.ensures c.in-Some.is in (
      (λ k h. omega (arith, stay k h, long, from, lent.from_room)),
      omega (arith, fit, long, lent.dist_room, c.requires.flags_bound.1),
      omega (arith, from, lent.from_room, lent.dist_room, lent.few),
    )

pub returns-in-Some : goal.returns-in-Some
returns-in-Some c =
    let program = c.args.program in
    let pre = c.requires in
    let fit = fits program (c.settle.ensures program.entries.now) c.search.ensures c.nearest.ensures c.in-Some.is in
    let long = c.search.auto.dist in (
      omega (arith, fit, long, pre.lent.0.dist_room),
      by_way (violated program (c.settle.ensures program.entries.now) c.search.ensures c.nearest.ensures c.in-Some.is refl (omega (arith, fit, long, pre.lent.0.dist_room, pre.flags_bound.1, c.trace.auto.way)) c.trace.ensures),
    )

pub returns-in-Some-first_open : goal.returns-in-Some-first_open
returns-in-Some-first_open c =
    let program = c.args.program in
    let found = rw c.in-Some-first_open.is at c.first_open.ensures in (
      omega (arith, found.0),
      by_place (undecided program (c.settle.ensures program.entries.now) c.search.ensures c.nearest.ensures c.in-None.is found) refl,
    )

pub returns-in-None-first_open : goal.returns-in-None-first_open
returns-in-None-first_open c =
    let program = c.args.program in (
      omega arith,
      by_none (holds program (c.settle.ensures program.entries.now) c.search.ensures c.nearest.ensures c.in-None.is (rw c.in-None-first_open.is at c.first_open.ensures)) refl,
    )
