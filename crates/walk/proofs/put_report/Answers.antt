-- `walk::put_report` meets its contract. The loop's invariant: the records of the places before `place` are written. Assumes nothing.
use mathlib.Core.Path.{◌≡◌, refl, ap}
use native.Mathlib.Numerals.{add-one}
use native.Mathlib.Omega.{arith}
use Rattle.text.proofs.Writing.{none, ◌then◌}
use Rattle.section.specs.Section.{opening_of}
use Rattle.section.specs.declared.Opened.{Opened}
use Rattle.section.proofs.Accepted.{is_opening}
use Rattle.walk_marks.specs.Marks.{marks_of}
use Rattle.walk.proofs.Records.{report_at, fits_here}
use Rattle.walk.proofs.put_report.Goals as goal

pub loop-place-init : goal.loop-place-init
loop-place-init c = none _ 0

pub put_here-at-requires-clause-place_in_bounds : goal.put_here-at-requires-clause-place_in_bounds
put_here-at-requires-clause-place_in_bounds c =
    omega (arith, ap (λ (o : Opened). o.count) (is_opening c.args.section.now c.opened-n.ensures))

pub put_here-at-requires-clause-room : goal.put_here-at-requires-clause-room
put_here-at-requires-clause-room c =
    let now = c.loop-place in
    let s = c.args.section.now in
    omega (
      arith,
      now.invariant.ends,
      fits_here s (marks_of c.args.reached.now) {p = now.place} refl
          (omega (arith, ap (λ (o : Opened). o.count) (is_opening s c.opened-n.ensures))),
      c.requires,
    )

pub loop-place-preserved : goal.loop-place-preserved
loop-place-preserved c =
    let now = c.loop-place in
    let records = now.invariant then c.put_here-at.ensures in
    rw (add-one now.place) records

pub returns : goal.returns
returns c =
    let now = c.loop-place in
    let s = c.args.section.now in
    let all : now.place ≡ (opening_of s).count = omega (arith, ap (λ (o : Opened). o.count) (is_opening s c.opened-n.ensures)) in
    rw (report_at s (marks_of c.args.reached.now) refl all) at now.invariant
