-- `walk::report_len` meets its contract. The loop's invariant: the numbers of the places before `place` are counted. Assumes nothing.
use mathlib.Core.Path.{◌≡◌, refl, sym, ap, ◌∙◌}
use Prim.Native.Nat.{◌+◌}
use native.Mathlib.Omega.{arith}
use lib.ListN.{length}
use Rattle.section.specs.Section.{opening_of}
use Rattle.section.specs.declared.Opened.{Opened}
use Rattle.section.proofs.Accepted.{is_opening, opened}
use Rattle.walk_marks.specs.Marks.{marks_of}
use Rattle.walk.proofs.Records.{here_is, here_not, report_at, before_more, few_before}
use Rattle.walk.proofs.report_len.Goals as goal
use Rattle.walk.proofs.report_len.Goals.{then-get, else-get}

pub get-requires : goal.get-requires
get-requires c =
    let s = c.args.section.now in
    omega (arith, c.loop-place-test.true, ap (λ (o : Opened). o.count) (is_opening s c.opened-n.ensures), (opened s).few)

pub overflow_add-len : goal.overflow_add-len
overflow_add-len c =
    let now = c.loop-place in
    let s = c.args.section.now in
    let marks = marks_of c.args.reached.now in
    let marked = sym c.get.ensures ∙ c.if-get.true in
    record {
      fits = omega (
        arith,
        before_more s marks now.place,
        few_before s marks (now.place + 1),
        ap length (here_is s marks now.place refl refl marked),
        c.marked_len-len.ensures,
        now.invariant,
        c.loop-place-test.true,
        ap (λ (o : Opened). o.count) (is_opening s c.opened-n.ensures),
        (opened s).few,
      );
    }

pub loop-place-preserved : goal.loop-place-preserved
loop-place-preserved c =
    let now = c.loop-place in
    let s = c.args.section.now in
    let marks = marks_of c.args.reached.now in
    elim c.if-get.branch [
      | then-get w ↦
          let marked = sym c.get.ensures ∙ w.if-get.true in
          omega (arith, before_more s marks now.place, ap length (here_is s marks now.place refl refl marked), w.marked_len-len.ensures, w.len-is, now.invariant)
      | else-get w ↦
          let left = sym c.get.ensures ∙ w.if-get.false in
          omega (arith, before_more s marks now.place, ap length (here_not s marks now.place left), w.len-is, now.invariant)
    ]

pub returns : goal.returns
returns c =
    let now = c.loop-place in
    let s = c.args.section.now in
    let all : now.place ≡ (opening_of s).count = omega (arith, ap (λ (o : Opened). o.count) (is_opening s c.opened-n.ensures)) in
    now.invariant ∙ ap length (report_at s (marks_of c.args.reached.now) refl all)
