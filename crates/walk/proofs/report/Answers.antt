-- `walk::report` meets its contract. Assumes nothing.
use mathlib.Core.Path.{refl}
use native.Mathlib.Omega.{arith}
use Rattle.walk_marks.specs.Marks.{marks_of}
use Rattle.walk.specs.Report.{report_of}
use Rattle.walk.proofs.Answers.{with_room, without}
use Rattle.walk.proofs.report.Goals as goal

pub returns-then-out-report_len-clause-value : goal.returns-then-out-report_len-clause-value
returns-then-out-report_len-clause-value c =
    let report = report_of c.args.section.now (marks_of c.args.reached.now) in
    (without report c.args.words (omega (arith, c.report_len.ensures, c.if-out-report_len.true)) refl).0

pub returns-then-out-report_len-clause-out_after : goal.returns-then-out-report_len-clause-out_after
returns-then-out-report_len-clause-out_after c =
    let report = report_of c.args.section.now (marks_of c.args.reached.now) in
    (without report c.args.words {out = c.args.out.now} (omega (arith, c.report_len.ensures, c.if-out-report_len.true)) refl).1

pub returns-clause-value : goal.returns-clause-value
returns-clause-value c =
    (with_room (omega (arith, c.report_len.ensures, c.if-out-report_len.false)) c.put_report-numbers.ensures).0

pub returns-clause-out_after : goal.returns-clause-out_after
returns-clause-out_after c =
    (with_room {words = c.args.words} (omega (arith, c.report_len.ensures, c.if-out-report_len.false)) c.put_report-numbers.ensures).1
