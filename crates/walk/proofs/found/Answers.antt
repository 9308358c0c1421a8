-- `walk::found` meets its contract. Assumes nothing.
use mathlib.Core.Path.{ap, ◌∙◌}
use Prim.Native.Nat.{ℕ}
use native.Mathlib.Omega.{arith}
use Rattle.walk_marks.specs.Marks.{marks_of}
use Rattle.walk_marks.proofs.Marks.{length_marks}
use Rattle.walk.specs.Report.{report_of}
use Rattle.walk.specs.Walk.{answer_of}
use Rattle.walk.proofs.found.Goals as goal

pub returns : goal.returns
returns c =
    let found = c.run-words.ensures in
    let reached = c.run-words.new.self.reached in
    record {
      marks = marks_of reached;
      long = omega (arith, c.run-words.new.self.full.0, length_marks reached);
      exact = found.0;
      answer = c.report.ensures.value
          ∙ ap (λ (n : ℕ). answer_of (report_of c.args.section.now (marks_of reached)) n c.args.out.now) found.1;
      left = c.report.ensures.out_after;
    }
