-- `rule_returns::once` meets its contract. Assumes nothing.
use mathlib.Core.Path.{sym, ◌∙◌}
use mathlib.Core.Logic.{inl, inr}
use Rattle.walk_marks.specs.Marks.{marks_of}
use Rattle.rule_runs.proofs.Tests.{not_both}
use Rattle.rule_returns.proofs.Tables.{once_in, once_out, last_of}
use Rattle.rule_returns.proofs.once.Goals as goal
use Rattle.rule_returns.proofs.once.Goals.{then-ends, else-ends, then-by_next, else-by_next}

pub returns-then-by_target : goal.returns-then-by_target
returns-then-by_target c =
    let a = c.args in
    let program = a.program in
    λ entries. (
      λ e. once_in program.flags.now program.targets.now program.further.now entries (marks_of a.known.now) a.p a.v a.u
          (elim c.if-by_next.branch [
            | then-by_next w ↦ elim c.if-ends.branch [
              | then-ends x ↦ inl (c.ends.ensures.0 x.if-ends.true)
              | else-ends x ↦ inr (inl (x.by_next.ensures.0 (sym x.value-is ∙ w.if-by_next.true)))
            ]
            | else-by_next w ↦ inr (inr (inl (w.by_target.ensures.0 (sym w.value-is ∙ e))))
          ]),
      λ o. c.if-by_target.true,
    )

pub returns-else-by_target : goal.returns-else-by_target
returns-else-by_target c =
    let a = c.args in
    let program = a.program in
    λ entries. (
      λ e. once_in program.flags.now program.targets.now program.further.now entries (marks_of a.known.now) a.p a.v a.u
          (inr (inr (inr (c.by_further.ensures.0 e)))),
      λ o. elim c.if-by_next.branch [
        | then-by_next w ↦ not_both c.if-by_next.value (w.value-is ∙ w.if-by_next.true) c.if-by_target.false
        | else-by_next w ↦ elim c.if-ends.branch [
          | then-ends x ↦ not_both c.if-ends.value (x.value-is ∙ x.if-ends.true) w.if-by_next.false
          | else-ends x ↦ last_of c.ends.ensures x.by_next.ensures w.by_target.ensures c.by_further.ensures x.if-ends.false
              (sym x.value-is ∙ w.if-by_next.false) (sym w.value-is ∙ c.if-by_target.false)
              (once_out program.flags.now program.targets.now program.further.now entries (marks_of a.known.now) a.p a.v a.u o)
        ]
      ],
    )
