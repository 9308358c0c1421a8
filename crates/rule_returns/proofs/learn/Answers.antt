-- `rule_returns::learn` meets its contract. Assumes nothing.
use mathlib.Core.Path.{sym, ◌∙◌}
use native.Mathlib.Omega.{arith}
use Rattle.walk_marks.specs.Marks.{marks_of}
use Rattle.walk_marks.proofs.Marks.{length_marks}
use Rattle.rule_returns.proofs.Rounds.{known_one, other_one, new_one}
use Rattle.rule_returns.proofs.learn.Goals as goal
use Rattle.rule_returns.proofs.learn.Goals.{then-get-via-then-get, then-get-via-else-get+then-not-once_past}

pub returns-then-get : goal.returns-then-get
returns-then-get c =
    let a = c.args in
    λ entries. elim c.then-get.branch [
      | then-get-via-then-get w ↦ known_one (marks_of a.known.now) a.i (sym c.get.ensures ∙ w.if-get.true)
      | then-get-via-else-get+then-not-once_past w ↦
          other_one (marks_of a.known.now) a.i _ (w.once_past.ensures entries) w.if-not-once_past.true
    ]

pub returns : goal.returns
returns c =
    let a = c.args in
    λ entries.
    new_one (marks_of a.known.now) a.i _ (omega (arith, length_marks a.known.now, c.requires)) (c.once_past.ensures entries)
    c.if-not-once_past.false (sym c.get.ensures ∙ c.if-get.false) c.set.ensures
