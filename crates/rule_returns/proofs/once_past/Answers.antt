-- `rule_returns::once_past` meets its contract. Assumes nothing.
use mathlib.Core.Path.{◌≡◌}
use mathlib.Core.Bool.{Bool, true, false}
use Rattle.walk_marks.specs.Marks.{marks_of}
use Rattle.rule_runs.specs.Summaries.{Once}
use Rattle.rule_places.specs.Coded.{has, effect, flags_at, program_of}
use Rattle.rule_returns.specs.Table.{Table}
use Rattle.rule_returns.proofs.Tables.{other_left}
use Rattle.rule_returns.proofs.once_past.Goals as goal

pub returns-then-once_left : goal.returns-then-once_left
returns-then-once_left c = λ entries. (λ e. let (l, o) = (c.once_left.ensures entries).0 e in (false, l, o), λ o. c.if-once_left.true)

pub returns-else-once_left : goal.returns-else-once_left
returns-else-once_left c =
    let a = c.args in
    let flags = a.program.flags.now in
    λ entries.
    let dirty = c.once_left-else-once_left.ensures entries in
    let P = program_of flags a.program.targets.now a.program.further.now entries in (
      λ e. let (l, o) = dirty.0 e in (true, l, o),
      λ (v, l, o). other_left (λ (w : Bool). (has (flags_at flags a.p) (effect a.s w) ≡ true) × Once P (Table (marks_of a.known.now)) a.p a.u w)
          (c.once_left.ensures entries) dirty c.if-once_left.false v (l, o),
    )
