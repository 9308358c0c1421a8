-- `rule_search::spread` meets its contract. Assumes nothing.
use Rattle.walk_marks.specs.Marks.{marks_of}
use Rattle.rule_search.proofs.Nodes.{steps_in, steps_out}
use Rattle.rule_search.proofs.Spreading.{spreads_for, spreads_then}
use Rattle.rule_search.proofs.Reached.spread.Goals as goal

pub returns-clause-noted : goal.returns-clause-noted
returns-clause-noted c =
    let a = c.args in
    let flags = a.program.flags.now in
    let targets = a.program.targets.now in
    let further = a.program.further.now in
    let m = marks_of a.known.now in
    λ entries.
    spreads_for (steps_in flags targets further entries m a.x) (steps_out flags targets further entries m a.x)
    (spreads_then c.leave-clean.ensures.noted c.leave-dirty.ensures.noted)
