-- `rule_search::enter_pairs` meets its contract. The loop's invariant: the pairs before `i` are entered. Assumes nothing.
use Rattle.walk_marks.specs.Marks.{marks_of}
use Rattle.rule_search.specs.Search.{Spreads, SameLists}
use Rattle.rule_search.proofs.Entering.{ByPair}
use Rattle.rule_search.proofs.Spreading.{Some}
use Rattle.rule_search.proofs.Reached.enter_pairs.Given as goal

abbrev pub invariant-loop-i : goal.invariant-loop-i
invariant-loop-i l = SameLists l.initial.self l.self
    × Spreads (λ y. Some (ByPair l.further (marks_of l.known) l.calls l.step.v l.step.p) l.i y) l.step.x l.step.d l.initial.self.dist.now l.initial.self.from.now l.self.dist.now l.self.from.now l.new
