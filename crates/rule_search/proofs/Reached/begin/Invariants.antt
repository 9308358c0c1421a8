-- `rule_search::begin` meets its contract. The loop's invariant: the entries so far are reached. Assumes nothing.
use Rattle.rule_search.specs.Search.{Spreads, SameLists}
use Rattle.rule_search.proofs.Entering.{ByEntry}
use Rattle.rule_search.proofs.Spreading.{Some}
use Rattle.rule_search.proofs.Reached.begin.Given as goal

abbrev pub invariant-loop-e : goal.invariant-loop-e
invariant-loop-e l = SameLists l.initial.self l.self
    × Spreads (λ y. Some (ByEntry l.entries) l.e-index y) 0 0 l.initial.self.dist.now l.initial.self.from.now l.self.dist.now l.self.from.now l.new
