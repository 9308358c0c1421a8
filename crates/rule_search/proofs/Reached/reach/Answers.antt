-- `rule_search::reach` meets its contract. Assumes nothing.
use native.Mathlib.Omega.{arith}
use Rattle.rule_places.proofs.Flags.{same_default}
use Rattle.rule_search.specs.Search.{far}
use Rattle.rule_search.proofs.Spreading.{new_node}
use Rattle.rule_search.proofs.Reached.reach.Goals as goal

pub returns-clause-noted : goal.returns-clause-noted
returns-clause-noted c =
    let a = c.args in
    let pre = c.requires in
    new_node a.self.now.dist.now a.self.now.from.now a.q a.x a.d pre.0 (omega (arith, pre))
    (omega (arith, c.if-self-q-lt-FAR.false, same_default a.self.now.dist.now a.q 0 far pre.0)) pre.3
