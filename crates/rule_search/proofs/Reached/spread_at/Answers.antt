-- `rule_search::spread_at` meets its contract. Assumes nothing.
use mathlib.Core.Path.{sym, ◌∙◌}
use mathlib.Core.Logic.{inl}
use Rattle.rule_places.proofs.Flags.{same_default}
use Rattle.rule_search.specs.Search.{far}
use Rattle.rule_search.proofs.Reached.spread_at.Goals as goal

pub returns-then-self-x-clause-noted : goal.returns-then-self-x-clause-noted
returns-then-self-x-clause-noted c =
    let a = c.args in
    λ entries. inl (sym (same_default a.self.now.dist.now a.x 0 far c.requires.1) ∙ c.if-self-x.true, c.spread.ensures.noted entries)
