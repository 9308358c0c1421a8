-- `rule_search::search` meets its contract. Assumes nothing.
use mathlib.Core.Path.{◌≡◌}
use native.Mathlib.Omega.{arith}
use lib.ListN.{length}
use Rattle.std.specs.Prelude.{replicate}
use Rattle.rule_returns.proofs.Filling.{filled}
use Rattle.rule_search.specs.Search.{far}
use Rattle.rule_search.proofs.search.Goals as goal

pub walk-requires-clause-none : goal.walk-requires-clause-none
walk-requires-clause-none c =
    let long = length c.args.dist.now in
    let cleared : c.fill.new.self ≡ replicate long far = c.fill.ensures.after (λ y e. e) in
    λ y h. let z : ⊥ = omega (arith, (rw cleared at h), filled long far y) in z
