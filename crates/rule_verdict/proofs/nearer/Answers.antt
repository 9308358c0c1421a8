-- `rule_verdict::nearer` meets its contract. Assumes nothing.
use mathlib.Core.Path.{◌∙◌}
use Prim.Native.Nat.{◌+◌, ◌*◌}
use native.Mathlib.Omega.{arith}
use Rattle.rule_runs.proofs.Tests.{not_both}
use Rattle.rule_places.proofs.Flags.{same_default}
use Rattle.rule_search.specs.Search.{far}
use Rattle.rule_verdict.proofs.Looking.{nearer_not}
use Rattle.rule_verdict.proofs.nearer.Goals as goal
use Rattle.rule_verdict.proofs.nearer.Goals.{else-has-via-then-has+else-steps-least, else-has-via-else-has}

pub returns : goal.returns
returns c =
    let a = c.args in
    nearer_not c.requires.2 (λ h. elim c.else-has.branch [
      | else-has-via-then-has+else-steps-least w ↦
          omega (arith, same_default a.dist.now (2 * a.p + 1) 0 far c.requires.0)
      | else-has-via-else-has w ↦ not_both _ (c.has.ensures ∙ h) w.if-has.false
    ])
