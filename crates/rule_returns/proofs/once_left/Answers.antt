-- `rule_returns::once_left` meets its contract. Assumes nothing.
use mathlib.Core.Path.{sym, ◌∙◌}
use Rattle.rule_returns.proofs.once_left.Goals as goal

pub returns-then-leaves : goal.returns-then-leaves
returns-then-leaves c = λ entries. let law = c.once.ensures entries in (λ e. (sym c.leaves.ensures ∙ c.if-leaves.true, law.0 e), λ x. law.1 x.1)
