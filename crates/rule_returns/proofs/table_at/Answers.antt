-- `rule_returns::table_at` meets its contract. Assumes nothing.
use mathlib.Core.Path.{◌∙◌}
use native.Mathlib.Omega.{arith}
use borrow.Author.Tests.{le-ltb}
use Rattle.rule_returns.proofs.Tables.{table_behind}
use Rattle.rule_returns.proofs.table_at.Goals as goal

pub returns-else-i-known : goal.returns-else-i-known
returns-else-i-known c =
    let a = c.args in
    le-ltb _ _ c.if-i-known.false ∙ table_behind a.known.now a.p a.s a.u (omega (arith, c.if-i-known.false, c.from.ensures, c.from-2.ensures))
