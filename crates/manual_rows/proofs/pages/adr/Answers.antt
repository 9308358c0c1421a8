-- `manual_rows::pages::adr` meets its contract. Assumes nothing.
use Rattle.std.proofs.Common.{arith}
use Rattle.manual_rows.proofs.Paging.{adr_add, adr_sub, adr_stays}
use Rattle.manual_rows.proofs.pages.adr.Goals as goal

pub returns-in-1-eq1 : goal.returns-in-1-eq1
returns-in-1-eq1 c = adr_add _ (omega arith) (omega arith)

pub returns-in-1-default : goal.returns-in-1-default
returns-in-1-default c = adr_sub _ (omega arith) (λ e. omega arith)

pub returns-in_default : goal.returns-in_default
returns-in_default c = adr_stays _ (λ e. omega arith)
