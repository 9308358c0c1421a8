-- `manual_rows::pages::other_page` meets its contract. Assumes nothing.
use Rattle.std.proofs.Common.{arith}
use Rattle.manual_rows.proofs.Paging.{to_push_one, str_stays, to_pop_one, ldr_stays, to_ldm, pop_stays, to_stmdb, push_stays, others_stay}
use Rattle.manual_tables.specs.Titles.{title_at}
use Rattle.manual_rows.proofs.pages.other_page.Goals as goal

pub returns-in-45 : goal.returns-in-45
returns-in-45 c = unfold title_at in rw c.in-45.is c.adr.ensures

pub returns-in-131 : goal.returns-in-131
returns-in-131 c = rw c.in-131.is (to_push_one _ (cc))

pub returns-in_default : goal.returns-in_default
returns-in_default c = rw c.in-131.is (str_stays _ (cc))

pub returns-in-133 : goal.returns-in-133
returns-in-133 c = rw c.in-133.is (to_pop_one _ (cc))

pub returns-in_default-2 : goal.returns-in_default-2
returns-in_default-2 c = rw c.in-133.is (ldr_stays _ (cc))

pub returns-in-221 : goal.returns-in-221
returns-in-221 c = rw c.in-221.is (to_ldm _ (cc))

pub returns-in_default-3 : goal.returns-in_default-3
returns-in_default-3 c = rw c.in-221.is (pop_stays _ (cc))

pub returns-in-223 : goal.returns-in-223
returns-in-223 c = rw c.in-223.is (to_stmdb _ (cc))

pub returns-in_default-4 : goal.returns-in_default-4
returns-in_default-4 c = rw c.in-223.is (push_stays _ (cc))

pub returns-in_default-5 : goal.returns-in_default-5
returns-in_default-5 c = others_stay _ _ (omega arith) (λ e. omega arith) (λ e. omega arith) (λ e. omega arith) (λ e. omega arith) (λ e. omega arith)
