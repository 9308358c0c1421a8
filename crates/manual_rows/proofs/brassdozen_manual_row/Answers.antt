-- `manual_rows::brassdozen_manual_row` meets its contract. Assumes nothing.
use Rattle.std.proofs.Common.{sym, ◌∙◌}
use Rattle.manual_rows.proofs.Paging as P
use Rattle.manual_rows.proofs.brassdozen_manual_row.Goals as goal
use Rattle.manual_rows.proofs.brassdozen_manual_row.Goals.{else-is_returning-via-then-is_returning+else-is_return, else-is_returning-via-else-is_returning}

pub returns-then-is_return : goal.returns-then-is_return
returns-then-is_return c = P.returns _ _ c.table_row-n.ensures (cc) (cc)

pub returns-else-is_returning : goal.returns-else-is_returning
returns-else-is_returning c =
    elim c.else-is_returning.branch [
      | else-is_returning-via-then-is_returning+else-is_return w ↦
          P.no_return _ _ c.table_row-n.ensures (sym w.is_return.ensures ∙ w.if-is_return.false) c.other_page.ensures
      | else-is_returning-via-else-is_returning w ↦
          P.not_returning _ _ c.table_row-n.ensures (sym c.is_returning.ensures ∙ w.if-is_returning.false) c.other_page.ensures
    ]
