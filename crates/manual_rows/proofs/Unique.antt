-- No second result fits a contract, and a result tells the row. Each line is about the contract itself, as the check reads it from the
-- source. Assumes nothing.
use Rattle.std.proofs.Common.{◌≡◌, ◌∙◌, sym}
use Rattle.word.specs.Only.{Only}
use Rattle.manual.specs.A8.{row_of}
use Rattle.manual_tables.specs.Titles.{title_at}
use Rattle.manual_rows.specs.Told.{title_is}
use Rattle.manual_rows.proofs.brassdozen_manual_row.Reads as row
use Rattle.manual_rows.proofs.leads.table_row.Reads as table_row

pub row_only : Only row.Post
row_only κs a r r' s s' p q = p.number ∙ sym q.number

pub table_row_only : Only table_row.Post
table_row_only κs a r r' s s' p q = p.number ∙ sym q.number

-- each word's row is in the list of titles
pub each_row_known : (κs : _) (a : _) (r : _) (s : _) → row.Post κs a r s → title_at r ≡ row_of a.0
each_row_known κs a r s p = title_is p
