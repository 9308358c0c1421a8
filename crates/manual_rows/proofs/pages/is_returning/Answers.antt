-- `rows::pages::is_returning` meets its contract. Assumes nothing.
use Rattle.manual_tables.specs.Titles.{title_at}
use Rattle.manual_rows.proofs.Paging.{returning_is}
use Rattle.manual_rows.proofs.pages.is_returning.Goals as goal

pub returns : goal.returns
returns c = unfold title_at in returning_is c.args.n c.requires
