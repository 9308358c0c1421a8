-- What is exported asks what the function of the library asks, and promises what that promises: each contract is that one's. So what is proved of the
-- library's contracts holds of these. Assumes nothing.
use mathlib.Core.Path.{◌≡◌, refl}
use Rattle.manual_rows.proofs.brassdozen_manual_row.Reads as brassdozen_manual_row
use Rattle.manual_rows_c.proofs.brassdozen_manual_row.Reads as exported_brassdozen_manual_row

pub brassdozen_manual_row_same : (exported_brassdozen_manual_row.Pre ≡ brassdozen_manual_row.Pre) × (exported_brassdozen_manual_row.Post ≡ brassdozen_manual_row.Post)
brassdozen_manual_row_same = (refl, refl)
