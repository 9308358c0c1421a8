-- No second result, and no second last state of the lent row, fits a contract. Each line is about the contract itself, as the check
-- reads it from the source. Assumes nothing.
use mathlib.Core.Path.{◌≡◌, ◌∙◌, sym}
use Rattle.word.specs.Only.{Only}
use Rattle.insn_row.proofs.is_row.Reads as is_row
use Rattle.insn_row.proofs.put_row.Reads as put_row

pub put_row_only : (κs : _) (a : _) (r r' : _) (s s' : _) → put_row.Post κs a r s → put_row.Post κs a r' s' → (r ≡ r') × (s.0.now ≡ s'.0.now)
put_row_only κs a r r' s s' p q = (p.0 ∙ sym q.0, p.1 ∙ sym q.1)

pub is_row_only : Only is_row.Post
is_row_only κs a r r' s s' p q = p ∙ sym q
