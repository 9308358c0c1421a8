-- No second result, and no second last state of the lent buffer, fits a contract. Each line is about the contract itself, as the check
-- reads it from the source. Assumes nothing.
use mathlib.Core.Path.{◌≡◌, ◌∙◌, sym}
use mathlib.Core.List.{List}
use Prim.Native.Nat.{ℕ}
use Rattle.text.specs.Put.{Put}
use Rattle.text.proofs.put_whole.Reads as put_whole
use Rattle.text.proofs.put_one.Reads as put_one
use Rattle.text.proofs.put.Reads as put
use Rattle.text.proofs.put_entry.Reads as put_entry
use Rattle.text.proofs.put_decimal.Reads as put_decimal
use Rattle.text.proofs.put_signed.Reads as put_signed
use Rattle.text.proofs.put_hex.Reads as put_hex

-- a text that is put into a buffer leaves one buffer, and one place after it
pub one_put : {A : Type 0} {out s last last' : List A} {at next next' : ℕ} → Put out at s next last → Put out at s next' last' → (next ≡ next') × (last ≡ last')
one_put p q = (p.ends ∙ sym q.ends, p.holds ∙ sym q.holds)

pub put_whole_only : (T : _) (laws : _) (copy : _) (C : _) (d : _) (κs : _) (a : _) (r r' : _) (s s' : _) → put_whole.Post T laws copy C d κs a r s
    → put_whole.Post T laws copy C d κs a r' s' → (r ≡ r') × (s.0.now ≡ s'.0.now)
put_whole_only T laws copy C d κs a r r' s s' p q = (p.0 ∙ sym q.0, p.1 ∙ sym q.1)

pub put_one_only : (T : _) (laws : _) (copy : _) (C : _) (d : _) (κs : _) (a : _) (r r' : _) (s s' : _) → put_one.Post T laws copy C d κs a r s
    → put_one.Post T laws copy C d κs a r' s' → (r ≡ r') × (s.0.now ≡ s'.0.now)
put_one_only T laws copy C d κs a r r' s s' p q = one_put p q

pub put_only : (T : _) (laws : _) (copy : _) (C : _) (d : _) (κs : _) (a : _) (r r' : _) (s s' : _) → put.Post T laws copy C d κs a r s
    → put.Post T laws copy C d κs a r' s' → (r ≡ r') × (s.0.now ≡ s'.0.now)
put_only T laws copy C d κs a r r' s s' p q = one_put p q

pub put_entry_only : (κs : _) (a : _) (r r' : _) (s s' : _) → put_entry.Post κs a r s → put_entry.Post κs a r' s'
    → (r ≡ r') × (s.0.now ≡ s'.0.now)
put_entry_only κs a r r' s s' p q = one_put p q

pub put_decimal_only : (κs : _) (a : _) (r r' : _) (s s' : _) → put_decimal.Post κs a r s → put_decimal.Post κs a r' s'
    → (r ≡ r') × (s.0.now ≡ s'.0.now)
put_decimal_only κs a r r' s s' p q = one_put p q

pub put_signed_only : (κs : _) (a : _) (r r' : _) (s s' : _) → put_signed.Post κs a r s → put_signed.Post κs a r' s'
    → (r ≡ r') × (s.0.now ≡ s'.0.now)
put_signed_only κs a r r' s s' p q = one_put p q

pub put_hex_only : (κs : _) (a : _) (r r' : _) (s s' : _) → put_hex.Post κs a r s → put_hex.Post κs a r' s' → (r ≡ r') × (s.0.now ≡ s'.0.now)
put_hex_only κs a r r' s s' p q = one_put p q
