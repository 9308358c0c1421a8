-- No second result, and no second last state of the lent buffer, fits a contract. Each line is about the contract itself, as the check
-- reads it from the source. Assumes nothing.
use mathlib.Core.Path.{◌≡◌, ◌∙◌, sym}
use Rattle.word.specs.Only.{Only}
use Rattle.text.proofs.Unique.{one_put}
use Rattle.line_names.proofs.stem.Reads as stem
use Rattle.line_names.proofs.put_root.Reads as put_root
use Rattle.line_names.proofs.put_suffix.Reads as put_suffix
use Rattle.line_names.proofs.put_mask.Reads as put_mask
use Rattle.line_names.proofs.put_barrier.Reads as put_barrier
use Rattle.line_names.proofs.put_shift.Reads as put_shift
use Rattle.line_names.proofs.put_source.Reads as put_source
use Rattle.line_names.proofs.put_register.Reads as put_register
use Rattle.line_names.proofs.put_coprocessor.Reads as put_coprocessor
use Rattle.line_names.proofs.put_co_register.Reads as put_co_register
use Rattle.line_names.proofs.put_flow.Reads as put_flow

pub stem_only : Only stem.Post
stem_only κs a r r' s s' p q = p ∙ sym q

pub put_root_only : (κs : _) (a : _) (r r' : _) (s s' : _) → put_root.Post κs a r s → put_root.Post κs a r' s' → (r ≡ r') × (s.0.now ≡ s'.0.now)
put_root_only κs a r r' s s' p q = one_put p q

pub put_suffix_only : (κs : _) (a : _) (r r' : _) (s s' : _) → put_suffix.Post κs a r s → put_suffix.Post κs a r' s'
    → (r ≡ r') × (s.0.now ≡ s'.0.now)
put_suffix_only κs a r r' s s' p q = one_put p q

pub put_mask_only : (κs : _) (a : _) (r r' : _) (s s' : _) → put_mask.Post κs a r s → put_mask.Post κs a r' s' → (r ≡ r') × (s.0.now ≡ s'.0.now)
put_mask_only κs a r r' s s' p q = one_put p q

pub put_barrier_only : (κs : _) (a : _) (r r' : _) (s s' : _) → put_barrier.Post κs a r s → put_barrier.Post κs a r' s'
    → (r ≡ r') × (s.0.now ≡ s'.0.now)
put_barrier_only κs a r r' s s' p q = one_put p q

pub put_shift_only : (κs : _) (a : _) (r r' : _) (s s' : _) → put_shift.Post κs a r s → put_shift.Post κs a r' s'
    → (r ≡ r') × (s.0.now ≡ s'.0.now)
put_shift_only κs a r r' s s' p q = one_put p q

pub put_source_only : (κs : _) (a : _) (r r' : _) (s s' : _) → put_source.Post κs a r s → put_source.Post κs a r' s'
    → (r ≡ r') × (s.0.now ≡ s'.0.now)
put_source_only κs a r r' s s' p q = one_put p q

pub put_register_only : (κs : _) (a : _) (r r' : _) (s s' : _) → put_register.Post κs a r s → put_register.Post κs a r' s'
    → (r ≡ r') × (s.0.now ≡ s'.0.now)
put_register_only κs a r r' s s' p q = one_put p q

pub put_coprocessor_only : (κs : _) (a : _) (r r' : _) (s s' : _) → put_coprocessor.Post κs a r s → put_coprocessor.Post κs a r' s'
    → (r ≡ r') × (s.0.now ≡ s'.0.now)
put_coprocessor_only κs a r r' s s' p q = one_put p q

pub put_co_register_only : (κs : _) (a : _) (r r' : _) (s s' : _) → put_co_register.Post κs a r s → put_co_register.Post κs a r' s'
    → (r ≡ r') × (s.0.now ≡ s'.0.now)
put_co_register_only κs a r r' s s' p q = one_put p q

pub put_flow_only : (κs : _) (a : _) (r r' : _) (s s' : _) → put_flow.Post κs a r s → put_flow.Post κs a r' s' → (r ≡ r') × (s.0.now ≡ s'.0.now)
put_flow_only κs a r r' s s' p q = one_put p q
