-- No second result, and no second marks, fit a contract, as the check reads it from the source. Assumes nothing.
use mathlib.Core.Path.{◌≡◌, ◌∙◌, sym}
use native.Mathlib.Omega.{arith}
use Rattle.walk_marks.specs.Marks.{marks_of}
use Rattle.walk_marks.proofs.Looking as looking
use Rattle.walk_marks.proofs.Marks.{length_marks}
use Rattle.walk_marks.proofs.first.Reads as first
use Rattle.walk_marks.proofs.get.Reads as get
use Rattle.walk_marks.proofs.set.Reads as set
use Rattle.walk_marks.proofs.unset.Reads as unset

pub get_only : (κs : _) (a : _) (r r' : _) (s s' : _) → get.Post κs a r s → get.Post κs a r' s' → r ≡ r'
get_only κs a r r' s s' p q = p ∙ sym q

pub set_only : (κs : _) (a : _) (r r' : _) (s s' : _) → set.Post κs a r s → set.Post κs a r' s' → marks_of s.0.now ≡ marks_of s'.0.now
set_only κs a r r' s s' p q = p ∙ sym q

pub unset_only : (κs : _) (a : _) (r r' : _) (s s' : _) → unset.Post κs a r s → unset.Post κs a r' s' → marks_of s.0.now ≡ marks_of s'.0.now
unset_only κs a r r' s s' p q = p ∙ sym q

pub first_only : (κs : _) (a : _) (r r' : _) (s s' : _) → first.Pre κs a → first.Post κs a r s → first.Post κs a r' s' → r ≡ r'
first_only κs a r r' s s' pre p q = looking.first_only (omega (arith, pre.0, length_marks a.0.now)) p q
