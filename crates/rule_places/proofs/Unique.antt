-- No second result fits the contract of a public function, as the check reads it from the source. Assumes nothing.
use mathlib.Core.Path.{◌≡◌, refl, sym, ◌∙◌}
use mathlib.Core.Bool.{Bool, true, false}
use mathlib.Core.Logic.{◌↔◌}
use Rattle.rule_places.proofs.Coded.has.Reads as has
use Rattle.rule_places.proofs.Coded.inside.Reads as inside
use Rattle.rule_places.proofs.Coded.leaves.Reads as leaves
use Rattle.rule_places.proofs.Coded.target.Reads as target

pub has_only : (κs : _) (a : _) (r r' : _) (s s' : _) → has.Post κs a r s → has.Post κs a r' s' → r ≡ r'
has_only κs a r r' s s' p q = p ∙ sym q

pub leaves_only : (κs : _) (a : _) (r r' : _) (s s' : _) → leaves.Post κs a r s → leaves.Post κs a r' s' → r ≡ r'
leaves_only κs a r r' s s' p q = p ∙ sym q

pub target_only : (κs : _) (a : _) (r r' : _) (s s' : _) → target.Post κs a r s → target.Post κs a r' s' → r ≡ r'
target_only κs a r r' s s' p q = p.0 ∙ sym q.0

-- two tests of one thing
same_test : (r r' : Bool) {A : Type 0} → (r ≡ true) ↔ A → (r' ≡ true) ↔ A → r ≡ r'
same_test true r' f g = sym (g.1 (f.0 refl))
same_test false true f g = f.1 (g.0 refl)
same_test false false f g = refl

pub inside_only : (κs : _) (a : _) (r r' : _) (s s' : _) → inside.Post κs a r s → inside.Post κs a r' s' → r ≡ r'
inside_only κs a r r' s s' p q = same_test r r' p q
