-- That no second result fits a contract, said of the contract itself.
use Rattle.std.specs.Prelude.{◌≡◌}

abbrev pub Only : {K : Type 0} {A R S : K → Type 0} → ((κs : K) → A κs → R κs → S κs → Type 0) → Type 0
Only {K} {A} {R} {S} Post = (κs : K) (a : A κs) (r r' : R κs) (s s' : S κs) → Post κs a r s → Post κs a r' s' → r ≡ r'
