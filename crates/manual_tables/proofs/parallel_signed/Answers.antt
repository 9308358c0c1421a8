-- `tables::parallel_signed` meets its contract. Assumes nothing.
use Rattle.std.proofs.Common.{◌≡◌, refl, List, [], ◌∷◌, ℕ}
use Rattle.word.specs.Field.{field}
use Rattle.manual.specs.A5 as A5
use Rattle.manual_tables.specs.Titles.{number_of}
use Rattle.manual_tables.proofs.Place.{Column, bits, Same, looked}
use Rattle.manual_tables.proofs.parallel_signed.Goals as goal

abbrev columns : List Column
columns = bits 20 2 ∷ bits 5 3 ∷ []

depends : (w w' : ℕ) → Same columns w w' → A5.parallel_signed w ≡ A5.parallel_signed w'
unfolding A5.parallel_signed
depends w w' (a, (b, end)) = simp (a, b)

pub returns : goal.returns
unfolding field number_of A5.parallel_signed
returns c = looked A5.parallel_signed columns 141 depends tt c.args.w refl c.parallel.ensures
