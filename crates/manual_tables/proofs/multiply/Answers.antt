-- `tables::multiply` meets its contract. Assumes nothing.
use Rattle.std.proofs.Common.{◌≡◌, List, [], ◌∷◌, ℕ}
use Rattle.word.specs.Field.{field}
use Rattle.manual.specs.A5 as A5
use Rattle.manual_tables.specs.Titles.{number_of}
use Rattle.manual_tables.proofs.Place.{Column, bits, Same, looked}
use Rattle.manual_tables.proofs.multiply.Goals as goal

abbrev columns : List Column
columns = bits 20 4 ∷ []

depends : (w w' : ℕ) → Same columns w w' → A5.multiply w ≡ A5.multiply w'
depends w w' (a, end) = unfold A5.multiply in simp (a)

pub returns : goal.returns
unfolding field number_of A5.multiply
returns c = looked A5.multiply columns 61 depends tt c.args.w c.column-place.ensures.0 c.title.ensures
