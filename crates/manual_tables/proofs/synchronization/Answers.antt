-- `tables::synchronization` meets its contract. Assumes nothing.
use Rattle.std.proofs.Common.{◌≡◌, List, [], ◌∷◌, ℕ}
use Rattle.word.specs.Field.{field}
use Rattle.manual.specs.A5 as A5
use Rattle.manual_tables.specs.Titles.{number_of}
use Rattle.manual_tables.proofs.Place.{Column, bits, Same, looked}
use Rattle.manual_tables.proofs.synchronization.Goals as goal

abbrev columns : List Column
columns = bits 20 4 ∷ []

depends : (w w' : ℕ) → Same columns w w' → A5.synchronization w ≡ A5.synchronization w'
depends w w' (a, end) = unfold A5.synchronization in simp (a)

pub returns : goal.returns
unfolding field number_of A5.synchronization
returns c = looked A5.synchronization columns 94 depends tt c.args.w c.column-place.ensures.0 c.title.ensures
