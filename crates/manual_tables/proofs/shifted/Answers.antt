-- `tables::shifted` meets its contract. Assumes nothing.
use Rattle.std.proofs.Common.{◌≡◌, List, [], ◌∷◌, ℕ}
use Rattle.word.specs.Field.{field}
use Rattle.manual.specs.A5 as A5
use Rattle.manual_tables.specs.Titles.{number_of}
use Rattle.manual_tables.proofs.Place.{Column, bits, Same, then, looked}
use Rattle.manual_tables.proofs.shifted.Goals as goal

abbrev columns : List Column
columns = bits 20 5 ∷ bits 5 2 ∷ []

depends : (w w' : ℕ) → Same columns w w' → A5.data_processing_shifted w ≡ A5.data_processing_shifted w'
unfolding A5.data_processing_shifted
depends w w' (a, (b, end)) = simp (a, b)

pub returns : goal.returns
unfolding field number_of A5.data_processing_shifted
returns c =
    looked A5.data_processing_shifted columns 23 depends tt c.args.w
    (then 4 c.column.ensures.0 c.column-2.ensures.0) c.title.ensures
