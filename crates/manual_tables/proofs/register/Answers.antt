-- `tables::register` meets its contract. Assumes nothing.
use Rattle.std.proofs.Common.{◌≡◌, List, [], ◌∷◌, ℕ}
use Rattle.word.specs.Field.{field}
use Rattle.manual.specs.A5 as A5
use Rattle.manual_tables.specs.Titles.{number_of}
use Rattle.manual_tables.proofs.Place.{Column, bits, is, Same, then, looked}
use Rattle.manual_tables.proofs.register.Goals as goal

abbrev columns : List Column
columns = bits 20 5 ∷ bits 5 2 ∷ is 7 5 0 ∷ []

depends : (w w' : ℕ) → Same columns w w' → A5.data_processing_register w ≡ A5.data_processing_register w'
unfolding A5.data_processing_register
depends w w' (a, (b, (d, end))) = simp (a, b, d)

pub returns : goal.returns
unfolding field number_of A5.data_processing_register
returns c =
    looked A5.data_processing_register columns 2 depends tt c.args.w
    (then 2 (then 4 c.column.ensures.0 c.column-2.ensures.0) c.is.ensures.0)
    c.title.ensures
