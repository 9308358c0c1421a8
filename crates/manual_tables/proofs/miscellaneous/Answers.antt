-- `tables::miscellaneous` meets its contract. Assumes nothing.
use Rattle.std.proofs.Common.{◌≡◌, List, [], ◌∷◌, ℕ}
use Rattle.word.specs.Field.{field}
use Rattle.manual.specs.A5 as A5
use Rattle.manual_tables.specs.Titles.{number_of}
use Rattle.manual_tables.proofs.Place.{Column, bits, Same, then, looked}
use Rattle.manual_tables.proofs.Parts.{op1_17, op1_16}
use Rattle.manual_tables.proofs.miscellaneous.Goals as goal

abbrev columns : List Column
columns = bits 4 3 ∷ bits 9 1 ∷ bits 21 2 ∷ bits 16 2 ∷ []

depends : (w w' : ℕ) → Same columns w w' → A5.miscellaneous w ≡ A5.miscellaneous w'
unfolding A5.miscellaneous A5.saturating
depends w w' (a, (b, (d, (e, end)))) = simp (op1_17, op1_16, a, b, d, e)

pub returns : goal.returns
unfolding field number_of A5.miscellaneous A5.saturating
returns c =
    looked A5.miscellaneous columns 111 depends tt c.args.w
    (then 4 (then 4 (then 2 c.column.ensures.0 c.column-2.ensures.0)
    c.column-3.ensures.0) c.column-4.ensures.0) c.title.ensures
