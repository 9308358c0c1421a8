-- `tables::coprocessor` meets its contract. Assumes nothing.
use Rattle.std.proofs.Common.{◌≡◌, List, [], ◌∷◌, ℕ}
use Rattle.word.specs.Field.{field}
use Rattle.manual.specs.A5 as A5
use Rattle.manual_tables.specs.Titles.{number_of}
use Rattle.manual_tables.proofs.Place.{Column, bits, is, Same, then, looked}
use Rattle.manual_tables.proofs.Parts.{coproc_101x}
use Rattle.manual_tables.proofs.coprocessor.Goals as goal

abbrev columns : List Column
columns = bits 20 6 ∷ bits 4 1 ∷ is 9 3 5 ∷ is 16 4 15 ∷ []

depends : (w w' : ℕ) → Same columns w w' → A5.coprocessor w ≡ A5.coprocessor w'
unfolding A5.coprocessor
depends w w' (a, (b, (d, (e, end)))) = simp (coproc_101x, a, b, d, e)

pub returns : goal.returns
unfolding field number_of A5.coprocessor
returns c =
    looked A5.coprocessor columns 232 depends tt c.args.w
    (then 2 (then 2 (then 2 c.column.ensures.0 c.column-2.ensures.0)
    c.is.ensures.0) c.is-2.ensures.0)
    c.title.ensures
