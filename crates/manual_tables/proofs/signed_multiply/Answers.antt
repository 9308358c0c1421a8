-- `tables::signed_multiply` meets its contract. Assumes nothing.
use Rattle.std.proofs.Common.{◌≡◌, List, [], ◌∷◌, ℕ}
use Rattle.word.specs.Field.{field}
use Rattle.manual.specs.A5 as A5
use Rattle.manual_tables.specs.Titles.{number_of}
use Rattle.manual_tables.proofs.Place.{Column, bits, is, Same, then, looked}
use Rattle.manual_tables.proofs.signed_multiply.Goals as goal

abbrev columns : List Column
columns = bits 20 3 ∷ bits 5 3 ∷ is 12 4 15 ∷ []

depends : (w w' : ℕ) → Same columns w w' → A5.signed_multiply w ≡ A5.signed_multiply w'
unfolding A5.signed_multiply
depends w w' (a, (b, (d, end))) = simp (a, b, d)

pub returns : goal.returns
unfolding field number_of A5.signed_multiply
returns c =
    looked A5.signed_multiply columns 199 depends tt c.args.w
    (then 2 (then 8 c.column.ensures.0 c.column-2.ensures.0) c.is.ensures.0)
    c.title.ensures
