-- `tables::halfword_multiply` meets its contract. Assumes nothing.
use Rattle.std.proofs.Common.{◌≡◌, List, [], ◌∷◌, ℕ}
use Rattle.word.specs.Field.{field}
use Rattle.manual.specs.A5 as A5
use Rattle.manual_tables.specs.Titles.{number_of}
use Rattle.manual_tables.proofs.Place.{Column, bits, Same, then, looked}
use Rattle.manual_tables.proofs.halfword_multiply.Goals as goal

abbrev columns : List Column
columns = bits 21 2 ∷ bits 5 1 ∷ []

depends : (w w' : ℕ) → Same columns w w' → A5.halfword_multiply w ≡ A5.halfword_multiply w'
unfolding A5.halfword_multiply
depends w w' (a, (b, end)) = simp (a, b)

pub returns : goal.returns
unfolding field number_of A5.halfword_multiply
returns c =
    looked A5.halfword_multiply columns 69 depends tt c.args.w (then 2 c.column.ensures.0
    c.column-2.ensures.0) c.title.ensures
