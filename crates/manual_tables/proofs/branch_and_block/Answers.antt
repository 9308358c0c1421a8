-- `tables::branch_and_block` meets its contract. Assumes nothing.
use Rattle.std.proofs.Common.{◌≡◌, List, [], ◌∷◌, ℕ}
use Rattle.word.specs.Field.{field}
use Rattle.manual.specs.A5 as A5
use Rattle.manual_tables.specs.Titles.{number_of}
use Rattle.manual_tables.proofs.Place.{Column, bits, is, Same, then, looked}
use Rattle.manual_tables.proofs.branch_and_block.Goals as goal

abbrev columns : List Column
columns = bits 20 6 ∷ bits 15 1 ∷ is 16 4 13 ∷ []

depends : (w w' : ℕ) → Same columns w w' → A5.branch_and_block w ≡ A5.branch_and_block w'
unfolding A5.branch_and_block
depends w w' (a, (b, (d, end))) = simp (a, b, d)

pub returns : goal.returns
unfolding field number_of A5.branch_and_block
returns c =
    looked A5.branch_and_block columns 217 depends tt c.args.w
    (then 2 (then 2 c.column.ensures.0 c.column-2.ensures.0) c.is.ensures.0)
    c.title.ensures
