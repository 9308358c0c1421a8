-- `tables::extra` meets its contract. Assumes nothing.
use Rattle.std.proofs.Common.{◌≡◌, List, [], ◌∷◌, ℕ}
use Rattle.word.specs.Field.{field}
use Rattle.manual.specs.A5 as A5
use Rattle.manual_tables.specs.Titles.{number_of}
use Rattle.manual_tables.proofs.Place.{Column, bits, is, Same, then, looked}
use Rattle.manual_tables.proofs.extra.Goals as goal

abbrev columns : List Column
columns = bits 5 2 ∷ bits 20 5 ∷ is 16 4 15 ∷ []

depends : (w w' : ℕ) → Same columns w w' → A5.extra_load_store w ≡ A5.extra_load_store w'
unfolding A5.extra_load_store
depends w w' (a, (b, (d, end))) = simp (a, b, d)

pub returns : goal.returns
unfolding field number_of A5.extra_load_store
returns c =
    looked A5.extra_load_store columns 74 depends tt c.args.w
    (then 2 (then 32 c.column.ensures.0 c.column-2.ensures.0) c.is.ensures.0)
    c.title.ensures
