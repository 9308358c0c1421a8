-- `tables::load_store` meets its contract. Assumes nothing.
use Rattle.std.proofs.Common.{◌≡◌, List, [], ◌∷◌, ℕ}
use Rattle.word.specs.Field.{field}
use Rattle.manual.specs.A5 as A5
use Rattle.manual_tables.specs.Titles.{number_of}
use Rattle.manual_tables.proofs.Place.{Column, bits, is, Same, then, looked}
use Rattle.manual_tables.proofs.load_store.Goals as goal

abbrev columns : List Column
columns = bits 25 1 ∷ bits 20 5 ∷ bits 4 1 ∷ is 16 4 15 ∷ []

depends : (w w' : ℕ) → Same columns w w' → A5.load_store w ≡ A5.load_store w'
unfolding A5.load_store
depends w w' (a, (b, (d, (e, end)))) = simp (a, b, d, e)

pub returns : goal.returns
unfolding field number_of A5.load_store
returns c =
    looked A5.load_store columns 127 depends tt c.args.w
    (then 2 (then 2 (then 32 c.column.ensures.0 c.column-2.ensures.0)
    c.column-3.ensures.0) c.is.ensures.0) c.title.ensures
