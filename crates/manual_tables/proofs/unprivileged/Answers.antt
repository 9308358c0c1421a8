-- `tables::unprivileged` meets its contract. Assumes nothing.
use Rattle.std.proofs.Common.{◌≡◌, List, [], ◌∷◌, ℕ}
use Rattle.word.specs.Field.{field}
use Rattle.manual.specs.A5 as A5
use Rattle.manual_tables.specs.Titles.{number_of}
use Rattle.manual_tables.proofs.Place.{Column, bits, Same, then, looked}
use Rattle.manual_tables.proofs.Parts.{rt_0}
use Rattle.manual_tables.proofs.unprivileged.Goals as goal

abbrev columns : List Column
columns = bits 5 2 ∷ bits 20 1 ∷ bits 12 1 ∷ []

depends : (w w' : ℕ) → Same columns w w' → A5.extra_unprivileged w ≡ A5.extra_unprivileged w'
unfolding A5.extra_unprivileged
depends w w' (a, (b, (d, end))) = simp (rt_0, a, b, d)

pub returns : goal.returns
unfolding field number_of A5.extra_unprivileged
returns c =
    looked A5.extra_unprivileged columns 90 depends tt c.args.w
    (then 2 (then 2 c.column.ensures.0 c.column-2.ensures.0) c.column-3.ensures.0)
    c.title.ensures
