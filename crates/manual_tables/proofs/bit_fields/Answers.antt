-- `tables::bit_fields` meets its contract. Assumes nothing.
use Rattle.std.proofs.Common.{◌≡◌, Bool, true, List, [], ◌∷◌, ℕ, ◌+◌, ◌*◌, ◌/◌, ◌%◌, ◌^◌, arith, eqb-true, eq-eqb, eqb}
use Rattle.word.specs.Field.{field, small}
use Rattle.manual.specs.A5 as A5
use Rattle.manual_tables.specs.Titles.{number_of}
use Rattle.manual_tables.proofs.Place.{Column, bits, is, Same, then, looked_where}
use Rattle.manual_tables.proofs.Parts.{media_op1}
use Rattle.manual_tables.proofs.bit_fields.Goals as goal

abbrev columns : List Column
columns = bits 20 3 ∷ bits 5 3 ∷ is 12 4 15 ∷ is 0 4 15 ∷ []

abbrev asked : ℕ → Bool
asked w = eqb (field w 23 2) 3

upper_16 : (w : ℕ) → (24 + field w 20 3) / 16 % 2 ≡ 1
upper_16 w = omega (arith, small w 20 3)

upper_8 : (w : ℕ) → (24 + field w 20 3) / 8 % 2 ≡ 1
upper_8 w = omega (arith, small w 20 3)

depends : (w w' : ℕ) → asked w ≡ true → asked w' ≡ true → Same columns w w' → A5.media w ≡ A5.media w'
unfolding A5.media
depends w w' g g' (a, (b, (d, (e, end)))) =
    simp (media_op1, eqb-true (field w 23 2) 3 g, eqb-true (field w' 23 2) 3 g', a, b, d, e, upper_16 w', upper_8 w')

pub returns : goal.returns
unfolding field number_of A5.media
returns c =
    looked_where A5.media asked (3 * 2 ^ 23) columns 210 depends tt c.args.w
    (eq-eqb _ _ c.requires) (then 2 (then 2 (then 8 c.column.ensures.0
    c.column-2.ensures.0) c.is.ensures.0) c.is-2.ensures.0) c.title.ensures
