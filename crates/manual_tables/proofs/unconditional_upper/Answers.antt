-- `tables::unconditional_upper` meets its contract. Assumes nothing.
use Rattle.std.proofs.Common.{◌≡◌, Bool, true, List, [], ◌∷◌, ℕ, ◌+◌, ◌/◌, ◌%◌, ◌^◌, arith, eqb-true, eq-eqb, eqb}
use Rattle.word.specs.Field.{field, small}
use Rattle.manual.specs.A5 as A5
use Rattle.manual_tables.specs.Titles.{number_of}
use Rattle.manual_tables.proofs.Place.{Column, bits, Same, then, looked_where}
use Rattle.manual_tables.proofs.Parts.{unconditional_op1}
use Rattle.manual_tables.proofs.unconditional_upper.Goals as goal

abbrev columns : List Column
columns = bits 20 7 ∷ bits 4 1 ∷ []

abbrev asked : ℕ → Bool
asked w = eqb (field w 27 1) 1

upper : (w : ℕ) → (128 + field w 20 7) / 128 % 2 ≡ 1
upper w = omega (arith, small w 20 7)

depends : (w w' : ℕ) → asked w ≡ true → asked w' ≡ true → Same columns w w' → A5.unconditional w ≡ A5.unconditional w'
unfolding A5.unconditional
depends w w' g g' (a, (b, end)) = simp (unconditional_op1, eqb-true (field w 27 1) 1 g, eqb-true (field w' 27 1) 1 g', a, b, upper w')

pub returns : goal.returns
unfolding field number_of A5.unconditional
returns c =
    looked_where A5.unconditional asked (2 ^ 27) columns 258 depends tt c.args.w
    (eq-eqb _ _ c.requires) (then 2 c.column.ensures.0 c.column-2.ensures.0)
    c.title.ensures
