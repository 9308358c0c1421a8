-- `tables::state` meets its contract. Assumes nothing.
use Rattle.std.proofs.Common.{◌≡◌, Bool, true, List, [], ◌∷◌, ℕ, ◌*◌, ◌^◌, eqb-true, eq-eqb, eqb}
use Rattle.word.specs.Field.{field}
use Rattle.manual.specs.A5 as A5
use Rattle.manual_tables.specs.Titles.{number_of}
use Rattle.manual_tables.proofs.Place.{Column, bits, Same, then, looked_where}
use Rattle.manual_tables.proofs.Parts.{rn_0}
use Rattle.manual_tables.proofs.state.Goals as goal

abbrev columns : List Column
columns = bits 4 4 ∷ bits 16 1 ∷ []

abbrev asked : ℕ → Bool
asked w = eqb (field w 20 7) 16

depends : (w w' : ℕ) → asked w ≡ true → asked w' ≡ true → Same columns w w' → A5.hints_and_simd w ≡ A5.hints_and_simd w'
unfolding A5.hints_and_simd
depends w w' g g' (a, (b, end)) = simp (eqb-true (field w 20 7) 16 g, eqb-true (field w' 20 7) 16 g', a, rn_0, b)

pub returns : goal.returns
unfolding field number_of A5.hints_and_simd
returns c =
    looked_where A5.hints_and_simd asked (16 * 2 ^ 20) columns 242 depends tt c.args.w
    (eq-eqb _ _ c.requires) (then 2 c.column.ensures.0 c.column-2.ensures.0)
    c.title.ensures
