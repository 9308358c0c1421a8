-- `tables::barrier` meets its contract. Assumes nothing.
use Rattle.std.proofs.Common.{◌≡◌, Bool, true, List, [], ◌∷◌, ℕ, ◌*◌, ◌^◌, eqb-true, eq-eqb, eqb}
use Rattle.word.specs.Field.{field}
use Rattle.manual.specs.A5 as A5
use Rattle.manual_tables.specs.Titles.{number_of}
use Rattle.manual_tables.proofs.Place.{Column, bits, Same, looked_where}
use Rattle.manual_tables.proofs.barrier.Goals as goal

abbrev columns : List Column
columns = bits 4 4 ∷ []

abbrev asked : ℕ → Bool
asked w = eqb (field w 20 7) 87

depends : (w w' : ℕ) → asked w ≡ true → asked w' ≡ true → Same columns w w' → A5.hints_and_simd w ≡ A5.hints_and_simd w'
depends w w' g g' (a, end) = unfold A5.hints_and_simd in simp (eqb-true (field w 20 7) 87 g, eqb-true (field w' 20 7) 87 g', a)

pub returns : goal.returns
unfolding field number_of A5.hints_and_simd
returns c =
    looked_where A5.hints_and_simd asked (87 * 2 ^ 20) columns 242 depends tt c.args.w (eq-eqb _ _ c.requires)
    c.column-place.ensures.0 c.title.ensures
