-- `tables::preload` meets its contract. Assumes nothing.
use Rattle.std.proofs.Common.{◌≡◌, refl, Bool, true, List, [], ◌∷◌, ℕ, eqb}
use Prim.Native.String.{String}
use Rattle.word.specs.Choice.{pick, by_test}
use Rattle.word.specs.Field.{field}
use Rattle.manual.specs.A5 as A5
use Rattle.manual_tables.specs.Titles.{number_of}
use Rattle.manual_tables.proofs.Place.{Column, bits, is, Same, then, looked_where}
use Rattle.manual_tables.proofs.Parts.{op2_4, either, neither, kept, pick_same}
use Rattle.manual_tables.proofs.preload.Goals as goal

abbrev columns : List Column
columns = bits 20 7 ∷ bits 4 1 ∷ is 16 4 15 ∷ []

abbrev asked : ℕ → Bool
asked w = true

abbrev row : ℕ → String
row w = pick (either (eqb (field w 20 7) 16) (eqb (field w 20 7) 87)) "UNDEFINED" (A5.hints_and_simd w)

depends : (w w' : ℕ) → asked w ≡ true → asked w' ≡ true → Same columns w w' → row w ≡ row w'
unfolding A5.hints_and_simd
depends w w' g g' (a, (b, (d, end))) =
    by_test (eqb (field w' 20 7) 16) (λ e. simp (a, e)) (λ e. by_test (eqb (field w' 20 7) 87) (λ f. simp (a, e, f))
    (λ f. simp (a, op2_4, b, d, e, f, pick_same)))

pub returns : goal.returns
unfolding field number_of A5.hints_and_simd
returns c =
    kept (either (eqb (field c.args.w 20 7) 16) (eqb (field
    c.args.w 20 7) 87)) (neither c.requires.0
    c.requires.1) (looked_where row asked (0) columns 242 depends tt c.args.w
    (refl) (then 2 (then 2 c.column.ensures.0 c.column-2.ensures.0) c.is.ensures.0)
    c.title.ensures)
