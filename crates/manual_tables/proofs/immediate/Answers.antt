-- `tables::immediate` meets its contract. Assumes nothing.
use Rattle.std.proofs.Common.{◌≡◌, Bool, true, List, [], ◌∷◌, ℕ, ◌^◌, eqb-true, eq-eqb, eqb}
use Prim.Native.String.{String}
use Rattle.word.specs.Choice.{pick, by_test}
use Rattle.word.specs.Field.{field}
use Rattle.manual.specs.A5 as A5
use Rattle.manual.specs.Pattern.{like}
use Rattle.manual_tables.specs.Titles.{number_of}
use Rattle.manual_tables.proofs.Place.{Column, bits, is, Same, then, looked_where}
use Rattle.manual_tables.proofs.Parts.{kept}
use Rattle.manual_tables.proofs.immediate.Goals as goal

abbrev columns : List Column
columns = bits 20 5 ∷ is 16 4 15 ∷ []

abbrev asked : ℕ → Bool
asked w = eqb (field w 25 1) 1

abbrev row : ℕ → String
row w = pick (like (field w 20 5) "10x10") "UNDEFINED" (A5.data_processing w)

depends : (w w' : ℕ) → asked w ≡ true → asked w' ≡ true → Same columns w w' → row w ≡ row w'
unfolding A5.data_processing A5.data_processing_immediate
depends w w' g g' (a, (b, end)) =
    by_test (like (field w' 20 5) "10x10") (λ e. simp (a, e)) (λ e. simp (a, b, e, eqb-true (field w 25 1) 1 g, eqb-true (field w' 25 1) 1 g'))

pub returns : goal.returns
unfolding field number_of A5.data_processing A5.data_processing_immediate
returns c =
    kept (like (field c.args.w 20 5) "10x10") c.requires.1
    (looked_where row asked (2 ^ 25) columns 42 depends tt c.args.w (eq-eqb _ _ c.requires.0)
    (then 2 c.column.ensures.0 c.is.ensures.0) c.title.ensures)
