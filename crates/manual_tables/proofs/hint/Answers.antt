-- `tables::hint` meets its contract. Assumes nothing.
use Rattle.std.proofs.Common.{◌≡◌, Bool, true, List, [], ◌∷◌, ℕ, eqb-true, eqb}
use Rattle.word.specs.Choice.{both}
use Rattle.word.specs.Field.{field}
use Rattle.manual.specs.A5 as A5
use Rattle.manual_tables.specs.Titles.{number_of}
use Rattle.manual_tables.proofs.Place.{Column, bits, Same, looked_where}
use Rattle.manual_tables.proofs.Parts.{both_true}
use Rattle.manual_tables.proofs.hint.Goals as goal

abbrev columns : List Column
columns = bits 0 8 ∷ []

abbrev asked : ℕ → Bool
asked w = both (eqb (field w 22 1) 0) (eqb (field w 16 4) 0)

zero : (w : ℕ) → asked w ≡ true → (field w 22 1 ≡ 0) × (field w 16 4 ≡ 0)
zero w g = (
  eqb-true _ _ (both_true (eqb (field w 22 1) 0) (eqb (field w 16 4) 0) g).0,
  eqb-true _ _ (both_true (eqb (field w 22 1) 0)
      (eqb (field w 16 4) 0) g).1,
)

depends : (w w' : ℕ) → asked w ≡ true → asked w' ≡ true → Same columns w w' → A5.msr_and_hints w ≡ A5.msr_and_hints w'
depends w w' g g' (a, end) = unfold A5.msr_and_hints in simp (a, (zero w g).0, (zero w g).1, (zero w' g').0, (zero w' g').1)

pub returns : goal.returns
unfolding field number_of A5.msr_and_hints
returns c =
    looked_where A5.msr_and_hints asked (0) columns 103 depends tt c.args.w
    (simp (c.requires.0, c.requires.1)) c.column-place.ensures.0 c.title.ensures
