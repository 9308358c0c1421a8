-- The words whose home words are not as their page draws them: an answer depends on the bits. They are under departures from the manual, by their
-- names.
use Rattle.std.specs.Prelude.{Bool, true, false, not, List, [], ◌∷◌, ℕ, eqb}
use Prim.Native.String.{String}
use Rattle.word.specs.Field.{field}
use Rattle.manual.specs.A8.{row_of}
use Rattle.manual.specs.Departures.{Covering, ◌covers◌when◌, hint_bits, compare_15, literal_index, hints, compares, literals, is_offset}
use Rattle.manual.specs.Departures.{Standing, follows, departs, standing_among}
use Rattle.manual.specs.Reads.{addressing}

abbrev pub exceptions : ℕ → List Covering
exceptions w =
    -- a hint whose 15:12 are not ones is msr of no field. 02, P5: "keeps zero in 15:12, since ones there are a hint"
    (hint_bits covers hints when not (eqb (field w 12 4) 15)) ∷
    -- 01: "Register compares: 15:12 unless it is 15", in which case they branch
    (compare_15 covers compares when eqb (field w 12 4) 15) ∷
    -- P and W are read also where the base is PC. Of LDRB to PC, which is under load-15, too
    (literal_index covers literals when not (is_offset (addressing w))) ∷
    []

abbrev pub is_departure : Standing → Bool
is_departure follows = false
is_departure (departs it) = true

unfoldable pub excepted_as : String → ℕ → Bool
excepted_as row w = is_departure (standing_among row (exceptions w))

unfoldable pub excepted : ℕ → Bool
excepted w = excepted_as (row_of w) w
