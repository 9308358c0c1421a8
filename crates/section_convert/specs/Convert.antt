-- A section in its other version (02, P6).
use Rattle.std.specs.Prelude.{List, [], ◌∷◌, ◌++◌, ℕ, eqb, take, drop}
use Rattle.word.specs.Choice.{pick}
use Rattle.word.specs.Refusal.{HAS_RANGES, refusing}
use Rattle.text.specs.Fits.{Written, answer_of, last_of}
use Rattle.section.specs.Section.{version_of, range_count, refusal_of}
use Rattle.section_convert.specs.declared.Target.{Target}
use Rattle.section_convert.specs.declared.Target.TheVariants.{One, Two}

-- the version that a target names, and the target that names a section's version
abbrev pub number_of : Target → ℕ
number_of One = 1
number_of Two = 2

abbrev pub own_of : List ℕ → Target
own_of s = pick (eqb (version_of s) 1) One Two

-- mark, another version, base
abbrev pub header_as : ℕ → List ℕ → List ℕ
header_as version s = take 3 s ++ version ∷ 0 ∷ [] ++ take 4 (drop 5 s)

-- "Conversion of version 1 writes no ranges": a count of 0, then the words
abbrev pub as_two : List ℕ → List ℕ
as_two s = header_as 2 s ++ 0 ∷ 0 ∷ [] ++ drop 9 s

-- "back is possible only with none": after their count stand the words
abbrev pub as_one : List ℕ → List ℕ
as_one s = header_as 1 s ++ drop 11 s

-- "to its own version it copies; no other target can be named"
unfoldable pub converted_of : Target → List ℕ → List ℕ
converted_of One s = pick (eqb (version_of s) 1) s (as_one s)
converted_of Two s = pick (eqb (version_of s) 2) s (as_two s)

-- the section's own refusals; "then 12 converting back with ranges"
unfoldable pub conversion_refusal : Target → List ℕ → ℕ
conversion_refusal One s = pick (eqb (refusal_of s) 0) (pick (eqb (range_count s) 0) 0 HAS_RANGES) (refusal_of s)
conversion_refusal Two s = refusal_of s

-- the converted section's length; "last 10 when the converted section doesn't fit the lent buffer"
unfoldable pub given_of : Target → List ℕ → List ℕ → Written
given_of target s out =
    pick (eqb (conversion_refusal target s) 0) (answer_of (converted_of target s) out) (refusing (conversion_refusal target s))

-- the converted section stands at the buffer's start, and nothing after it changes; a refusal changes nothing
unfoldable pub left_of : Target → List ℕ → List ℕ → List ℕ
left_of target s out = pick (eqb (conversion_refusal target s) 0) (last_of (converted_of target s) out) out
