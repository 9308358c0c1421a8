-- A section that is accepted, as 01 and 02, P6, describe it: each rule by itself.
use Rattle.std.specs.Prelude.{◌≡◌, true, List, ◌⊎◌, ℕ, ◌+◌, ◌*◌, ◌%◌, ◌^◌, ◌<◌, ◌≤◌, length, get_or}
use Rattle.section.specs.Ranges.{end_of}
use Rattle.section.specs.Section.{marked_of, version_of, base_of, range_count, start_of, ranges_of, count_of}
use Rattle.section.specs.declared.Range.{Range}

-- the ranges of a list, by number
abbrev pub nth : List Range → ℕ → Range
nth rs i = get_or rs i (record { first = 0; words = 0 })

-- a place that a range has
abbrev pub Has : Range → ℕ → Type 0
Has r place = (r.first ≤ place) × (place < end_of r)

-- the rules of ranges, one by one: "at most 64", "not empty", "lie in the section", "ascend" and "don't overlap"
pub record Ruled (count : ℕ) (rs : List Range) : Type 0 where
  pub few : length rs ≤ 64
  pub some : (i : ℕ) → i < length rs → 0 < (nth rs i).words
  pub inside : (i : ℕ) → i < length rs → end_of (nth rs i) ≤ count
  pub ascend : (i j : ℕ) → i < j → j < length rs → (nth rs i).first < (nth rs j).first
  pub apart : (i j place : ℕ) → i < j → j < length rs → Has (nth rs i) place → Has (nth rs j) place → ⊥

pub record Accepted (s : List ℕ) : Type 0 where
  pub marked : marked_of s ≡ true
  pub version : (version_of s ≡ 1) ⊎ (version_of s ≡ 2)
  pub long : length s ≡ start_of s + 4 * count_of s
  pub few : count_of s ≤ 4096
  pub ruled : Ruled (count_of s) (ranges_of s (range_count s))
  pub aligned : base_of s % 4 ≡ 0
  pub below : base_of s + 4 * count_of s ≤ 2 ^ 32
