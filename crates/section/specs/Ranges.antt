-- The ranges of a section, whose words are data (02, P6).
use Rattle.std.specs.Prelude.{Bool, true, false, List, [], ◌∷◌, ℕ, ◌+◌, leb, ltb, length}
use Rattle.word.specs.Choice.{pick, both}
use Rattle.section.specs.declared.Range.{Range}

-- the place after a range's last
abbrev pub end_of : Range → ℕ
end_of r = r.first + r.words

-- a range in a section of `count` words, where those before it end before place `from`: "not empty", "in the section", "ascend and don't overlap"
abbrev pub follows : ℕ → ℕ → Range → Bool
follows count from r = both (ltb 0 r.words) (both (leb (end_of r) count) (leb from r.first))

abbrev pub in_order : ℕ → ℕ → List Range → Bool
in_order count from [] = true
in_order count from (r ∷ rs) = both (follows count from r) (in_order count (end_of r) rs)

-- "a 2-byte count of ranges (at most 64)"; "Ranges are not empty, lie in the section, ascend and don't overlap"
abbrev pub rules_hold : ℕ → List Range → Bool
rules_hold count rs = both (leb (length rs) 64) (in_order count 0 rs)

-- a place that a range has, and one that a range of a list has
abbrev pub has : Range → ℕ → Bool
has r place = both (leb r.first place) (ltb place (end_of r))

abbrev pub is_data : List Range → ℕ → Bool
is_data [] place = false
is_data (r ∷ rs) place = pick (has r place) true (is_data rs place)
