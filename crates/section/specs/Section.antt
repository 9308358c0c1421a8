-- A section of words and data (01, "Section and listing" and "Refusal numbers"; 02, P6).
use Rattle.std.specs.Prelude.{◌≡◌, Bool, true, false, not, List, [], ◌∷◌, ◌++◌, ℕ, zero, suc, ◌+◌, ◌-◌, ◌*◌, ◌/◌, ◌%◌, ◌^◌, eqb, ltb, length, get_or, drop, Option, Some, None, Result, Ok, Err}
use Rattle.word.specs.Bytes.{word_at}
use Rattle.word.specs.Choice.{pick, both}
use Rattle.word.specs.Refusal.{BAD_MARK, BAD_VERSION, BAD_LENGTH, TOO_MANY_WORDS, BAD_RANGES, BAD_BASE, refusing}
use Rattle.word.specs.declared.refusal.Refusal.{Refusal}
use Rattle.section.specs.Ranges.{rules_hold, is_data}
use Rattle.section.specs.declared.Range.{Range}
use Rattle.section.specs.declared.Opened.{Opened}
use Rattle.section.specs.declared.Here.{Here}
use Rattle.section.specs.declared.Here.TheVariants.{Word, Data, End}
use Rattle.section.specs.declared.Step.{Step}

-- "A section: `RSX`, version (2 bytes), base (4 bytes), words, low byte first"
abbrev pub marked_of : List ℕ → Bool
marked_of s = both (eqb (get_or s 0 0) 82) (both (eqb (get_or s 1 0) 83) (eqb (get_or s 2 0) 88))

-- the number of the two bytes from place at on
abbrev pub half_at : List ℕ → ℕ → ℕ
half_at s at = get_or s at 0 + 0x100 * get_or s (at + 1) 0

abbrev pub version_of : List ℕ → ℕ
version_of s = half_at s 3

-- "6 now means neither 1 nor 2"
abbrev pub is_known : ℕ → Bool
is_known version = pick (eqb version 1) true (eqb version 2)

abbrev pub base_of : List ℕ → ℕ
base_of s = word_at s 5

-- "Version 2 of RSX has, after the base, a 2-byte count of ranges .. and for each range a 4-byte first place (from 0) and a 4-byte number of words,
-- then the words"; version 1 has no ranges
abbrev pub range_count : List ℕ → ℕ
range_count s = pick (eqb (version_of s) 2) (half_at s 9) 0

abbrev pub start_of : List ℕ → ℕ
start_of s = pick (eqb (version_of s) 2) (11 + 8 * half_at s 9) 9

abbrev pub range_at : List ℕ → ℕ → Range
range_at s i = record { first = word_at s (11 + 8 * i); words = word_at s (11 + 8 * i + 4) }

-- what a function gives for the first n numbers
abbrev pub firsts : {A : Type 0} → (ℕ → A) → ℕ → List A
firsts at zero = []
firsts at (suc n) = firsts at n ++ at n ∷ []

abbrev pub ranges_of : List ℕ → ℕ → List Range
ranges_of s n = firsts (range_at s) n

-- how many words there are
abbrev pub count_of : List ℕ → ℕ
count_of s = (length s - start_of s) / 4

-- "Section checks in order: 9 bytes, mark, version, multiple of 4, count, base"; "7 also when the count or a range is cut short; 11 when the range
-- list breaks a rule above, after the count of words and before the base"; 0 if all hold
unfoldable pub refusal_of : List ℕ → ℕ
refusal_of s =
    pick (ltb (length s) 9) BAD_LENGTH
    (pick (not (marked_of s)) BAD_MARK
    (pick (not (is_known (version_of s))) BAD_VERSION
    (pick (ltb (length s) (start_of s)) BAD_LENGTH
    (pick (not (eqb ((length s - start_of s) % 4) 0)) BAD_LENGTH
    (pick (ltb 4096 (count_of s)) TOO_MANY_WORDS
    (pick (not (rules_hold (count_of s) (ranges_of s (range_count s)))) BAD_RANGES
    (pick (not (eqb (base_of s % 4) 0)) BAD_BASE
    (pick (ltb (2 ^ 32) (base_of s + 4 * count_of s)) BAD_BASE
    0))))))))

-- what a section is opened to; "A refusal returns its number only"
unfoldable pub opened_of : List ℕ → Result Opened Refusal
opened_of s =
    pick (eqb (refusal_of s) 0)
    (Ok (record { version = version_of s; base = base_of s; count = count_of s; ranges = range_count s; start = start_of s }))
    (refusing (refusal_of s))

-- the bytes of a section that is accepted
abbrev pub section_of : List ℕ → Result (List ℕ) Refusal
section_of s = pick (eqb (refusal_of s) 0) (Ok s) (refusing (refusal_of s))

-- what it is opened to, where one that is refused has no places
abbrev pub opened_in : Result Opened Refusal → Opened
opened_in (Ok o) = o
opened_in (Err r) = record { version = 0; base = 0; count = 0; ranges = 0; start = 0 }

abbrev pub opening_of : List ℕ → Opened
opening_of s = opened_in (opened_of s)

-- "each word with base + 4 x place"; a word that a range has is data
abbrev pub here_at : List ℕ → Opened → ℕ → Here
here_at s o place =
    pick (is_data (ranges_of s o.ranges) place)
    (Data (word_at s (o.start + 4 * place)) (o.base + 4 * place))
    (Word (word_at s (o.start + 4 * place)) (o.base + 4 * place))

abbrev pub is_end : Here → Bool
is_end (Word word address) = false
is_end (Data word address) = false
is_end End = true

-- a section as a list: what stands at each of its places. One that is refused has none
unfoldable pub places_of : List ℕ → List Here
places_of s = firsts (here_at s (opening_of s)) (opening_of s).count

-- "It gives each word with base + 4 x place, then the end"
abbrev pub here_of : List ℕ → ℕ → Here
here_of s place = get_or (places_of s) place End

-- the place after a place; at the end the same, so that what follows the end is the end
abbrev pub after_of : List ℕ → ℕ → ℕ
after_of s place = pick (ltb place (length (places_of s))) (place + 1) place

-- what is left from a place on
abbrev pub left_of : List ℕ → ℕ → List Here
left_of s place = drop place (places_of s)

-- where nothing is left, the end
abbrev pub here_in : Option Here → Here
here_in None = End
here_in (Some here) = here

-- what a reader finds at its place, and the place that it goes on to
abbrev pub step_of : List ℕ → ℕ → Step
step_of s place = record { here = here_of s place; after = after_of s place }

-- what it finds as an option, none at the end, and where it goes on
abbrev pub Steps : List ℕ → ℕ → Option Here → ℕ → Type 0
Steps s place found after = record { here = here_in found; after = after } ≡ step_of s place
