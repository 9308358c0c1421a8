-- The section of 01's listing, one with data, and sections that fail one check or several. Assumes nothing.
use mathlib.Core.Path.{◌≡◌, refl}
use mathlib.Core.List.{List, [], ◌∷◌, ◌++◌, map}
use Prim.Native.Nat.{ℕ}
use Rattle.std.specs.Prelude.{Ok}
use lib.ListN.{replicate}
use Rattle.section.specs.Section.{refusal_of, opened_of, places_of}
use Rattle.section.specs.declared.Here.TheVariants.{Word, Data}

abbrev listed : List ℕ
listed =
    0x52 ∷ 0x53 ∷ 0x58 ∷ 0x01 ∷ 0x00 ∷ 0x00 ∷ 0x80 ∷ 0x00 ∷ 0x00 ∷ 0x10 ∷ 0x40 ∷ 0x2d ∷ 0xe9 ∷ 0x0e ∷ 0xf0 ∷ 0xa0 ∷ 0xe1
    ∷ 0x4f ∷ 0xf0 ∷ 0x7f ∷ 0xf5 ∷ 0x5f ∷ 0xf0 ∷ 0x7f ∷ 0xf5 ∷ 0xfe ∷ 0xff ∷ 0xff ∷ 0x0a ∷ 0x00 ∷ 0x00 ∷ 0x00 ∷ 0xef ∷ []

opens : opened_of listed ≡ Ok (record { version = 1; base = 0x8000; count = 6; ranges = 0; start = 9 })
opens = unfold refusal_of opened_of in refl

holds :
    places_of listed
    ≡ Word 0xe92d4010 0x8000
    ∷ Word 0xe1a0f00e 0x8004
    ∷ Word 0xf57ff04f 0x8008
    ∷ Word 0xf57ff05f 0x800c
    ∷ Word 0x0afffffe 0x8010
    ∷ Word 0xef000000 0x8014
    ∷ []
holds = unfold refusal_of opened_of places_of in refl

-- a mark's last byte, a version, a base's lowest byte and its others, and so many bytes of words
abbrev made : ℕ → ℕ → ℕ → ℕ → ℕ → List ℕ
made mark version low high size = 0x52 ∷ 0x53 ∷ mark ∷ version ∷ 0x00 ∷ low ∷ high ∷ high ∷ high ∷ replicate size 0

-- the first check that fails gives the number; a section may end at 2 ^ 32
refuses :
    map refusal_of
    ((0x52 ∷ 0x53 ∷ 0x59 ∷ [])
    ∷ made 0x59 3 1 0 1
    ∷ made 0x58 3 1 0 1
    ∷ made 0x58 1 1 0 16389
    ∷ made 0x58 1 1 0 16388
    ∷ made 0x58 1 1 0 4
    ∷ made 0x58 1 0xfc 0xff 8
    ∷ made 0x58 1 0xfc 0xff 4
    ∷ [])
    ≡ 7 ∷ 5 ∷ 6 ∷ 7 ∷ 8 ∷ 9 ∷ 9 ∷ 0 ∷ []
refuses = unfold refusal_of in refl

-- of version 2: a base's lowest byte, a count of ranges, the bytes of ranges, and so many bytes of words
abbrev ranged : ℕ → ℕ → List ℕ → ℕ → List ℕ
ranged low count ranges size = 0x52 ∷ 0x53 ∷ 0x58 ∷ 2 ∷ 0 ∷ low ∷ 0 ∷ 0 ∷ 0 ∷ count ∷ 0 ∷ ranges ++ replicate size 0

-- first places and numbers of words
abbrev fours : List ℕ → List ℕ
fours [] = []
fours (n ∷ ns) = n ∷ 0 ∷ 0 ∷ 0 ∷ fours ns

holds_data : places_of (ranged 0 2 (fours (1 ∷ 1 ∷ 2 ∷ 1 ∷ [])) 16) ≡ Word 0 0 ∷ Data 0 4 ∷ Data 0 8 ∷ Word 0 12 ∷ []
holds_data = unfold refusal_of opened_of places_of in refl

-- every one of these has a base that is no multiple of 4. A count that is cut short, and a range; words that are no multiple of 4 bytes, and too
-- many, with a range that is empty; a range that is empty, one that ends beyond the words, one whose end is beyond 32 bits, two that overlap, two
-- that descend, and 65 of them, all there and not; two that touch
refuses_ranges :
    map refusal_of
    (made 0x58 2 1 0 1
    ∷ ranged 1 1 (fours (0 ∷ [])) 0
    ∷ ranged 1 1 (fours (0 ∷ 0 ∷ [])) 16389
    ∷ ranged 1 1 (fours (0 ∷ 0 ∷ [])) 16388
    ∷ ranged 1 1 (fours (0 ∷ 0 ∷ [])) 4
    ∷ ranged 1 1 (fours (1 ∷ 1 ∷ [])) 4
    ∷ ranged 1 1 (replicate 4 0xff ++ fours (2 ∷ [])) 4
    ∷ ranged 1 2 (fours (0 ∷ 2 ∷ 1 ∷ 1 ∷ [])) 8
    ∷ ranged 1 2 (fours (1 ∷ 1 ∷ 0 ∷ 1 ∷ [])) 8
    ∷ ranged 1 65 (replicate 520 0) 4
    ∷ ranged 1 65 (replicate 519 0) 0
    ∷ ranged 1 2 (fours (0 ∷ 1 ∷ 1 ∷ 1 ∷ [])) 8
    ∷ [])
    ≡ 7 ∷ 7 ∷ 7 ∷ 8 ∷ 11 ∷ 11 ∷ 11 ∷ 11 ∷ 11 ∷ 11 ∷ 7 ∷ 9 ∷ []
refuses_ranges = unfold refusal_of in refl
