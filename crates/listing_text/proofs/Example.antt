-- A data word's line, and closing lines of both versions. Assumes nothing.
use mathlib.Core.Path.{◌≡◌, refl}
use mathlib.Core.List.{◌++◌, append_assoc}
use Prim.Native.Nat.{ℕ}
use Rattle.text.specs.Text.{bytes, decimal_of, hex_of}
use Rattle.section.specs.declared.Here.TheVariants.{Data}
use Rattle.listing_text.specs.Listing.{data_line, line_here, closing_of}

line : line_here (Data 0x12345678 0x8010) ≡ bytes "00008010 12345678 data\n"
line = unfold data_line hex_of in refl

closing : closing_of 2 6 4 1 1 ≡ bytes "6 words 4 named 1 refused 1 data\n"
closing = unfold closing_of decimal_of in refl

-- with no words, and no ranges
none : closing_of 2 0 0 0 0 ≡ bytes "0 words 0 named 0 refused 0 data\n"
none = unfold closing_of decimal_of in refl

-- the closing line of version 1, as 01 has it
pub first_closing : (count named refused pool : ℕ)
    → closing_of 1 count named refused pool
    ≡ decimal_of count ++ bytes " words " ++ decimal_of named ++ bytes " named " ++ decimal_of refused ++ bytes " refused\n"
first_closing count named refused pool = unfold closing_of in simp append_assoc
