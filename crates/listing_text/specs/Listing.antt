-- The listing of a section (01, "Section and listing"; 02, P6).
use mathlib.Core.List.{List, [], ◌++◌, foldl}
use Rattle.std.specs.Prelude.{ℕ, ◌+◌, ◌-◌, eqb}
use Prim.Native.String.{String}
use Rattle.word.specs.Choice.{pick}
use Rattle.word.specs.Refusal.{refused_with}
use Rattle.a32.specs.Decode.{decode_of}
use Rattle.text.specs.Text.{bytes, decimal_of, hex_of}
use Rattle.line_spelling.specs.Line.{refused_text, line_of}
use Rattle.section.specs.Section.{opened_of, opening_of, places_of}
use Rattle.section.specs.declared.Here.{Here}
use Rattle.section.specs.declared.Here.TheVariants.{Word, Data, End}
use Rattle.section.specs.declared.Opened.{Opened}

-- "Header: mark, version, base, count"
unfoldable pub header_of : Opened → List ℕ
header_of o =
    bytes "RSX " ++ decimal_of o.version ++
    bytes " " ++ hex_of 8 o.base ++
    bytes " " ++ decimal_of o.count ++
    bytes "\n"

-- "A data word's line ends `data` in place of an answer"
unfoldable pub data_line : ℕ → ℕ → List ℕ
data_line addr w = hex_of 8 addr ++ bytes " " ++ hex_of 8 w ++ bytes " data\n"

-- the lines of what stands at places, one after the other
abbrev pub line_here : Here → List ℕ
line_here (Word word address) = line_of address word
line_here (Data word address) = data_line address word
line_here End = []

abbrev pub add_line : List ℕ → Here → List ℕ
add_line text here = text ++ line_here here

abbrev pub lines_of : List Here → List ℕ
lines_of places = foldl add_line [] places

-- how many of their words are named, how many are refused, and how many are data
abbrev pub named_here : Here → ℕ
named_here (Word word address) = pick (eqb (refused_with (decode_of word address)) 0) 1 0
named_here (Data word address) = 0
named_here End = 0

abbrev pub refused_here : Here → ℕ
refused_here (Word word address) = pick (eqb (refused_with (decode_of word address)) 0) 0 1
refused_here (Data word address) = 0
refused_here End = 0

abbrev pub data_here : Here → ℕ
data_here (Word word address) = 0
data_here (Data word address) = 1
data_here End = 0

abbrev pub adding : (Here → ℕ) → ℕ → Here → ℕ
adding one n here = n + one here

abbrev pub total : (Here → ℕ) → List Here → ℕ
total one places = foldl (adding one) 0 places

-- "6 words 4 named 2 refused"; "version 2's closing line gains a last `N data`"
abbrev pub counted : ℕ → String → List ℕ
counted n what = decimal_of n ++ bytes what

abbrev pub last_count : ℕ → ℕ → List ℕ
last_count version pool = pick (eqb version 2) (bytes " " ++ counted pool " data") []

unfoldable pub closing_of : ℕ → ℕ → ℕ → ℕ → ℕ → List ℕ
closing_of version count named refused pool =
    counted count " words " ++
    counted named " named " ++
    counted refused " refused" ++
    last_count version pool ++
    bytes "\n"

-- the same by what a section was opened to: words that are neither named nor data are refused (`adds-up`)
abbrev pub closes : Opened → ℕ → ℕ → List ℕ
closes o named pool = closing_of o.version o.count named (o.count - named - pool) pool

-- of a section that is accepted
unfoldable pub listed_of : List ℕ → List ℕ
listed_of s =
    header_of (opening_of s) ++
    lines_of (places_of s) ++
    closing_of (opening_of s).version (opening_of s).count (total named_here (places_of s)) (total refused_here (places_of s)) (total data_here (places_of s))

-- "A refused section prints `refused N` alone"
abbrev pub refusal_line : ℕ → List ℕ
refusal_line n = refused_text n ++ bytes "\n"

unfoldable pub listing_of : List ℕ → List ℕ
listing_of s = pick (eqb (refused_with (opened_of s)) 0) (listed_of s) (refusal_line (refused_with (opened_of s)))
