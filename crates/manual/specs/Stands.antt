-- What is claimed of a word: the decoder's answer is what the manual says, or a departure covers the word, tells the answer, and there is a
-- departure.
use Rattle.std.specs.Prelude.{◌≡◌, Bool, not, ℕ, eqb}
use Prim.Native.String.{String}
use Rattle.word.specs.Choice.{both}
use Rattle.word.specs.Field.{field}
use Rattle.word.specs.Refusal.{NO_ROW}
use Rattle.insn.specs.Answer.{refused}
use Rattle.insn.specs.Answer.{Decoded}
use Rattle.a32_coproc.specs.Coproc.{floating_of}
use Rattle.a32.specs.Decode.{decode_of}
use Rattle.manual.specs.A5.{table_row}
use Rattle.manual.specs.A8.{Said, reads, beyond, names, unlisted, undefined, unpredictable, page_of, said_of}
use Rattle.manual.specs.Departures.{Standing, follows, departs, standing_of, port_of}

-- a page's reading is the answer, where 01 has a place for it; what is named and not read, or left undefined or unpredictable, is refused
abbrev pub Agrees : Said → Decoded → Type 0
Agrees (reads a) d = d ≡ a
Agrees (beyond s) d = ⊥
Agrees (names s) d = d ≡ refused NO_ROW
Agrees unlisted d = ⊥
Agrees undefined d = d ≡ refused NO_ROW
Agrees unpredictable d = d ≡ refused NO_ROW

abbrev pub StandsAs : Standing → String → String → ℕ → ℕ → Decoded → Type 0
StandsAs follows row page w addr d = Agrees (said_of w addr page) d
StandsAs (departs it) row page w addr d = (d ≡ port_of w addr it row page) × (Agrees (said_of w addr page) d → ⊥)

-- an answer stands beside a row of A5's tables, and the page that reads it
abbrev pub Stands : String → ℕ → ℕ → Decoded → Type 0
Stands row w addr d = StandsAs (standing_of (page_of row w) w) row (page_of row w) w addr d

-- demand 2's range: condition 15, or bits 27:26 other than 11, or coprocessors other than 10 and 11
abbrev pub in_range : ℕ → Bool
in_range w = not (both (not (eqb (field w 28 4) 15)) (both (eqb (field w 26 2) 3) (floating_of w)))

abbrev pub StandsAt : ℕ → ℕ → Type 0
StandsAt w addr = Stands (table_row w) w addr (decode_of w addr)
