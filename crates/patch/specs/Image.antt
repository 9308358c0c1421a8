-- The image of a section's words with a patch's words laid over them, byte by byte (02, P11).
use Rattle.std.specs.Prelude.{Bool, false, List, ◌∷◌, ℕ, ◌+◌, ◌-◌, ◌/◌, ◌%◌, leb, ltb, length, get_or}
use Rattle.std.proofs.Math.Option.{Option, none, some}
use Rattle.word.specs.Choice.{pick, both}
use Rattle.section.specs.Section.{refusal_of}

-- the bytes of words, and the address of the first
pub record Laid : Type 0 where
  pub words : List ℕ
  pub base : ℕ

infixl 20 ◌from◌
abbrev pub ◌from◌ : List ℕ → ℕ → Laid
words from base = record { words = words; base = base }

-- an address that words have, and the byte there
abbrev pub has : Laid → ℕ → Bool
has l a = both (leb l.base a) (ltb a (l.base + length l.words))

abbrev pub byte_of : Laid → ℕ → ℕ
byte_of l a = get_or l.words (a - l.base) 0

-- who holds the byte at an address, the patch or the "unhidden section": "Patch bytes hide the section's"
abbrev pub in_patch : Laid → Laid → ℕ → Bool
in_patch s p a = has p a

abbrev pub in_section : Laid → Laid → ℕ → Bool
in_section s p a = pick (has p a) false (has s a)

-- the byte: the patch's, else the section's, else none
abbrev pub byte_at : Laid → Laid → ℕ → Option ℕ
byte_at s p a = pick (in_patch s p a) (some (byte_of p a)) (pick (in_section s p a) (some (byte_of s a)) none)

-- the section of version 1 with this base, which has four bytes, low byte first, and these words
abbrev pub section_with : Laid → List ℕ
section_with l =
    82 ∷ 83 ∷ 88 ∷ 1 ∷ 0
    ∷ l.base % 0x100 ∷ l.base / 0x100 % 0x100 ∷ l.base / 0x1_0000 % 0x100 ∷ l.base / 0x100_0000
    ∷ l.words

-- "7, 8 and 9 as for a section's words and base"; 0 if there is none
unfoldable pub words_refusal : Laid → ℕ
words_refusal l = refusal_of (section_with l)
