-- A section with a patch laid over it, as a section of its own (02, P11).
use Rattle.std.specs.Prelude.{List, ◌++◌, ℕ, ◌+◌, eqb, length, take, drop}
use Rattle.std.proofs.Math.Option.{Option, none, some}
use Rattle.word.specs.Choice.{pick}
use Rattle.word.specs.Refusal.{refusing}
use Rattle.text.specs.Fits.{Written, answer_of, last_of}
use Rattle.section.specs.Section.{base_of, start_of, firsts, refusal_of}
use Rattle.patch.specs.Image.{Laid, ◌from◌, byte_at}

-- the words of a section, data or not, at its base
abbrev pub laid_of : List ℕ → Laid
laid_of s = drop (start_of s) s from base_of s

-- the byte at an address of the image, where there is one
abbrev pub there : Option ℕ → ℕ
there none = 0
there (some b) = b

abbrev pub image_byte : Laid → Laid → ℕ → ℕ
image_byte s p i = there (byte_at s p (s.base + i))

-- the image's bytes at the section's addresses
unfoldable pub image_of : Laid → Laid → List ℕ
image_of s p = firsts (image_byte s p) (length s.words)

-- header and ranges are the section's, and each word is the image's
unfoldable pub patched_of : List ℕ → List ℕ → List ℕ
patched_of s p = take (start_of s) s ++ image_of (laid_of s) (laid_of p)

-- "section first and then patch": each has a section's refusals
unfoldable pub patched_refusal : List ℕ → List ℕ → ℕ
patched_refusal s p = pick (eqb (refusal_of s) 0) (refusal_of p) (refusal_of s)

-- the patched section's length; last, 10 if it is longer than the lent buffer
unfoldable pub patched_given : List ℕ → List ℕ → List ℕ → Written
patched_given s p out =
    pick (eqb (patched_refusal s p) 0) (answer_of (patched_of s p) out) (refusing (patched_refusal s p))

-- it stands at the buffer's start, and nothing after it changes; a refusal changes nothing
unfoldable pub patched_left : List ℕ → List ℕ → List ℕ → List ℕ
patched_left s p out = pick (eqb (patched_refusal s p) 0) (last_of (patched_of s p) out) out
