-- Runs of a section of four words with a patch over the third, at every border; and pairs that fail one check or several. Assumes nothing.
use mathlib.Core.Path.{◌≡◌, refl}
use mathlib.Core.List.{[], ◌∷◌, map}
use Prim.Native.Nat.{ℕ}
use lib.ListN.{replicate}
use Rattle.section.specs.Section.{refusal_of}
use Rattle.patch.specs.Image.{Laid, ◌from◌, words_refusal}
use Rattle.patch.specs.Run.{Answer, held_of, found_of, run_refusal}
use Rattle.std.specs.Prelude.{Ok}
use Rattle.word.specs.Refusal.{refusing}
use Rattle.patch.specs.declared.Found.TheVariants.{Patch, Section}

-- so many bytes at a base
abbrev made : ℕ → ℕ → Laid
made size base = replicate size 0 from base

abbrev look : ℕ × ℕ → Answer
look run = found_of (made 16 0x8000) (made 4 0x8008) run.0 run.1

finds :
    map look
    ((0x8000, 8) ∷ (0x8003, 5) ∷ (0x8008, 4) ∷ (0x800b, 1) ∷ (0x800c, 4) ∷ (0x800f, 1) ∷ [])
    ≡ Ok (Section 0) ∷ Ok (Section 3) ∷ Ok (Patch 0) ∷ Ok (Patch 3) ∷ Ok (Section 12) ∷ Ok (Section 15) ∷ []
finds = unfold refusal_of words_refusal held_of found_of in refl

-- empty, across a border, beside the section, and beyond 32 bits
finds_none :
    map look
    ((0x8000, 0) ∷ (0x8008, 0) ∷ (0x8007, 2) ∷ (0x800b, 2) ∷ (0x8000, 16) ∷ (0x7fff, 2) ∷ (0x800f, 2) ∷ (0x8010, 1) ∷ (0x1_0000_8000, 1) ∷ [])
    ≡ replicate 9 (refusing 14)
finds_none = unfold refusal_of words_refusal held_of found_of in refl

-- the section's words and base, then the patch's, then the run, which is empty in all of these
abbrev refuse : Laid × Laid → ℕ
refuse pair = run_refusal pair.0 pair.1 0 0

refuses :
    map refuse
    ((made 3 1, made 16388 0)
    ∷ (made 16388 1, made 3 1)
    ∷ (made 4 1, made 3 1)
    ∷ (made 8 0xffff_fffc, made 3 1)
    ∷ (made 4 0xffff_fffc, made 3 1)
    ∷ (made 4 0, made 16388 1)
    ∷ (made 4 0, made 4 2)
    ∷ (made 0 0, made 0 0)
    ∷ [])
    ≡ 7 ∷ 8 ∷ 9 ∷ 9 ∷ 7 ∷ 8 ∷ 9 ∷ 14 ∷ []
refuses = unfold refusal_of words_refusal held_of found_of in refl
